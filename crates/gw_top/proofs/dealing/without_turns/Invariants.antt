use Rattle.std.proofs.Common.{◌≡◌, ℕ, [], Some, drop, if◌then◌else◌, nat_eq}
use Rattle.indexmap.specs.IndexMap.{get}
use Rattle.script_lang.specs.Ranges.{is_declared}
use Rattle.gw_top.specs.Dealing.{none_yet}
use Rattle.gw_top.proofs.dealing.without_turns.Given as goal

-- the devices that are in the map, and those that are left, are those that are declared
abbrev pub invariant-loop-device : goal.invariant-loop-device
invariant-loop-device l =
    (number : ℕ)
    → (if is_declared (drop l.device-index l.devices) number then Some []
    else get nat_eq l.turns number)
    ≡ none_yet l.devices number
