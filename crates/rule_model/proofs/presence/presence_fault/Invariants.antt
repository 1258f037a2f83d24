use Rattle.std.proofs.Common.{◌≡◌, drop}
use Rattle.rule_model.specs.First.{first_held}
use Rattle.rule_model.specs.Presence.{presence}
use Rattle.rule_model.proofs.presence.presence_fault.Given as goal

abbrev pub invariant-loop-name : goal.invariant-loop-name
invariant-loop-name l =
    first_held (presence l.fields (drop l.name-index l.names)) ≡ first_held
    (presence l.fields l.fn.names)
