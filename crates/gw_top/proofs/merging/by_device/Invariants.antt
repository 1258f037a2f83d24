use Rattle.std.proofs.Common.{◌≡◌, ℕ, nat_eq}
use Rattle.std.specs.Option.{option_or}
use Rattle.indexmap.specs.IndexMap.{get}
use Rattle.gw_top.specs.Merging.{share_in}
use Rattle.std.specs.Vec.Iter.{into_iter_items}
use Rattle.gw_top.proofs.merging.by_device.Given as goal

-- what the map has and what is left of the shares is what all shares have
abbrev pub invariant-loop-number : goal.invariant-loop-number
invariant-loop-number l =
    (number : ℕ)
    → option_or (share_in number (into_iter_items l.number-iterator))
    (get nat_eq l.devices number) ≡ share_in number (into_iter_items l.initial.number-iterator)
