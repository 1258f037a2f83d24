use Rattle.std.proofs.Common.{◌≡◌, ◌++◌}
use Rattle.std.specs.Vec.Iter.{into_iter_items}
use Rattle.gw_top.proofs.groups.append.Given as goal

-- what is there and what is left of the group
abbrev pub invariant-loop-share : goal.invariant-loop-share
invariant-loop-share l =
    l.all.items ++ into_iter_items l.share-iterator ≡ l.initial.all.items ++ into_iter_items
    l.initial.share-iterator
