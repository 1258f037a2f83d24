use Rattle.std.proofs.Common.{◌≡◌, ◌++◌, option_map}
use Rattle.gw_top.specs.Groups.{shares_in}
use Rattle.std.specs.Vec.Iter.{into_iter_items}
use Rattle.gw_top.proofs.groups.all_shares.Given as goal

-- the shares so far, and those of the groups that are left
abbrev pub invariant-loop-group : goal.invariant-loop-group
invariant-loop-group l =
    option_map (λ others. l.all.items ++ others)
    (shares_in (into_iter_items l.group-iterator)) ≡ shares_in
    (into_iter_items l.initial.group-iterator)
