use Rattle.std.proofs.Common.{◌≡◌, ◌++◌, drop, map}
use Rattle.gw_top.proofs.GroupLemmas.{now_of}
use Rattle.gw_top.proofs.groups.jobs_of_groups.Given as goal

-- the devices of the jobs so far, and those of the groups that are left, are those of all
abbrev pub invariant-loop-group : goal.invariant-loop-group
invariant-loop-group l =
    map (λ jobs. jobs.items) l.made.items ++ map now_of (drop l.group-index l.groups)
    ≡ map now_of l.groups
