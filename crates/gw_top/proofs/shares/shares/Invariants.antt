use Rattle.std.proofs.Common.{◌≡◌, ◌++◌, map}
use Rattle.std.specs.Vec.Iter.{into_iter_items}
use Rattle.script_lang.specs.Ranges.{HaveParams}
use Rattle.gw_top.specs.Dealing.{share_from}
use Rattle.gw_top.proofs.shares.shares.Given as goal

-- the shares so far, and those of the devices that are left, are those of all
abbrev pub invariant-loop-job : goal.invariant-loop-job
invariant-loop-job l =
    let left = into_iter_items l.job-iterator in
    (l.shares.items ++ map (share_from l.dealt) left
    ≡ map (share_from l.dealt) (into_iter_items l.initial.job-iterator))
    × HaveParams left
