use Rattle.std.proofs.Common.{ap, ◌∙◌, map}
use Rattle.timers.specs.Wheel.{left}
use Rattle.timers.proofs.WheelLemmas.{left-anew}
use Rattle.timers.proofs.timer_set.below_last.Goals as goal

-- where the count of ticks begins anew, each armed timer has as many ticks left as before
pub returns-clause-same : goal.returns-clause-same
returns-clause-same c = ap (λ ds. map (left 0) ds) c.count_from.ensures
    ∙ left-anew c.args.now c.args.deadlines.now
