use Rattle.timers.specs.Wheel.{left}
use Rattle.timers.proofs.WheelLemmas.{mapped-next}
use Rattle.timers.proofs.timer_set.count_from.Goals as goal

pub loop-deadline-preserved : goal.loop-deadline-preserved
loop-deadline-preserved c =
    rw (c.ticks_left.ensures, c.loop-deadline.invariant)
    (mapped-next (left c.args.now) c.args.deadlines.now c.loop-deadline.deadline-index _
    c.loop-deadline-test.true)
