use Rattle.std.proofs.Common.{◌≡◌}
use Rattle.timers.specs.Wheel.{left}
use Rattle.timers.proofs.WheelLemmas.{mapped_to}
use Rattle.timers.proofs.timer_set.count_from.Given as goal

-- the deadlines up to here are ticks that are left
abbrev pub invariant-loop-deadline : goal.invariant-loop-deadline
invariant-loop-deadline l = l.deadlines ≡ mapped_to (left l.now) l.deadline-index l.fn.deadlines
