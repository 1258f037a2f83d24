use Rattle.timers.specs.Wheel.{IsIndex}
use Rattle.timers.proofs.WheelLemmas.{count_at}
use Rattle.timers.proofs.timer_set.open_place.Given as goal

abbrev pub invariant-loop-key : goal.invariant-loop-key
invariant-loop-key l = IsIndex l.now l.level l.deadlines l.due l.lists

-- the keys of the place
abbrev pub decreases-loop-key : goal.decreases-loop-key
decreases-loop-key l = count_at l.place l.lists
