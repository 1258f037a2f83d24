use Rattle.timers.specs.Wheel.{IsIndex}
use Rattle.timers.proofs.timer_set.open_places.Given as goal

-- the levels below this one are opened
abbrev pub invariant-loop-level : goal.invariant-loop-level
invariant-loop-level l = IsIndex l.now l.level l.deadlines l.due l.lists
