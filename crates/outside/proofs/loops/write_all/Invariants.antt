use Rattle.std.proofs.Common.{length, take, ◌-◌, ◌≤◌}
use Rattle.std.specs.Io.KnownBytes.{Appends}
use Rattle.outside.proofs.loops.write_all.Given as goal

-- the first `at` bytes are written
abbrev pub invariant-loop-at : goal.invariant-loop-at
invariant-loop-at g l =
    (l.at ≤ length l.text)
    × Appends (g.K.Sink.state l.initial.sink).written (g.K.Sink.state l.sink).written
    (take l.at l.text)
    × ((g.K.Sink.state l.initial.sink).faults ≤ (g.K.Sink.state l.sink).faults)

abbrev pub decreases-loop-at : goal.decreases-loop-at
decreases-loop-at g l = length l.text - l.at
