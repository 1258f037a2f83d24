use Rattle.std.proofs.Common.{◌≡◌, length, ◌+◌, ◌-◌, ◌≤◌}
use Rattle.std.specs.Io.KnownBytes.{Consumes}
use Rattle.outside.proofs.loops.read_all.Given as goal

-- the bytes held are those that the source gave
abbrev pub invariant-loop-room : goal.invariant-loop-room
invariant-loop-room g l =
    (length l.bytes.items ≤ l.limit + 1)
    × (length l.room ≡ 4096)
    × Consumes (g.S.Source.state l.initial.source).left (g.S.Source.state l.source).left
    l.bytes.items
    × ((g.S.Source.state l.initial.source).faults ≤ (g.S.Source.state l.source).faults)

abbrev pub decreases-loop-room : goal.decreases-loop-room
decreases-loop-room g l = l.limit + 1 - length l.bytes.items
