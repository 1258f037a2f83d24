use Rattle.std.proofs.Common.{◌≡◌, ◌≤◌, ◌+◌, ◌-◌, ◌*◌, ◌/◌, min}
use Rattle.frag_wire.proofs.bitmap.boundary.Given as goal

-- the next boundary is the same
abbrev pub invariant-loop-at : goal.invariant-loop-at
invariant-loop-at l = (l.from ≤ l.at) × (l.at ≤ l.end)
    × (min (8 * ((l.at + 7) / 8)) l.end ≡ min (8 * ((l.from + 7) / 8)) l.end)

abbrev pub decreases-loop-at : goal.decreases-loop-at
decreases-loop-at l = l.end - l.at
