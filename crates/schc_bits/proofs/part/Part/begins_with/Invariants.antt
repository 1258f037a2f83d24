use Rattle.std.proofs.Common.{◌≡◌, ◌≤◌, ◌-◌, length, take}
use Rattle.schc_bits.proofs.part.Part.begins_with.Given as goal

-- what was passed is the same
abbrev pub invariant-loop-at : goal.invariant-loop-at
invariant-loop-at l = (take l.at l.self ≡ take l.at l.front) × (l.at ≤ length l.front)

abbrev pub decreases-loop-at : goal.decreases-loop-at
decreases-loop-at l = length l.front - l.at
