use Rattle.std.proofs.Common.{◌≡◌, ◌≤◌, ◌-◌, false, length, take, replicate}
use Rattle.schc_bits.proofs.part.Part.is_zero.Given as goal

-- no bit that was passed is set
abbrev pub invariant-loop-at : goal.invariant-loop-at
invariant-loop-at l = (take l.at l.self ≡ replicate l.at false) × (l.at ≤ length l.self)

abbrev pub decreases-loop-at : goal.decreases-loop-at
decreases-loop-at l = length l.self - l.at
