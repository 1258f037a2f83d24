use Rattle.std.proofs.Common.{◌≡◌, ◌≤◌, ◌-◌, ◌++◌, length, take}
use Rattle.schc_bits.proofs.bits.Bits.put_part.Given as goal

-- what was passed has been put
abbrev pub invariant-loop-at : goal.invariant-loop-at
invariant-loop-at l = (l.self ≡ l.fn.self ++ take l.at l.more) × (l.at ≤ length l.more)

abbrev pub decreases-loop-at : goal.decreases-loop-at
decreases-loop-at l = length l.more - l.at
