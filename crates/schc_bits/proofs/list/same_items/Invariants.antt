use Rattle.std.proofs.Common.{◌≡◌, length, take}
use Rattle.schc_bits.proofs.list.same_items.Given as goal

-- the lists are of one length, and the same as far as they were compared
abbrev pub invariant-loop-i : goal.invariant-loop-i
invariant-loop-i g l = (length l.these ≡ length l.those) × (take l.i l.these ≡ take l.i l.those)
