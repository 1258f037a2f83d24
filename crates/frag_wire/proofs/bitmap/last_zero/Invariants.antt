use Rattle.std.proofs.Common.{◌≡◌, ◌≤◌}
use Rattle.schc_bits.specs.Bits.{number_bits}
use Rattle.frag_wire.specs.Answers.{after_last_zero}
use Rattle.frag_wire.proofs.bitmap.last_zero.Given as goal

-- the bits that are left have the same last 0 bit
abbrev pub invariant-loop-place : goal.invariant-loop-place
invariant-loop-place l =
    (l.place ≤ l.window)
    × (after_last_zero (number_bits l.place l.left) ≡ after_last_zero
    (number_bits l.window l.bitmap))

abbrev pub decreases-loop-place : goal.decreases-loop-place
decreases-loop-place l = l.place
