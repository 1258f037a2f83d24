use Rattle.std.proofs.Common.{◌≡◌, ◌≤◌, ◌-◌, ◌++◌, length, drop}
use Rattle.schc_bits.specs.Bits.{padded, bytes_of}
use Rattle.schc_bits.proofs.part.Part.put_bytes.Given as goal

-- with the bytes of the bits that are left, the list is the one that is wanted
abbrev pub invariant-loop-place : goal.invariant-loop-place
invariant-loop-place l =
    (l.bytes.items ++ bytes_of (padded (drop l.place l.self)) ≡ l.fn.bytes.items ++ bytes_of
    (padded (drop l.at l.self)))
    × (l.place ≤ length l.self)

abbrev pub decreases-loop-place : goal.decreases-loop-place
decreases-loop-place l = length l.self - l.place
