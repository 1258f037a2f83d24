use Rattle.std.proofs.Common.{◌≡◌, ◌≤◌, ◌-◌, ◌++◌, length, drop}
use Rattle.schc_bits.specs.Bits.{padded, bytes_of}
use Rattle.schc_bits.proofs.part.Part.put_words.Given as goal

-- with the bytes of the bits that are left, the list is the one that is wanted
abbrev pub invariant-loop-at : goal.invariant-loop-at
invariant-loop-at l =
    (l.bytes.items ++ bytes_of (padded (drop l.at l.self)) ≡ l.fn.bytes.items ++ bytes_of
    (padded l.self))
    × (l.at ≤ length l.self)

abbrev pub decreases-loop-at : goal.decreases-loop-at
decreases-loop-at l = length l.self - l.at
