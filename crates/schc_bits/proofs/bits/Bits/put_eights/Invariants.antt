use Rattle.std.proofs.Common.{◌≡◌, ◌++◌, length, take}
use Rattle.schc_bits.specs.Bits.{octets, AreBytes}
use Rattle.schc_bits.proofs.bits.Bits.put_eights.Given as goal

-- with the bits of the bytes that are left, the list is the one that is wanted
abbrev pub invariant-loop-first : goal.invariant-loop-first
invariant-loop-first l =
    (l.self ++ octets l.rest ≡ l.fn.self ++ octets l.bytes)
    × (take (length l.fn.self) l.self ≡ l.fn.self)
    × AreBytes l.rest

abbrev pub decreases-loop-first : goal.decreases-loop-first
decreases-loop-first l = length l.rest
