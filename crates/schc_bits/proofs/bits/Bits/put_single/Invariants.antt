use Rattle.std.proofs.Common.{◌≡◌, ◌++◌, length, take, drop}
use Rattle.schc_bits.specs.Bits.{octets}
use Rattle.schc_bits.proofs.bits.Bits.put_single.Given as goal

-- with the bits of the bytes that are left, the list is the one that is wanted
abbrev pub invariant-loop-byte : goal.invariant-loop-byte
invariant-loop-byte l =
    (l.self ++ octets (drop l.byte-index l.bytes) ≡ l.fn.self ++ octets l.bytes)
    × (take (length l.fn.self) l.self ≡ l.fn.self)
