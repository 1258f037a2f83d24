use Rattle.std.proofs.Common.{◌≡◌, ◌<◌, ◌++◌, length, drop}
use Rattle.schc_bits.specs.Bits.{octets}
use Rattle.reassembly.proofs.buffer.Reassembly.append.Given as goal

-- with the bits that are left, what is kept is what is wanted
abbrev pub invariant-loop-byte : goal.invariant-loop-byte
invariant-loop-byte l =
    (l.self ++ drop l.first (octets l.rest) ≡ l.fn.self ++ drop l.from (octets l.bytes))
    × (l.first < 8)

abbrev pub decreases-loop-byte : goal.decreases-loop-byte
decreases-loop-byte l = length l.rest
