use Rattle.std.proofs.Common.{◌≡◌, ◌^◌, ◌<◌, drop}
use Rattle.schc_bits.specs.Bits.{octets}
use Rattle.rcs.specs.Words.{sum_of, added}
use Rattle.rcs.proofs.register.after_bytes.Given as goal

-- with the bytes that are left, the register holds the same as with all
abbrev pub invariant-loop-byte : goal.invariant-loop-byte
invariant-loop-byte l =
    (l.part < 2 ^ l.count)
    × (added (sum_of l.word l.count l.part) (octets (drop l.byte-index l.bytes)) ≡ added
    (sum_of l.fn.word l.count l.fn.part) (octets l.bytes))
