use Rattle.std.proofs.Common.{◌≡◌, length}
use Rattle.rcs.specs.Words.{added}
use Rattle.rcs.proofs.register.Register.put_bytes.Given as goal

-- with the bits that are left, the register holds the same as with all
abbrev pub invariant-loop-byte : goal.invariant-loop-byte
invariant-loop-byte l = added l.self l.reader ≡ added l.fn.self l.fn.reader

abbrev pub decreases-loop-byte : goal.decreases-loop-byte
decreases-loop-byte l = length l.reader
