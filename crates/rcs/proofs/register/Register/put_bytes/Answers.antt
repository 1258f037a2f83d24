use Rattle.std.proofs.Common.{arith, ◌∙◌}
use Rattle.rcs.proofs.SumLemmas.{read-more, read-shorter}
use Rattle.rcs.proofs.register.Register.put_bytes.Goals as goal

pub loop-byte-smaller : goal.loop-byte-smaller
loop-byte-smaller c =
    read-shorter 8 c.in-Some.byte c.loop-byte.reader c.read.new.self (omega arith)
    c.in-Some.ensures.some

pub loop-byte-preserved : goal.loop-byte-preserved
loop-byte-preserved c =
    read-more c.loop-byte.self c.put.new.self 8 c.in-Some.byte c.loop-byte.reader c.read.new.self
    c.in-Some.ensures.some c.put.ensures ∙ c.loop-byte.invariant
