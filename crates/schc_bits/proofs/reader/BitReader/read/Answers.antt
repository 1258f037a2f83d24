use Rattle.std.proofs.Common.{arith}
use Rattle.schc_bits.proofs.Reading.{number_at-short, number_at-enough}
use Rattle.schc_bits.proofs.reader.BitReader.read.Goals as goal

pub returns-then-len-count-clause-none : goal.returns-then-len-count-clause-none
returns-then-len-count-clause-none c =
    rw (← c.self.view_is)
    (number_at-short _ c.self.inside.rest (omega (arith, c.if-len-count.true, c.len.ensures)))

pub returns-clause-some : goal.returns-clause-some
returns-clause-some c =
    rw (← c.self.view_is, c.read_at-number.ensures.value, c.after-self-inside.ensures)
    (number_at-enough c.args.count c.self.inside.rest
    (omega (arith, c.if-len-count.false, c.len.ensures)))
