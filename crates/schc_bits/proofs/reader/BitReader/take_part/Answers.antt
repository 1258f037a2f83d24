use Rattle.std.proofs.Common.{arith}
use Rattle.schc_bits.proofs.Reading.{bits_at-short, bits_at-enough}
use Rattle.schc_bits.proofs.reader.BitReader.take_part.Goals as goal

pub returns-then-len-count-clause-none : goal.returns-then-len-count-clause-none
returns-then-len-count-clause-none c =
    rw (← c.self.view_is)
    (bits_at-short _ c.self.inside.rest (omega (arith, c.if-len-count.true, c.len.ensures)))

pub returns-clause-some : goal.returns-clause-some
returns-clause-some c =
    rw (← c.self.view_is, c.front-taken.ensures, c.after-self-inside.ensures)
    (bits_at-enough c.args.count c.self.inside.rest
    (omega (arith, c.if-len-count.false, c.len.ensures)))
