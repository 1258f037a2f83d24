use Rattle.std.proofs.Common.{◌∙◌, sym, ap, refl}
use Rattle.schc_bits.specs.Bits.{bits_value}
use Rattle.matching.proofs.NumberLemmas.{number-read, number-long}
use Rattle.matching.proofs.agreement.is_number.Goals as goal

pub returns-then-len-width : goal.returns-then-len-width
returns-then-len-width c =
    number-read c.args.value.now c.args.width c.args.number c.number.result c.requires.fits
    (sym c.len.ensures ∙ c.if-len-width.true)
    (c.number.ensures.value ∙ ap bits_value c.as_part.ensures)

pub returns-else-len-width : goal.returns-else-len-width
returns-else-len-width c =
    number-long c.args.value.now c.args.width c.args.number c.len.result _ c.len.ensures refl
    c.if-len-width.false
