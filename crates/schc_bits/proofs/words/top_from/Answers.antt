use Rattle.std.proofs.Common.{◌+◌, ◌/◌}
use Rattle.schc_bits.proofs.WordBits.{top-within, top-across}
use Rattle.schc_bits.proofs.words.top_from.Goals as goal

pub returns-then-used-count-le64 : goal.returns-then-used-count-le64
returns-then-used-count-le64 c =
    top-within _ _ _ c.if-used-count-le64.true c.requires.some c.requires.within

pub returns : goal.returns
returns c =
    top-across _ _ _ c.if-used-count-le64.false c.requires.width c.requires.within
    (c.type_inv.words (c.args.from / 64 + 1)).fits
