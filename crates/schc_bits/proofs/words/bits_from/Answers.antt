use Rattle.std.proofs.Common.{◌∙◌, ap}
use Rattle.schc_bits.specs.Bits.{bits_value}
use Rattle.schc_bits.proofs.WordBits.{top-value}
use Rattle.schc_bits.proofs.words.bits_from.Goals as goal

pub returns : goal.returns
returns c = top-value _ _ c.requires.width c.top_from.type_inv ∙ ap bits_value c.top_from.ensures
