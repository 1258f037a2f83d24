use Rattle.std.proofs.Common.{sym, ◌∙◌}
use Rattle.schc_bits.proofs.NumberBits.{length-number_bits}
use Rattle.rule_model.specs.Residue.{index_of}
use Rattle.compress.proofs.length.index_len.Goals as goal

pub returns : goal.returns
returns c value = c.index_width.ensures.width
    ∙ sym (length-number_bits _ (index_of c.args.targets.now value))
