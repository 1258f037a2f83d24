use Rattle.std.proofs.Common.{◌^◌, false, ap, ◌∙◌}
use mir.Val.{bool_byte}
use Rattle.decompress.proofs.TokenLemmas.{capped-more}
use Rattle.decompress.proofs.value.capped_number.Goals as goal

pub loop-i-preserved : goal.loop-i-preserved
loop-i-preserved c =
    rw c.min-number.ensures
    (capped-more (2 ^ 61) c.args.bits.now c.loop-i.i c.loop-i.number c.from.result
    (rw c.len-i-end.ensures at c.loop-i-test.true) c.loop-i.invariant
    (c.from.ensures ∙ ap bool_byte (c.bit.ensures false)))
