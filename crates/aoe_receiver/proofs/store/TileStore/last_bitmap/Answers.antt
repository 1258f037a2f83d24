use Rattle.std.proofs.Common.{◌∙◌, ap, sym, arith}
use Rattle.std.proofs.lemmas.Nat.{or_lt}
use Rattle.schc_bits.specs.Bits.{bits_value}
use Rattle.aoe_receiver.proofs.MarksLemmas.{with_last-or}
use Rattle.aoe_receiver.proofs.MachineLemmas.{none-left, some-left, with-none, with-some}
use Rattle.aoe_receiver.proofs.store.TileStore.last_bitmap.Goals as goal

pub returns-then-is_empty-clause-value : goal.returns-then-is_empty-clause-value
returns-then-is_empty-clause-value c =
    c.bitmap-mark.ensures.value
    ∙ ap bits_value
    (sym (with-none c.last.result.now _ _ c.last.ensures.tile
    (none-left _ _ c.is_empty.ensures c.if-is_empty.true)))

pub returns-else-is_empty-clause-value : goal.returns-else-is_empty-clause-value
returns-else-is_empty-clause-value c =
    with_last-or _ c.bitmap-mark.result c.bitmap-mark.ensures.value c.bitmap-mark.ensures.bits
    ∙ ap bits_value
    (sym (with-some c.last.result.now _ _ c.last.ensures.tile
    (some-left _ _ c.is_empty.ensures c.if-is_empty.false)))

pub returns-else-is_empty-clause-below : goal.returns-else-is_empty-clause-below
returns-else-is_empty-clause-below c =
    or_lt 63 c.bitmap-mark.result 1 c.bitmap-mark.ensures.below (omega arith)
