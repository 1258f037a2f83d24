use Rattle.aoe_receiver.proofs.WindowLemmas.{gap-mark}
use Rattle.aoe_receiver.proofs.store.TileStore.is_gapless.Goals as goal

pub returns : goal.returns
returns c =
    gap-mark _ c.bitmap-lacks.result c.bitmap-lacks.ensures.value c.bitmap-lacks.ensures.bits
