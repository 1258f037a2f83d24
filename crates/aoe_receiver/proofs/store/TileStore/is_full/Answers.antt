use Rattle.aoe_receiver.proofs.WindowLemmas.{full-mark}
use Rattle.aoe_receiver.proofs.store.TileStore.is_full.Goals as goal

pub returns : goal.returns
returns c = full-mark _ c.bitmap.result c.bitmap.ensures.value c.bitmap.ensures.bits
