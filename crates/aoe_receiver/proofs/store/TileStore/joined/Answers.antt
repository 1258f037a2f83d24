use Rattle.tiles_bitmap.specs.Places.{joined_tiles}
use Rattle.aoe_receiver.proofs.store.TileStore.joined.Goals as goal

pub loop-place-init : goal.loop-place-init
unfolding joined_tiles
loop-place-init c = c.new-bits.ensures
