use Rattle.std.proofs.Common.{take}
use Rattle.tiles_bitmap.specs.Places.{joined_tiles}
use Rattle.rcs.specs.Words.{Sums}
use Rattle.aoe_receiver.proofs.store.TileStore.rcs_with.Given as goal

-- the tiles before this place are added
abbrev pub invariant-loop-place : goal.invariant-loop-place
invariant-loop-place l = Sums l.register (joined_tiles (take l.place l.self.tiles))
