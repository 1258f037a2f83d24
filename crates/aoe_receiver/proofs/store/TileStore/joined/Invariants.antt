use Rattle.std.proofs.Common.{◌≡◌, take}
use Rattle.tiles_bitmap.specs.Places.{joined_tiles}
use Rattle.aoe_receiver.proofs.store.TileStore.joined.Given as goal

-- the tiles before this place are there
abbrev pub invariant-loop-place : goal.invariant-loop-place
invariant-loop-place l = l.bits ≡ joined_tiles (take l.place l.self.tiles)
