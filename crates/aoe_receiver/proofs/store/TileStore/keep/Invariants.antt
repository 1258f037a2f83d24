use Rattle.std.proofs.Common.{◌≡◌, ◌+◌, ◌/◌, ◌≤◌, not, ◌&&◌, length}
use Rattle.schc_bits.specs.Bits.{octets}
use Rattle.tiles_bitmap.specs.Places.{keep}
use Rattle.aoe_receiver.specs.State.{payload_tiles}
use Rattle.aoe_receiver.specs.Steps.{all_held}
use Rattle.aoe_receiver.proofs.store.TileStore.keep.Given as goal

-- with the tiles that are left, what is held is what it is to be; those that came, if none was new,
-- and those that are left were all held at first
abbrev pub invariant-loop-rest : goal.invariant-loop-rest
invariant-loop-rest l =
    (keep l.at (payload_tiles (octets l.rest)) l.self.tiles ≡ keep l.fn.place
    (payload_tiles (octets l.fn.payload)) l.fn.self.tiles)
    × (l.self.last ≡ l.fn.self.last)
    × (l.at + (length l.rest + 9) / 10 ≤ 252)
    × ((not l.is_new && all_held l.at (length (payload_tiles (octets l.rest)))
    l.self.tiles) ≡ all_held l.fn.place (length (payload_tiles (octets l.fn.payload)))
    l.fn.self.tiles)

abbrev pub decreases-loop-rest : goal.decreases-loop-rest
decreases-loop-rest l = length l.rest
