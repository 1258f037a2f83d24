-- RFC 8724, sections 8.2.2.1 and 8.2.3, and RFC 9011, section 5.6.2: which tiles the sender has,
-- and in which messages they go.
use Rattle.std.specs.Prelude.{ℕ, ◌-◌, ◌/◌, List, Bool, length, take, drop}
use Rattle.schc_bits.specs.Bits.{padded}
use Rattle.schc_ids.specs.declared.ends.LastTile.{LastTile}
use Rattle.schc_ids.specs.declared.ends.LastTile.TheVariants.{InAll1, InRegular}
use Rattle.tiles_bitmap.specs.Laws.{joined}
use Rattle.tiles_bitmap.specs.Tiles.{tiles}
use Rattle.aoe_sender.specs.State.{AoeSenderData}

-- how many tiles a window has
abbrev pub window_size : ℕ
window_size = 63

-- the SCHC packet, and the zero bits that pad the fragment of its last tile: in this mode the
-- header and all other tiles are whole bytes
unfoldable pub padded_packet : AoeSenderData → List Bool
padded_packet s = padded s.bits

-- all tiles, in their order
unfoldable pub all_tiles : AoeSenderData → List (List Bool)
all_tiles s = tiles s.params s.mtu (padded_packet s)

-- how many of so many tiles go in Regulars: the last one goes in the All-1 or in a Regular (RFC
-- 8724, section 8.4.3)
abbrev pub in_regulars : LastTile → ℕ → ℕ
in_regulars InAll1 count = count - 1
in_regulars InRegular count = count

-- how many tiles go in Regulars; they have the numbers below it
unfoldable pub regular_count : AoeSenderData → ℕ
regular_count s = in_regulars s.last (length (all_tiles s))

-- the tiles that go in Regulars
unfoldable pub regular_tiles : AoeSenderData → List (List Bool)
regular_tiles s = take (regular_count s) (all_tiles s)

-- the tile that goes in the All-1; no bits where the last tile goes in a Regular
unfoldable pub all1_tile : AoeSenderData → List Bool
all1_tile s = joined (drop (regular_count s) (all_tiles s))

-- the window of the last tile, which the All-1 names
unfoldable pub last_window : AoeSenderData → ℕ
last_window s = (length (all_tiles s) - 1) / window_size

-- how many tiles a Regular has at most: a header of one byte, and ten bytes a tile
unfoldable pub most_tiles : AoeSenderData → ℕ
most_tiles s = (s.mtu - 1) / 10
