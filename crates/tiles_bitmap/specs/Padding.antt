-- RFC 8724, section 8.2.3: the reassembly check sequence is made over the SCHC packet and the
-- padding of the fragment that carries its last tile.
use Rattle.std.specs.Prelude.{ℕ, ◌+◌, ◌-◌, ◌%◌, Bool, false, List, [], ◌++◌, length, replicate}
use Rattle.std.specs.Prelude.{get_or}
use Rattle.schc_ids.specs.declared.fragments.FragParams.{FragParams}
use Rattle.tiles_bitmap.specs.Tiles.{tiles}

-- the fewest zero bits that make whole bytes behind so many bits
unfoldable pub fill : ℕ → List Bool
fill count = replicate ((8 - count % 8) % 8) false

-- the last of the tiles
abbrev pub last_of : List (List Bool) → List Bool
last_of parts = get_or parts (length parts - 1) []

-- the bits before the tile of an All-1: W, FCN and the RCS
abbrev pub all1_head : FragParams → ℕ
all1_head params = params.w_bits + params.fcn_bits + 32

-- the packet, and the zero bits that pad the All-1 with its last tile
unfoldable pub padded_packet : FragParams → ℕ → List Bool → List Bool
padded_packet params mtu bits =
    bits ++ fill (all1_head params + length (last_of (tiles params mtu bits)))
