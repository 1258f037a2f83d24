-- RFC 8724, section 8.2.2.1: how an SCHC packet is cut in tiles.
use Rattle.std.specs.Prelude.{ℕ, ◌≡◌, ◌+◌, ◌-◌, ◌*◌, ◌/◌, ◌<◌, ◌≤◌, zero, suc, min, Bool}
use Rattle.std.specs.Prelude.{if◌then◌else◌, List, [], ◌∷◌, nat_le, length, take, drop}
use Rattle.schc_ids.specs.declared.fragments.FragMode.{FragMode}
use Rattle.schc_ids.specs.declared.fragments.FragMode.TheVariants as mode
use Rattle.schc_ids.specs.declared.fragments.FragParams.{FragParams}
use Rattle.schc_ids.specs.Fragments.{params_of}

-- the bits of W and FCN, with which each fragment begins
abbrev pub header_of : FragMode → ℕ
header_of m = (params_of m).w_bits + (params_of m).fcn_bits

-- the most bits of a last tile, which goes in the All-1: in ACK-on-Error a tile is 10 bytes, else
-- what a frame holds beside the header and the RCS of 32 bits
unfoldable pub most_in_last : FragMode → ℕ → ℕ
most_in_last mode.NoAck mtu = 8 * mtu - (header_of mode.NoAck + 32)
most_in_last mode.AckAlways mtu = 8 * mtu - (header_of mode.AckAlways + 32)
most_in_last mode.AckOnError mtu = 80

-- a tile of a fragment of `count` bytes, of at most `mtu`, after which at least eight of the `left`
-- bits are left
pub record FillsBytes (header : ℕ) (mtu : ℕ) (left : ℕ) (size : ℕ) (count : ℕ) : Type 0 where
  pub in_frame : count ≤ mtu
  pub whole : size + header ≡ 8 * count
  pub leaves : size + 8 ≤ left

-- the largest such tile
pub record IsLargest (header : ℕ) (mtu : ℕ) (left : ℕ) (size : ℕ) : Type 0 where
  pub count : ℕ
  pub fills : FillsBytes header mtu left size count
  pub largest : (other other_count : ℕ) → FillsBytes header mtu left other other_count
      → other_count ≤ count

-- what a tile that isn't the last is, where `left` bits are left: in ACK-on-Error 80 bits (RFC
-- 9011, section 5.6.2), else the largest that fills whole bytes with the header and leaves at least
-- eight bits
abbrev pub IsTile : FragMode → ℕ → ℕ → ℕ → Type 0
IsTile mode.NoAck mtu left size = IsLargest (header_of mode.NoAck) mtu left size
IsTile mode.AckAlways mtu left size = IsLargest (header_of mode.AckAlways) mtu left size
IsTile mode.AckOnError mtu left size = size ≡ 80

-- the sizes of the tiles of `left` bits, in their order: while the last tile can't hold what is
-- left, a tile is cut off
abbrev pub AreTiles : FragMode → ℕ → ℕ → List ℕ → Type 0
AreTiles m mtu left [] = ⊥
AreTiles m mtu left (size ∷ []) = (size ≡ left) × (left ≤ most_in_last m mtu)
AreTiles m mtu left (size ∷ next ∷ sizes) =
    (most_in_last m mtu < left) × IsTile m mtu left size
    × AreTiles m mtu (left - size) (next ∷ sizes)

-- the places at which tiles of these sizes end, where the first begins at `from`
abbrev pub ends_from : ℕ → List ℕ → List ℕ
ends_from from [] = []
ends_from from (size ∷ sizes) = (from + size) ∷ ends_from (from + size) sizes

-- the bits of each tile
abbrev pub parts : List ℕ → List Bool → List (List Bool)
parts [] bits = []
parts (size ∷ sizes) bits = take size bits ∷ parts sizes (drop size bits)

-- the size of a tile that isn't the last
unfoldable pub tile_size : FragMode → ℕ → ℕ → ℕ
tile_size mode.NoAck mtu left = 8 * min mtu ((left - 7) / 8) - 1
tile_size mode.AckAlways mtu left = 8 * min mtu ((left - 6) / 8) - 2
tile_size mode.AckOnError mtu left = 80

-- the same sizes, one after the other; `most` is at least their number
unfoldable pub tile_sizes_of : ℕ → FragMode → ℕ → ℕ → List ℕ
tile_sizes_of zero m mtu left = left ∷ []
tile_sizes_of (suc most) m mtu left =
    if nat_le left (most_in_last m mtu) then left ∷ []
    else tile_size m mtu left ∷ tile_sizes_of most m mtu (left - tile_size m mtu left)

-- the sizes of the tiles of so many bits
unfoldable pub tile_sizes : FragParams → ℕ → ℕ → List ℕ
tile_sizes params mtu bits = tile_sizes_of bits params.mode mtu bits

-- the places at which they end
abbrev pub tile_ends : FragParams → ℕ → ℕ → List ℕ
tile_ends params mtu bits = ends_from 0 (tile_sizes params mtu bits)

-- the tiles of an SCHC packet
abbrev pub tiles : FragParams → ℕ → List Bool → List (List Bool)
tiles params mtu bits = parts (tile_sizes params mtu (length bits)) bits
