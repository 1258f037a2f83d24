-- How tiles are kept in one buffer of bytes: ten bytes for each place, and behind them ten for the
-- All-1's tile.
use Rattle.std.specs.Prelude.{ℕ, ◌≡◌, ◌<◌, ◌≤◌, zero, suc, Bool, true, false, List, [], ◌∷◌, ◌++◌}
use Rattle.std.specs.Prelude.{length, take, drop, get_or, Option, Some, None}
use Rattle.std.specs.List.{AllByRecursion}
use Rattle.schc_bits.specs.Bits.{bits_value, octets}
use Rattle.tiles_bitmap.specs.Places.{bitmap}
use Rattle.aoe_receiver.specs.State.{no_tiles}

-- the tiles that are held, and that of the All-1
pub record Store : Type 0 where
  pub tiles : List (Option (List Bool))
  pub last : List Bool

unfoldable pub empty_store : Store
empty_store = record { tiles = no_tiles; last = [] }

-- the tile of so many bytes at the buffer's front; a free place has a size of 0
unfoldable pub place_of : ℕ → List ℕ → Option (List Bool)
place_of zero buffer = None
place_of (suc more) buffer = Some (octets (take (suc more) buffer))

-- the places, each with its size, in a buffer with ten bytes for each
unfoldable pub places : List ℕ → List ℕ → List (Option (List Bool))
places [] buffer = []
places (size ∷ sizes) buffer = place_of size buffer ∷ places sizes (drop 10 buffer)

-- which places have a size
unfoldable pub is_sized : ℕ → Bool
is_sized zero = false
is_sized (suc more) = true

unfoldable pub sized : List ℕ → List Bool
sized [] = []
sized (size ∷ sizes) = is_sized size ∷ sized sizes

-- the buffer, the sizes and the size of the All-1's tile stand for places; a number a window says
-- which places hold a tile
pub record IsStore (buffer : List ℕ) (sizes : List ℕ) (marks : List ℕ) (last : ℕ) : Type 0 where
  pub all_bytes : length buffer ≡ 2530
  pub all_places : length sizes ≡ 252
  pub all_windows : length marks ≡ 4
  pub small : AllByRecursion (λ size. size ≤ 10) sizes
  pub last_small : last ≤ 10
  pub marked : (w : ℕ) → w < 4 → get_or marks w 0 ≡ bits_value (bitmap 63 w (sized sizes))

-- the buffer with these bytes from this place on
unfoldable pub overwritten : ℕ → List ℕ → List ℕ → List ℕ
overwritten at bytes buffer = take at buffer ++ (bytes ++ drop (length bytes) (drop at buffer))
