-- What holds of the tiles of every SCHC packet.
use Rattle.std.specs.Prelude.{ℕ, ◌≡◌, ◌⊎◌, suc, ◌+◌, ◌*◌, ◌/◌, ◌%◌, ◌<◌, ◌≤◌, Bool, List, [], ◌∷◌}
use Rattle.std.specs.Prelude.{◌++◌, length}
use Rattle.std.specs.List.{AllByRecursion}
use Rattle.schc_ids.specs.declared.fragments.FragMode.{FragMode}
use Rattle.schc_ids.specs.declared.fragments.FragMode.TheVariants as mode
use Rattle.schc_ids.specs.declared.fragments.FragParams.{FragParams}
use Rattle.schc_ids.specs.Limits.{IsMtu}
use Rattle.tiles_bitmap.specs.Numbers.{HasNumber, tile_number, tile_index}
use Rattle.tiles_bitmap.specs.Places.{numbers_from, run}
use Rattle.tiles_bitmap.specs.Tiles.{header_of, AreTiles, tile_sizes, tile_ends, tiles}

-- the sizes are those that the definition of tiles says, and there are no others
abbrev pub CutOnce : Type 0
CutOnce =
    (params : FragParams) (mtu bits : ℕ) → IsMtu mtu →
    AreTiles params.mode mtu bits (tile_sizes params mtu bits) ×
    ((sizes : List ℕ) → AreTiles params.mode mtu bits sizes → sizes ≡ tile_sizes params mtu bits)

abbrev pub joined : List (List Bool) → List Bool
joined [] = []
joined (part ∷ rest) = part ++ joined rest

-- the tiles in their order are the packet
abbrev pub TilesJoin : Type 0
TilesJoin = (params : FragParams) (mtu : ℕ) (bits : List Bool) → IsMtu mtu
    → joined (tiles params mtu bits) ≡ bits

-- each tile but the last fills whole bytes with its header, in a frame of at most `mtu` bytes; the
-- last one fits beside its header and the RCS
abbrev pub FitFrames : ℕ → ℕ → List ℕ → Type 0
FitFrames header mtu [] = ⊥
FitFrames header mtu (last ∷ []) = header + 32 + last ≤ 8 * mtu
FitFrames header mtu (size ∷ next ∷ sizes) =
    ((size + header) % 8 ≡ 0) × (size + header ≤ 8 * mtu) × FitFrames header mtu (next ∷ sizes)

abbrev pub TilesFit : Type 0
TilesFit =
    (params : FragParams) (mtu bits : ℕ) → IsMtu mtu →
    FitFrames (header_of params.mode) mtu (tile_sizes params mtu bits)

-- the fewest bits of a tile, of a packet that has at least as many
abbrev pub least_tile : FragMode → ℕ
least_tile mode.NoAck = 8
least_tile mode.AckAlways = 8
least_tile mode.AckOnError = 1

abbrev pub TilesAreLarge : Type 0
TilesAreLarge =
    (params : FragParams) (mtu bits : ℕ) → IsMtu mtu → least_tile params.mode ≤ bits →
    AllByRecursion (λ size. least_tile params.mode ≤ size) (tile_sizes params mtu bits)

-- how many tiles there are in ACK-on-Error
abbrev pub CountsTiles : Type 0
CountsTiles =
    (params : FragParams) (mtu bits : ℕ) → params.mode ≡ mode.AckOnError → 1 ≤ bits →
    length (tile_sizes params mtu bits) ≡ (bits + 79) / 80

-- the numbers of a tile lead back to its index
abbrev pub NumbersName : Type 0
NumbersName = (i : ℕ) → HasNumber mode.AckOnError i → tile_index (tile_number mode.AckOnError i) ≡ i

-- each place is above the one before, and the last is the end
abbrev pub Ascend : ℕ → ℕ → List ℕ → Type 0
Ascend from end [] = from ≡ end
Ascend from end (place ∷ places) = (from < place) × (place ≤ end) × Ascend place end places

-- each tile ends above the one before, and the last where the packet ends
abbrev pub EndsAscend : Type 0
EndsAscend =
    (params : FragParams) (mtu bits : ℕ) → IsMtu mtu → 1 ≤ bits
    → Ascend 0 bits (tile_ends params mtu bits)

-- the run ends with this number: none is left, the next one is no successor, or it is of another
-- window of 63
abbrev pub EndsAt : ℕ → List ℕ → Type 0
EndsAt number [] = Unit {0}
EndsAt number (next ∷ numbers) = (next ≡ suc number → ⊥) ⊎ (next / 63 ≡ number / 63 → ⊥)

-- RFC 8724, section 8.3.1.1: the longest front of the numbers that follow this one without a gap in
-- its window, at most so many; and the others
pub record IsLongestRun (most : ℕ) (number : ℕ) (numbers : List ℕ) (taken : ℕ × List ℕ) : Type 0
  where
    pub front : numbers ≡ numbers_from (suc number) taken.0 ++ taken.1
    pub one_window : (number + taken.0) / 63 ≡ number / 63
    pub few : taken.0 ≤ most
    pub longest : (taken.0 ≡ most) ⊎ EndsAt (number + taken.0) taken.1

abbrev pub RunsAreLongest : Type 0
RunsAreLongest = (most number : ℕ) (numbers : List ℕ)
    → IsLongestRun most number numbers (run 63 most number numbers)
