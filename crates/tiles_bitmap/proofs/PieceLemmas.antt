-- Where the tiles of a packet stand in it, and how long they are.
use Rattle.std.specs.Prelude.{ℕ, ◌≡◌, ◌+◌, ◌-◌, ◌*◌, ◌%◌, ◌<◌, ◌≤◌, zero, suc, Bool, List, [], ◌∷◌}
use Rattle.std.specs.Prelude.{length, take, drop, get_or}
use Rattle.std.specs.List.{AllByRecursion}
use Rattle.std.proofs.Common.{arith, ap, refl, sym, ◌∙◌}
use Rattle.std.proofs.lemmas.List.{drop-drop}
use Rattle.schc_bits.proofs.PartBits.{length-piece}
use Rattle.schc_ids.specs.Limits.{IsMtu}
use Rattle.schc_ids.specs.declared.fragments.FragParams.{FragParams}
use Rattle.tiles_bitmap.specs.Laws.{Ascend, FitFrames}
use Rattle.tiles_bitmap.specs.Tiles.{ends_from, parts, tile_sizes, tile_ends, tiles}
use Rattle.tiles_bitmap.proofs.TilesLemmas.{ends-ascend, tiles-fit}

pub length-parts : (sizes : List ℕ) (bits : List Bool) → length (parts sizes bits) ≡ length sizes
length-parts [] bits = refl
length-parts (size ∷ sizes) bits = ap suc (length-parts sizes (drop size bits))

pub length-ends : (from : ℕ) (sizes : List ℕ) → length (ends_from from sizes) ≡ length sizes
length-ends from [] = refl
length-ends from (size ∷ sizes) = ap suc (length-ends (from + size) sizes)

-- where the tile with the index i begins
abbrev start_at : ℕ → List ℕ → ℕ → ℕ
start_at from sizes i = get_or (from ∷ ends_from from sizes) i 0

from-start : (from : ℕ) (sizes : List ℕ) (i : ℕ) → i ≤ length sizes → from ≤ start_at from sizes i
from-start from sizes zero h = omega arith
from-start from [] (suc i) h = absurd (omega (arith, h))
from-start from (size ∷ sizes) (suc i) h =
    omega (arith, from-start (from + size) sizes i (omega (arith, h)))

end-is : (from : ℕ) (sizes : List ℕ) (i : ℕ) → i < length sizes
    → get_or (ends_from from sizes) i 0 ≡ start_at from sizes i + get_or sizes i 0
end-is from [] i h = absurd (omega (arith, h))
end-is from (size ∷ sizes) zero h = refl
end-is from (size ∷ sizes) (suc i) h = end-is (from + size) sizes i (omega (arith, h))

part-is : (from : ℕ) (sizes : List ℕ) (bits : List Bool) (i : ℕ) → i < length sizes
    → get_or (parts sizes bits) i [] ≡ take (get_or sizes i 0)
    (drop (start_at from sizes i - from) bits)
part-is from [] bits i h = absurd (omega (arith, h))
part-is from (size ∷ sizes) bits zero h =
    let none : from - from ≡ 0 = omega arith in
    ap (λ n. take size (drop n bits)) (sym none)
part-is from (size ∷ sizes) bits (suc i) h =
    let inside : i < length sizes = omega (arith, h) in
    let later : size + (start_at (from + size) sizes i - (from + size)) ≡ start_at (from + size)
    sizes i - from =
    omega (arith, from-start (from + size) sizes i (omega (arith, inside)))
    in
    part-is (from + size) sizes (drop size bits) i inside
    ∙ ap (λ rest. take (get_or sizes i 0) rest)
    (drop-drop (start_at (from + size) sizes i - (from + size)) size bits)
    ∙ ap (λ n. take (get_or sizes i 0) (drop n bits)) later

end-within : (from end : ℕ) (ends : List ℕ) (i : ℕ) → Ascend from end ends → i < length ends
    → (get_or (from ∷ ends) i 0 < get_or ends i 0) × (get_or ends i 0 ≤ end)
end-within from end [] i a h = absurd (omega (arith, h))
end-within from end (place ∷ places) zero (above, most, rest) h = (above, most)
end-within from end (place ∷ places) (suc i) (above, most, rest) h =
    end-within place end places i rest (omega (arith, h))

-- each tile but the last fills whole bytes with its header, in a frame of at most `mtu` bytes
pub fits-regular : (header mtu : ℕ) (sizes : List ℕ) (i : ℕ) → FitFrames header mtu sizes
    → suc i < length sizes → ((get_or sizes i 0 + header) % 8 ≡ 0)
    × (get_or sizes i 0 + header ≤ 8 * mtu)
fits-regular header mtu [] i f h = absurd f
fits-regular header mtu (last ∷ []) i f h = absurd (omega (arith, h))
fits-regular header mtu (size ∷ next ∷ sizes) zero (whole, fits, rest) h = (whole, fits)
fits-regular header mtu (size ∷ next ∷ sizes) (suc i) (whole, fits, rest) h =
    fits-regular header mtu (next ∷ sizes) i rest (omega (arith, h))

-- the last tile fits beside its header and the RCS, in a frame of at most `mtu` bytes
pub fits-last : (header mtu : ℕ) (sizes : List ℕ) (i : ℕ) → FitFrames header mtu sizes
    → suc i ≡ length sizes → header + 32 + get_or sizes i 0 ≤ 8 * mtu
fits-last header mtu [] i f h = absurd f
fits-last header mtu (last ∷ []) zero f h = f
fits-last header mtu (last ∷ []) (suc i) f h = absurd (omega (arith, h))
fits-last header mtu (size ∷ next ∷ sizes) zero f h = absurd (omega (arith, h))
fits-last header mtu (size ∷ next ∷ sizes) (suc i) (whole, fits, rest) h =
    fits-last header mtu (next ∷ sizes) i rest (omega (arith, h))

some-fit : (header mtu : ℕ) (sizes : List ℕ) → FitFrames header mtu sizes → 1 ≤ length sizes
some-fit header mtu [] f = absurd f
some-fit header mtu (size ∷ sizes) f = omega arith

-- where all sizes are at least so large, so is the one at each index
pub each-least : (least : ℕ) (sizes : List ℕ) (i : ℕ) → AllByRecursion (λ size. least ≤ size) sizes
    → i < length sizes → least ≤ get_or sizes i 0
each-least least [] i all h = absurd (omega (arith, h))
each-least least (size ∷ sizes) zero all h = all.0
each-least least (size ∷ sizes) (suc i) all h = each-least least sizes i all.1 (omega (arith, h))

-- a tile is a piece of the packet
pub record IsPiece (params : FragParams) (mtu : ℕ) (bits : List Bool) (i : ℕ) : Type 0 where
  pub order : get_or (0 ∷ tile_ends params mtu (length bits)) i 0 ≤ get_or
      (tile_ends params mtu (length bits)) i 0
  pub within : get_or (tile_ends params mtu (length bits)) i 0 ≤ length bits
  pub piece : take
      (get_or (tile_ends params mtu (length bits)) i 0 - get_or
      (0 ∷ tile_ends params mtu (length bits)) i 0)
      (drop (get_or (0 ∷ tile_ends params mtu (length bits)) i 0) bits) ≡ get_or
      (tiles params mtu bits) i []
  pub size : length (get_or (tiles params mtu bits) i []) ≡ get_or
      (tile_sizes params mtu (length bits)) i 0

-- in a packet that has a bit each tile is what stands between the end before it and its own
pub is-piece : (params : FragParams) (mtu : ℕ) (bits : List Bool) (i : ℕ) → IsMtu mtu
    → 1 ≤ length bits → i < length (tile_sizes params mtu (length bits)) → IsPiece params mtu bits i
is-piece params mtu bits i h some inside =
    let sizes : List ℕ = tile_sizes params mtu (length bits) in
    let start : ℕ = start_at 0 sizes i in
    let end : ℕ = get_or (ends_from 0 sizes) i 0 in
    let size : ℕ = get_or sizes i 0 in
    let within : (start < end) × (end ≤ length bits) =
    end-within 0 (length bits) (ends_from 0 sizes) i (ends-ascend params mtu (length bits) h some)
    (omega (arith, inside, length-ends 0 sizes))
    in
    let ends : end ≡ start + size = end-is 0 sizes i inside in
    let width : end - start ≡ size = omega (arith, ends) in
    let from : start - 0 ≡ start = omega arith in
    let part : get_or (parts sizes bits) i [] ≡ take size (drop start bits) =
    part-is 0 sizes bits i inside ∙ ap (λ n. take size (drop n bits)) from
    in
    record {
      order = omega (arith, within.0);
      within = within.1;
      piece = ap (λ n. take n (drop start bits)) width ∙ sym part;
      size = ap length part ∙ length-piece bits start size (omega (arith, ends, within.1));
    }

-- a packet has as many tiles as there are sizes for so many bits
pub length-tiles : (params : FragParams) (mtu : ℕ) (bits : List Bool)
    → length (tiles params mtu bits) ≡ length (tile_sizes params mtu (length bits))
length-tiles params mtu bits = length-parts (tile_sizes params mtu (length bits)) bits

-- there is an end for each tile
pub length-tile_ends : (params : FragParams) (mtu bits : ℕ)
    → length (tile_ends params mtu bits) ≡ length (tile_sizes params mtu bits)
length-tile_ends params mtu bits = length-ends 0 (tile_sizes params mtu bits)

-- there is a tile
pub some-tile : (params : FragParams) (mtu bits : ℕ) → IsMtu mtu
    → 1 ≤ length (tile_sizes params mtu bits)
some-tile params mtu bits h =
    some-fit _ mtu (tile_sizes params mtu bits) (tiles-fit params mtu bits h)
