-- The sizes of tiles.
use Rattle.std.specs.Prelude.{ℕ, ◌≡◌, ◌+◌, ◌-◌, ◌*◌, ◌/◌, ◌%◌, ◌<◌, ◌≤◌, zero, suc, min, Bool, List}
use Rattle.std.specs.Prelude.{[], ◌∷◌, ◌++◌, length, take, drop}
use Rattle.std.specs.List.{AllByRecursion}
use Rattle.std.proofs.Common.{arith, ap, refl, sym, subst, ◌∙◌, inl, inr}
use Rattle.std.proofs.lemmas.Bool.{cases_lt, le-leb, lt-leb}
use Rattle.std.proofs.lemmas.List.{append_assoc, append-nil, length-drop, take-append-drop}
use Rattle.std.proofs.lemmas.List.{take_all}
use Rattle.schc_ids.specs.declared.fragments.FragMode.{FragMode}
use Rattle.schc_ids.specs.declared.fragments.FragMode.TheVariants as mode
use Rattle.schc_ids.specs.declared.fragments.FragParams.{FragParams}
use Rattle.tiles_bitmap.specs.Tiles.{header_of, most_in_last, IsLargest, IsTile, AreTiles}
use Rattle.tiles_bitmap.specs.Tiles.{ends_from, parts, tile_size, tile_sizes_of, tile_sizes}
use Rattle.tiles_bitmap.specs.Tiles.{tile_ends, tiles}
use Rattle.schc_ids.specs.Limits.{IsMtu}
use Rattle.tiles_bitmap.specs.Numbers.{HasNumber, tile_number, tile_index}
use Rattle.tiles_bitmap.specs.Laws.{joined, Ascend, FitFrames, least_tile}

-- with an MTU of at least 15 bytes, where the last tile can't hold what is left, the tile that is
-- cut off has a bit
pub tile_size_some : (m : FragMode) (mtu left : ℕ) → 15 ≤ mtu → most_in_last m mtu < left
    → 1 ≤ tile_size m mtu left
unfolding tile_size most_in_last
tile_size_some mode.NoAck mtu left h k = omega arith
tile_size_some mode.AckAlways mtu left h k = omega arith
tile_size_some mode.AckOnError mtu left h k = omega arith

-- with an MTU of at least 15 bytes, where the last tile can't hold what is left, the tile that is
-- cut off leaves some of it
pub tile_size_leaves : (m : FragMode) (mtu left : ℕ) → 15 ≤ mtu → most_in_last m mtu < left
    → tile_size m mtu left < left
unfolding tile_size most_in_last
tile_size_leaves mode.NoAck mtu left h k = omega arith
tile_size_leaves mode.AckAlways mtu left h k = omega arith
tile_size_leaves mode.AckOnError mtu left h k = omega arith

tile_size-large : (m : FragMode) (mtu left : ℕ) → 15 ≤ mtu → most_in_last m mtu < left
    → 8 ≤ tile_size m mtu left
unfolding tile_size most_in_last
tile_size-large mode.NoAck mtu left h k = omega arith
tile_size-large mode.AckAlways mtu left h k = omega arith
tile_size-large mode.AckOnError mtu left h k = omega arith

-- it is a tile as the definition says
pub IsTile-tile_size : (m : FragMode) (mtu left : ℕ) → 15 ≤ mtu → most_in_last m mtu < left
    → IsTile m mtu left (tile_size m mtu left)
unfolding tile_size most_in_last
IsTile-tile_size mode.NoAck mtu left h k =
    record {
      count = min mtu ((left - 7) / 8);
      fills = record { in_frame = omega arith; whole = omega arith; leaves = omega arith };
      largest = λ other other_count f. omega (arith, f.in_frame, f.whole, f.leaves);
    }
IsTile-tile_size mode.AckAlways mtu left h k =
    record {
      count = min mtu ((left - 6) / 8);
      fills = record { in_frame = omega arith; whole = omega arith; leaves = omega arith };
      largest = λ other other_count f. omega (arith, f.in_frame, f.whole, f.leaves);
    }
IsTile-tile_size mode.AckOnError mtu left h k = refl

-- the largest is one alone
IsLargest-same : (header mtu left first second : ℕ) → IsLargest header mtu left first
    → IsLargest header mtu left second → first ≡ second
IsLargest-same header mtu left first second a b =
    omega (
      arith,
      a.fills.whole,
      b.fills.whole,
      a.largest second b.count b.fills,
      b.largest first
          a.count a.fills,
    )

IsTile-same : (m : FragMode) (mtu left first second : ℕ) → IsTile m mtu left first
    → IsTile m mtu left second → first ≡ second
IsTile-same mode.NoAck mtu left first second a b =
    IsLargest-same (header_of mode.NoAck) mtu left first second a b
IsTile-same mode.AckAlways mtu left first second a b =
    IsLargest-same (header_of mode.AckAlways) mtu left first second a b
IsTile-same mode.AckOnError mtu left first second a b = a ∙ sym b

-- what is left fits in a last tile
tile_sizes_of-last : (most : ℕ) (m : FragMode) (mtu left : ℕ) → left ≤ most_in_last m mtu
    → tile_sizes_of most m mtu left ≡ left ∷ []
unfolding tile_sizes_of
tile_sizes_of-last zero m mtu left h = refl
tile_sizes_of-last (suc most) m mtu left h = rw (le-leb left (most_in_last m mtu) h)

-- it does not
tile_sizes_of-cut : (most : ℕ) (m : FragMode) (mtu left : ℕ) → most_in_last m mtu < left
    → tile_sizes_of (suc most) m mtu left ≡ tile_size m mtu left ∷ tile_sizes_of most m mtu
    (left - tile_size m mtu left)
unfolding tile_sizes_of
tile_sizes_of-cut most m mtu left h = rw (lt-leb left (most_in_last m mtu) h)

-- any number that is large enough will do
tile_sizes_of-enough : (most other : ℕ) (m : FragMode) (mtu left : ℕ) → 15 ≤ mtu → left ≤ most
    → left ≤ other → tile_sizes_of most m mtu left ≡ tile_sizes_of other m mtu left
tile_sizes_of-enough zero other m mtu left h a b =
    let fits : left ≤ most_in_last m mtu = omega arith in
    tile_sizes_of-last zero m mtu left fits ∙ sym (tile_sizes_of-last other m mtu left fits)
tile_sizes_of-enough (suc most) zero m mtu left h a b =
    let fits : left ≤ most_in_last m mtu = omega arith in
    tile_sizes_of-last (suc most) m mtu left fits ∙ sym (tile_sizes_of-last zero m mtu left fits)
tile_sizes_of-enough (suc most) (suc other) m mtu left h a b =
    elim (cases_lt (most_in_last m mtu) left) [
      | inr fits ↦ tile_sizes_of-last (suc most) m mtu left fits
          ∙ sym (tile_sizes_of-last (suc other) m mtu left fits)
      | inl more ↦
          let some : 1 ≤ tile_size m mtu left = tile_size_some m mtu left h more in
          let size : ℕ = tile_size m mtu left in
          tile_sizes_of-cut most m mtu left more
          ∙ ap (λ sizes. size ∷ sizes)
          (tile_sizes_of-enough most other m mtu (left - size) h (omega (arith, some))
          (omega (arith, some)))
          ∙ sym (tile_sizes_of-cut other m mtu left more)
    ]

-- the first tile, and those of the rest
pub tile_sizes_of-more : (m : FragMode) (mtu left : ℕ) → 15 ≤ mtu → most_in_last m mtu < left
    → let size : ℕ = tile_size m mtu left in
    tile_sizes_of left m mtu left ≡ size ∷ tile_sizes_of (left - size) m mtu (left - size)
tile_sizes_of-more m mtu zero h more = absurd (omega arith)
tile_sizes_of-more m mtu (suc left) h more =
    let size : ℕ = tile_size m mtu (suc left) in
    let some : 1 ≤ size = tile_size_some m mtu (suc left) h more in
    tile_sizes_of-cut left m mtu (suc left) more
    ∙ ap (λ sizes. size ∷ sizes)
    (tile_sizes_of-enough left (suc left - size) m mtu (suc left - size) h (omega (arith, some))
    (omega arith))

pub tile_sizes_of-one : (m : FragMode) (mtu left : ℕ) → left ≤ most_in_last m mtu
    → tile_sizes_of left m mtu left ≡ left ∷ []
tile_sizes_of-one m mtu left h = tile_sizes_of-last left m mtu left h

-- one end more
pub ends-more : (ends : List ℕ) (m : FragMode) (mtu at bits : ℕ) → 15 ≤ mtu → at ≤ bits
    → most_in_last m mtu < bits - at → let next : ℕ = at + tile_size m mtu (bits - at) in
    (ends ++ next ∷ []) ++ ends_from next
    (tile_sizes_of (bits - next) m mtu (bits - next)) ≡ ends ++ ends_from at
    (tile_sizes_of (bits - at) m mtu (bits - at))
ends-more ends m mtu at bits h k more =
    let size : ℕ = tile_size m mtu (bits - at) in
    let next : ℕ = at + size in
    let left : bits - at - size ≡ bits - next = omega arith in
    let cut : tile_sizes_of (bits - at) m mtu (bits - at) ≡ size ∷ tile_sizes_of (bits - next) m mtu
    (bits - next) =
    subst (λ n. tile_sizes_of (bits - at) m mtu (bits - at) ≡ size ∷ tile_sizes_of n m mtu n) left
    (tile_sizes_of-more m mtu (bits - at) h more)
    in
    append_assoc ends (next ∷ []) (ends_from next (tile_sizes_of (bits - next) m mtu (bits - next)))
    ∙ ap (λ sizes. ends ++ ends_from at sizes) (sym cut)

-- the last end
pub ends-last : (ends : List ℕ) (m : FragMode) (mtu at bits : ℕ) → at ≤ bits
    → bits - at ≤ most_in_last m mtu
    → ends ++ bits ∷ [] ≡ ends ++ ends_from at (tile_sizes_of (bits - at) m mtu (bits - at))
ends-last ends m mtu at bits h fits =
    let all : at + (bits - at) ≡ bits = omega arith in
    ap (λ n. ends ++ n ∷ []) (sym all)
    ∙ ap (λ sizes. ends ++ ends_from at sizes) (sym (tile_sizes_of-one m mtu (bits - at) fits))

-- before a tile is cut, the ends that are still to be found are those of all tiles
pub ends-begin : (params : FragParams) (mtu bits : ℕ)
    → [] ++ ends_from 0 (tile_sizes_of (bits - 0) params.mode mtu (bits - 0)) ≡ tile_ends params mtu
    bits
unfolding tile_sizes
ends-begin params mtu bits =
    let all : bits - 0 ≡ bits = omega arith in
    ap (λ n. ends_from 0 (tile_sizes_of n params.mode mtu n)) all

-- one tile more in front
are-more : (m : FragMode) (mtu left size : ℕ) (sizes : List ℕ) → most_in_last m mtu < left
    → IsTile m mtu left size → AreTiles m mtu (left - size) sizes
    → AreTiles m mtu left (size ∷ sizes)
are-more m mtu left size [] more tile rest = absurd rest
are-more m mtu left size (next ∷ sizes) more tile rest = (more, tile, rest)

are-tiles-of : (most : ℕ) (m : FragMode) (mtu left : ℕ) → 15 ≤ mtu → left ≤ most
    → AreTiles m mtu left (tile_sizes_of most m mtu left)
are-tiles-of zero m mtu left h k =
    let fits : left ≤ most_in_last m mtu = omega arith in
    subst (λ sizes. AreTiles m mtu left sizes) (sym (tile_sizes_of-last zero m mtu left fits))
    (refl, fits)
are-tiles-of (suc most) m mtu left h k =
    elim (cases_lt (most_in_last m mtu) left) [
      | inr fits ↦ subst (λ sizes. AreTiles m mtu left sizes)
          (sym (tile_sizes_of-last (suc most) m mtu left fits)) (refl, fits)
      | inl more ↦
          let size : ℕ = tile_size m mtu left in
          let some : 1 ≤ size = tile_size_some m mtu left h more in
          subst (λ sizes. AreTiles m mtu left sizes) (sym (tile_sizes_of-cut most m mtu left more))
          (are-more m mtu left size (tile_sizes_of most m mtu (left - size)) more
          (IsTile-tile_size m mtu left h more)
          (are-tiles-of most m mtu (left - size) h (omega (arith, some))))
    ]

-- other sizes are none
tiles-once : (m : FragMode) (mtu left : ℕ) (sizes : List ℕ) → 15 ≤ mtu → AreTiles m mtu left sizes
    → sizes ≡ tile_sizes_of left m mtu left
tiles-once m mtu left [] h are = absurd are
tiles-once m mtu left (size ∷ []) h (all, fits) =
    ap (λ n. n ∷ []) all ∙ sym (tile_sizes_of-one m mtu left fits)
tiles-once m mtu left (size ∷ next ∷ sizes) h (more, tile, rest) =
    let same : size ≡ tile_size m mtu left =
    IsTile-same m mtu left size (tile_size m mtu left) tile (IsTile-tile_size m mtu left h more)
    in
    let later : next ∷ sizes ≡ tile_sizes_of (left - size) m mtu (left - size) =
    tiles-once m mtu (left - size) (next ∷ sizes) h rest in
    ap (λ list. size ∷ list) later
    ∙ ap (λ n. n ∷ tile_sizes_of (left - n) m mtu (left - n)) same
    ∙ sym (tile_sizes_of-more m mtu left h more)

-- the sizes are those that the definition of tiles says, and there are no others
pub cut-once : (params : FragParams) (mtu bits : ℕ) → IsMtu mtu
    → AreTiles params.mode mtu bits (tile_sizes params mtu bits)
    × ((sizes : List ℕ) → AreTiles params.mode mtu bits sizes → sizes ≡ tile_sizes params mtu bits)
unfolding tile_sizes
cut-once params mtu bits h = (
  are-tiles-of bits params.mode mtu bits h.0 (omega arith),
  λ sizes are. tiles-once params.mode
      mtu bits sizes h.0 are,
)

-- the sizes that are computed are those that the definition of tiles says
pub are-tiles : (params : FragParams) (mtu bits : ℕ) → IsMtu mtu
    → AreTiles params.mode mtu bits (tile_sizes params mtu bits)
are-tiles params mtu bits h = (cut-once params mtu bits h).0

-- a tile leaves something
IsTile-leaves : (m : FragMode) (mtu left size : ℕ) → most_in_last m mtu < left
    → IsTile m mtu left size → size < left
unfolding most_in_last
IsTile-leaves mode.NoAck mtu left size more tile = omega (arith, tile.fills.leaves)
IsTile-leaves mode.AckAlways mtu left size more tile = omega (arith, tile.fills.leaves)
IsTile-leaves mode.AckOnError mtu left size more tile = omega (arith, tile)

joined-parts : (m : FragMode) (mtu left : ℕ) (sizes : List ℕ) (bits : List Bool)
    → length bits ≡ left → AreTiles m mtu left sizes → joined (parts sizes bits) ≡ bits
joined-parts m mtu left [] bits e are = absurd are
joined-parts m mtu left (size ∷ []) bits e (all, fits) =
    append-nil (take size bits) ∙ take_all size bits (omega arith)
joined-parts m mtu left (size ∷ next ∷ sizes) bits e (more, tile, rest) =
    let width : length (drop size bits) ≡ left - size = length-drop size bits ∙ omega arith in
    ap (λ list. take size bits ++ list)
    (joined-parts m mtu (left - size) (next ∷ sizes) (drop size bits) width rest)
    ∙ take-append-drop size bits

-- the tiles in their order are the packet
pub tiles-join : (params : FragParams) (mtu : ℕ) (bits : List Bool) → IsMtu mtu
    → joined (tiles params mtu bits) ≡ bits
tiles-join params mtu bits h =
    joined-parts params.mode mtu (length bits) (tile_sizes params mtu (length bits)) bits refl
    (are-tiles params mtu (length bits) h)

IsLargest-fits : (header mtu left size : ℕ) → IsLargest header mtu left size
    → ((size + header) % 8 ≡ 0) × (size + header ≤ 8 * mtu)
IsLargest-fits header mtu left size tile =
    (omega (arith, tile.fills.whole), omega (arith, tile.fills.whole, tile.fills.in_frame))

IsTile-fits : (m : FragMode) (mtu left size : ℕ) → 15 ≤ mtu → IsTile m mtu left size
    → ((size + header_of m) % 8 ≡ 0) × (size + header_of m ≤ 8 * mtu)
IsTile-fits mode.NoAck mtu left size h tile =
    IsLargest-fits (header_of mode.NoAck) mtu left size tile
IsTile-fits mode.AckAlways mtu left size h tile =
    IsLargest-fits (header_of mode.AckAlways) mtu left size tile
IsTile-fits mode.AckOnError mtu left size h tile = (omega (arith, tile), omega (arith, tile))

last-fits : (m : FragMode) (mtu left : ℕ) → 15 ≤ mtu → left ≤ most_in_last m mtu
    → header_of m + 32 + left ≤ 8 * mtu
unfolding most_in_last
last-fits mode.NoAck mtu left h k = omega arith
last-fits mode.AckAlways mtu left h k = omega arith
last-fits mode.AckOnError mtu left h k = omega arith

fit-frames : (m : FragMode) (mtu left : ℕ) (sizes : List ℕ) → 15 ≤ mtu → AreTiles m mtu left sizes
    → FitFrames (header_of m) mtu sizes
fit-frames m mtu left [] h are = absurd are
fit-frames m mtu left (size ∷ []) h (all, fits) =
    last-fits m mtu size h (subst (λ n. n ≤ most_in_last m mtu) (sym all) fits)
fit-frames m mtu left (size ∷ next ∷ sizes) h (more, tile, rest) =
    let fits : ((size + header_of m) % 8 ≡ 0) × (size + header_of m ≤ 8 * mtu) =
    IsTile-fits m mtu left size h tile in
    (fits.0, fits.1, fit-frames m mtu (left - size) (next ∷ sizes) h rest)

-- each tile but the last fills whole bytes with its header, in a frame of at most `mtu` bytes;
-- the last one fits beside its header and the RCS
pub tiles-fit : (params : FragParams) (mtu bits : ℕ) → IsMtu mtu
    → FitFrames (header_of params.mode) mtu (tile_sizes params mtu bits)
tiles-fit params mtu bits h =
    fit-frames params.mode mtu bits (tile_sizes params mtu bits) h.0 (are-tiles params mtu bits h)

-- a tile has enough bits, and leaves enough
IsTile-least : (m : FragMode) (mtu left size : ℕ) → 15 ≤ mtu → most_in_last m mtu < left
    → IsTile m mtu left size → (least_tile m ≤ size) × (least_tile m ≤ left - size)
unfolding most_in_last
IsTile-least mode.NoAck mtu left size h more tile =
    let long : size ≡ tile_size mode.NoAck mtu left =
    IsTile-same mode.NoAck mtu left size (tile_size mode.NoAck mtu left) tile
    (IsTile-tile_size mode.NoAck mtu left h more) in (
      subst (λ n. 8 ≤ n) (sym long) (tile_size-large mode.NoAck mtu left h more),
      omega
          (arith, tile.fills.leaves),
    )
IsTile-least mode.AckAlways mtu left size h more tile =
    let long : size ≡ tile_size mode.AckAlways mtu left =
    IsTile-same mode.AckAlways mtu left size (tile_size mode.AckAlways mtu left) tile
    (IsTile-tile_size mode.AckAlways mtu left h more) in (
      subst (λ n. 8 ≤ n) (sym long) (tile_size-large mode.AckAlways mtu left h more),
      omega
          (arith, tile.fills.leaves),
    )
IsTile-least mode.AckOnError mtu left size h more tile = (omega (arith, tile), omega (arith, tile))

large-of : (m : FragMode) (mtu left : ℕ) (sizes : List ℕ) → 15 ≤ mtu → least_tile m ≤ left
    → AreTiles m mtu left sizes → AllByRecursion (λ size. least_tile m ≤ size) sizes
large-of m mtu left [] h k are = absurd are
large-of m mtu left (size ∷ []) h k (all, fits) = (subst (λ n. least_tile m ≤ n) (sym all) k, tt)
large-of m mtu left (size ∷ next ∷ sizes) h k (more, tile, rest) =
    let least : (least_tile m ≤ size) × (least_tile m ≤ left - size) =
    IsTile-least m mtu left size h more tile in
    (least.0, large-of m mtu (left - size) (next ∷ sizes) h least.1 rest)

-- each tile has at least 8 bits, in ACK-on-Error at least one, where the packet has as many
pub tiles-large : (params : FragParams) (mtu bits : ℕ) → IsMtu mtu → least_tile params.mode ≤ bits
    → AllByRecursion (λ size. least_tile params.mode ≤ size) (tile_sizes params mtu bits)
tiles-large params mtu bits h k =
    large-of params.mode mtu bits (tile_sizes params mtu bits) h.0 k (are-tiles params mtu bits h)

-- tiles of 80 bits
count-of : (most mtu left : ℕ) → 1 ≤ left → left ≤ most
    → length (tile_sizes_of most mode.AckOnError mtu left) ≡ (left + 79) / 80
unfolding most_in_last tile_size
count-of zero mtu left h k = absurd (omega arith)
count-of (suc most) mtu left h k =
    elim (cases_lt 80 left) [
      | inr fits ↦ ap length (tile_sizes_of-last (suc most) mode.AckOnError mtu left fits)
          ∙ omega arith
      | inl more ↦
          ap length (tile_sizes_of-cut most mode.AckOnError mtu left more)
          ∙ ap suc (count-of most mtu (left - 80) (omega arith) (omega arith))
          ∙ omega arith
    ]

-- in ACK-on-Error a packet that has a bit has a tile for each 80, and one for what is left
pub counts-tiles : (params : FragParams) (mtu bits : ℕ) → params.mode ≡ mode.AckOnError → 1 ≤ bits
    → length (tile_sizes params mtu bits) ≡ (bits + 79) / 80
unfolding tile_sizes
counts-tiles params mtu bits e h =
    ap (λ m. length (tile_sizes_of bits m mtu bits)) e ∙ count-of bits mtu bits h (omega arith)

-- in ACK-on-Error the numbers of a tile in one of the four windows lead back to its index
pub numbers-name : (i : ℕ) → HasNumber mode.AckOnError i
    → tile_index (tile_number mode.AckOnError i) ≡ i
unfolding tile_number
numbers-name i h = omega arith

least-some : (m : FragMode) → 1 ≤ least_tile m
least-some mode.NoAck = omega arith
least-some mode.AckAlways = omega arith
least-some mode.AckOnError = omega arith

ascend-of : (m : FragMode) (mtu left from : ℕ) (sizes : List ℕ) → 15 ≤ mtu → 1 ≤ left
    → AreTiles m mtu left sizes → Ascend from (from + left) (ends_from from sizes)
ascend-of m mtu left from [] h some are = absurd are
ascend-of m mtu left from (size ∷ []) h some (all, fits) = (omega arith, omega arith, omega arith)
ascend-of m mtu left from (size ∷ next ∷ sizes) h some (more, tile, rest) =
    let leaves : size < left = IsTile-leaves m mtu left size more tile in
    let least : 1 ≤ size =
    omega (arith, least-some m, (IsTile-least m mtu left size h more tile).0) in
    let same : from + size + (left - size) ≡ from + left = omega arith in (
      omega arith,
      omega arith,
      subst (λ end. Ascend (from + size) end (ends_from (from + size) (next ∷ sizes))) same
          (ascend-of m mtu (left - size) (from + size) (next ∷ sizes) h (omega arith) rest),
    )

-- in a packet that has a bit each tile ends above the one before, the last where the packet ends
pub ends-ascend : (params : FragParams) (mtu bits : ℕ) → IsMtu mtu → 1 ≤ bits
    → Ascend 0 bits (tile_ends params mtu bits)
ends-ascend params mtu bits h some =
    let all : 0 + bits ≡ bits = omega arith in
    subst (λ end. Ascend 0 end (tile_ends params mtu bits)) all
    (ascend-of params.mode mtu bits 0 (tile_sizes params mtu bits) h.0 some
    (are-tiles params mtu bits h))
