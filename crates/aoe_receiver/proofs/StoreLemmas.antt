-- A buffer that is written in part, and the places that stand in it.
use Rattle.std.proofs.Common.{◌≡◌, ℕ, zero, suc, ◌+◌, ◌-◌, ◌*◌, ◌<◌, ◌≤◌, Bool, true, false, List}
use Rattle.std.proofs.Common.{[], ◌∷◌, ◌++◌, take, drop, set, get_or, length, replicate, Option}
use Rattle.std.proofs.Common.{Some, None, refl, sym, ap, ◌∙◌, arith}
use Rattle.std.specs.List.{AllByRecursion}
use Rattle.std.proofs.lemmas.List.{append-nil, append_assoc, length-append, length-take}
use Rattle.std.proofs.lemmas.List.{length-drop, take_at, drop-drop}
use Rattle.std.proofs.lemmas.Slice.{drop-append-drop}
use Rattle.schc_bits.specs.Bits.{octets}
use Rattle.tiles_bitmap.specs.Places.{or_kept, keep, held_bits, joined_tiles}
use Rattle.aoe_receiver.specs.Store.{place_of, places, is_sized, sized, overwritten}

-- what stands in front of a write, behind it, and where it is
pub take-overwritten : (n at : ℕ) (bytes buffer : List ℕ) → n ≤ at → at ≤ length buffer
    → take n (overwritten at bytes buffer) ≡ take n buffer
unfolding overwritten
take-overwritten zero at bytes buffer h k = refl
take-overwritten (suc n) zero bytes buffer h k = absurd (omega arith)
take-overwritten (suc n) (suc at) bytes [] h k = absurd (omega arith)
take-overwritten (suc n) (suc at) bytes (b ∷ buffer) h k =
    ap (λ bs. b ∷ bs) (take-overwritten n at bytes buffer (omega arith) (omega arith))

pub drop-overwritten : (n at m : ℕ) (bytes buffer : List ℕ) → m ≡ n + at → m ≤ length buffer
    → drop n (overwritten m bytes buffer) ≡ overwritten at bytes (drop n buffer)
unfolding overwritten
drop-overwritten zero at m bytes buffer e k = let same : m ≡ at = omega arith in
    ap (λ i. overwritten i bytes buffer) same
drop-overwritten (suc n) at zero bytes buffer e k = absurd (omega arith)
drop-overwritten (suc n) at (suc m) bytes [] e k = absurd (omega arith)
drop-overwritten (suc n) at (suc m) bytes (b ∷ buffer) e k =
    drop-overwritten n at m bytes buffer (omega arith) (omega arith)

-- what stands behind the bytes that are written stays
pub drop-behind : (n at : ℕ) (bytes buffer : List ℕ) → at + length bytes ≤ n → at ≤ length buffer
    → drop n (overwritten at bytes buffer) ≡ drop n buffer
unfolding overwritten
drop-behind n zero bytes buffer h k =
    drop-append-drop (length bytes) buffer bytes n (omega arith) refl
drop-behind zero (suc at) bytes buffer h k = absurd (omega arith)
drop-behind (suc n) (suc at) bytes [] h k = absurd (omega arith)
drop-behind (suc n) (suc at) bytes (b ∷ buffer) h k =
    drop-behind n at bytes buffer (omega arith) (omega arith)

-- bytes that are written are read again at the same place
pub taken-overwritten : (at : ℕ) (bytes buffer : List ℕ) → at ≤ length buffer
    → take (length bytes) (drop at (overwritten at bytes buffer)) ≡ bytes
unfolding overwritten
taken-overwritten zero bytes buffer k = take_at bytes _ (length bytes) refl
taken-overwritten (suc at) bytes [] k = absurd (omega arith)
taken-overwritten (suc at) bytes (b ∷ buffer) k = taken-overwritten at bytes buffer (omega arith)

-- bytes that are written within the buffer leave its length as it is
pub length-overwritten : (at : ℕ) (bytes buffer : List ℕ) → at + length bytes ≤ length buffer
    → length (overwritten at bytes buffer) ≡ length buffer
unfolding overwritten
length-overwritten at bytes buffer h =
    omega (
      arith,
      length-append (take at buffer) (bytes ++ drop (length bytes) (drop at buffer)),
      length-append bytes (drop (length bytes) (drop at buffer)),
      length-take at buffer,
      length-drop (length bytes) (drop at buffer),
      length-drop at buffer,
    )

-- which places are held, and how many there are
pub held-sized : (sizes buffer : List ℕ) → held_bits (places sizes buffer) ≡ sized sizes
unfolding held_bits places place_of sized is_sized
held-sized [] buffer = refl
held-sized (zero ∷ sizes) buffer = ap (λ bits. false ∷ bits) (held-sized sizes (drop 10 buffer))
held-sized (suc more ∷ sizes) buffer = ap (λ bits. true ∷ bits) (held-sized sizes (drop 10 buffer))

-- there is a bit for each size, which says whether its place holds a tile
pub length-sized : (sizes : List ℕ) → length (sized sizes) ≡ length sizes
unfolding sized
length-sized [] = refl
length-sized (size ∷ sizes) = ap suc (length-sized sizes)

-- there is a place for each size, free or with a tile
pub length-places : (sizes buffer : List ℕ) → length (places sizes buffer) ≡ length sizes
unfolding places
length-places [] buffer = refl
length-places (size ∷ sizes) buffer = ap suc (length-places sizes (drop 10 buffer))

-- where all sizes are 0, all places are free
pub places-none : (n : ℕ) (buffer : List ℕ) → places (replicate n 0) buffer ≡ replicate n None
unfolding places place_of
places-none zero buffer = refl
places-none (suc n) buffer = ap (λ ps. None ∷ ps) (places-none n (drop 10 buffer))

-- where all sizes are 0, no bit says that a tile is held
pub sized-none : (n : ℕ) → sized (replicate n 0) ≡ replicate n false
unfolding sized is_sized
sized-none zero = refl
sized-none (suc n) = ap (λ bits. false ∷ bits) (sized-none n)

-- the bit of a place says whether its size isn't 0
pub sized-at : (sizes : List ℕ) (i : ℕ) → get_or (sized sizes) i false ≡ is_sized (get_or sizes i 0)
unfolding sized is_sized
sized-at [] i = refl
sized-at (size ∷ sizes) zero = refl
sized-at (size ∷ sizes) (suc i) = sized-at sizes i

-- where a place gets a size of at least 1, its bit becomes 1
pub sized-set : (sizes : List ℕ) (i more : ℕ)
    → sized (set sizes i (suc more)) ≡ set (sized sizes) i true
unfolding sized is_sized
sized-set [] i more = refl
sized-set (size ∷ sizes) zero more = refl
sized-set (size ∷ sizes) (suc i) more = ap (λ bits. is_sized size ∷ bits) (sized-set sizes i more)

-- no tiles more leave the places as they are
pub keep-nothing : (k : ℕ) (ps : List (Option (List Bool))) → keep k [] ps ≡ ps
unfolding keep
keep-nothing zero [] = refl
keep-nothing (suc k) [] = refl
keep-nothing zero (p ∷ ps) = refl
keep-nothing (suc k) (p ∷ ps) = ap (λ qs. p ∷ qs) (keep-nothing k ps)

-- one tile after the other
pub keep-first : (k : ℕ) (tile : List Bool) (tiles : List (List Bool))
    (ps : List (Option (List Bool))) →
    keep k (tile ∷ tiles) ps ≡ keep (suc k) tiles (keep k (tile ∷ []) ps)
unfolding keep
keep-first zero tile tiles [] = refl
keep-first (suc k) tile tiles [] = refl
keep-first zero tile tiles (p ∷ ps) =
    ap (λ qs. or_kept p tile ∷ keep zero tiles qs) (sym (keep-nothing zero ps))
keep-first (suc k) tile tiles (p ∷ ps) = ap (λ qs. p ∷ qs) (keep-first k tile tiles ps)

-- a place that holds a tile keeps it
pub keep-held : (k : ℕ) (tile : List Bool) (ps : List (Option (List Bool)))
    → get_or (held_bits ps) k false ≡ true → keep k (tile ∷ []) ps ≡ ps
unfolding keep or_kept held_bits
keep-held zero tile [] h = refl
keep-held (suc k) tile [] h = refl
keep-held zero tile (None ∷ ps) h = absurd cc
keep-held zero tile (Some held ∷ ps) h = ap (λ qs. Some held ∷ qs) (keep-nothing zero ps)
keep-held (suc k) tile (None ∷ ps) h = ap (λ qs. None ∷ qs) (keep-held k tile ps h)
keep-held (suc k) tile (Some held ∷ ps) h = ap (λ qs. Some held ∷ qs) (keep-held k tile ps h)

-- and no place behind it changes
pub keep-behind : (k : ℕ) (tile : List Bool) (ps : List (Option (List Bool)))
    → drop (suc k) (held_bits (keep k (tile ∷ []) ps)) ≡ drop (suc k) (held_bits ps)
unfolding keep or_kept held_bits
keep-behind zero tile [] = refl
keep-behind (suc k) tile [] = refl
keep-behind zero tile (None ∷ ps) = ap held_bits (keep-nothing zero ps)
keep-behind zero tile (Some held ∷ ps) = ap held_bits (keep-nothing zero ps)
keep-behind (suc k) tile (None ∷ ps) = keep-behind k tile ps
keep-behind (suc k) tile (Some held ∷ ps) = keep-behind k tile ps

-- a tile written at a free place is held there
place_of-front : (tile rest : List ℕ) → 1 ≤ length tile
    → place_of (length tile) (tile ++ rest) ≡ Some (octets tile)
unfolding place_of
place_of-front [] rest h = absurd (omega arith)
place_of-front (byte ∷ tile) rest h =
    ap (λ bytes. Some (octets (byte ∷ bytes))) (take_at tile rest (length tile) refl)

place_of-same : (size : ℕ) (a b : List ℕ) → take size a ≡ take size b
    → place_of size a ≡ place_of size b
unfolding place_of
place_of-same zero a b e = refl
place_of-same (suc more) a b e = ap (λ bytes. Some (octets bytes)) e

places-first : (sizes buffer tile : List ℕ) → 1 ≤ length tile → length tile ≤ 10 →
    places (length tile ∷ sizes) (overwritten 0 tile buffer) ≡ keep zero (octets tile ∷ [])
    (places (zero ∷ sizes) buffer)
unfolding places keep or_kept overwritten place_of
places-first sizes buffer tile some most =
    let first = place_of-front tile (drop (length tile) buffer) some in
    let behind = drop-append-drop (length tile) buffer tile 10 most refl in
    ap (λ p. p ∷ places sizes (drop 10 (tile ++ drop (length tile) buffer))) first
    ∙ ap (λ bytes. Some (octets tile) ∷ places sizes bytes) behind
    ∙ ap (λ ps. Some (octets tile) ∷ ps) (sym (keep-nothing zero (places sizes (drop 10 buffer))))

-- a tile of one to ten bytes that is written with its size at a free place is kept there
pub places-put : (place at : ℕ) (sizes buffer tile : List ℕ) → at ≡ 10 * place
    → place < length sizes → 10 * length sizes ≤ length buffer →
    AllByRecursion (λ size. size ≤ 10) sizes → get_or sizes place 0 ≡ 0 → 1 ≤ length tile
    → length tile ≤ 10 →
    places (set sizes place (length tile)) (overwritten at tile buffer) ≡ keep place
    (octets tile ∷ []) (places sizes buffer)
unfolding places keep
places-put place at [] buffer tile e h room small free some most = absurd (omega arith)
places-put zero at (suc more ∷ sizes) buffer tile e h room small free some most =
    absurd (omega arith)
places-put zero at (zero ∷ sizes) buffer tile e h room small free some most =
    let none : at ≡ 0 = omega arith in
    rw none (places-first sizes buffer tile some most)
places-put (suc place) at (size ∷ sizes) buffer tile e h room small free some most =
    let back : at ≡ 10 + 10 * place = omega arith in
    let within : at ≤ length buffer = omega arith in
    let low : size ≤ at = omega (arith, small.0) in
    let first =
    place_of-same size (overwritten at tile buffer) buffer
    (take-overwritten size at tile buffer low within) in
    let behind = drop-overwritten 10 (10 * place) at tile buffer back within in
    let fewer : 10 * length sizes ≤ length (drop 10 buffer) = rw length-drop (omega arith) in
    ap (λ p. p ∷ places (set sizes place (length tile)) (drop 10 (overwritten at tile buffer)))
    first
    ∙ ap (λ bytes. place_of size buffer ∷ places (set sizes place (length tile)) bytes) behind
    ∙ ap (λ ps. place_of size buffer ∷ ps)
    (places-put place (10 * place) sizes (drop 10 buffer) tile refl (omega arith) fewer small.1 free
    some most)

-- what is written behind the places changes none
pub places-behind : (at : ℕ) (sizes buffer bytes : List ℕ) → 10 * length sizes ≤ at
    → at ≤ length buffer → AllByRecursion (λ size. size ≤ 10) sizes →
    places sizes (overwritten at bytes buffer) ≡ places sizes buffer
unfolding places
places-behind at [] buffer bytes h k small = refl
places-behind at (size ∷ sizes) buffer bytes h k small =
    let back : at ≡ 10 + (at - 10) = omega arith in
    let low : size ≤ at = omega (arith, small.0) in
    let first =
    place_of-same size (overwritten at bytes buffer) buffer
    (take-overwritten size at bytes buffer low k) in
    let behind = drop-overwritten 10 (at - 10) at bytes buffer back k in
    ap (λ p. p ∷ places sizes (drop 10 (overwritten at bytes buffer))) first
    ∙ ap (λ bs. place_of size buffer ∷ places sizes bs) behind
    ∙ ap (λ ps. place_of size buffer ∷ ps)
    (places-behind (at - 10) sizes (drop 10 buffer) bytes (omega arith)
    (rw length-drop (omega arith)) small.1)

-- sizes stay small
pub small-set : (sizes : List ℕ) (i size : ℕ) → size ≤ 10 → AllByRecursion (λ s. s ≤ 10) sizes
    → AllByRecursion (λ s. s ≤ 10) (set sizes i size)
small-set [] i size h small = tt
small-set (s ∷ sizes) zero size h small = (h, small.1)
small-set (s ∷ sizes) (suc i) size h small = (small.0, small-set sizes i size h small.1)

-- sizes that are all 0 are at most ten
pub small-none : (n : ℕ) → AllByRecursion (λ s. s ≤ 10) (replicate n 0)
small-none zero = tt
small-none (suc n) = (omega arith, small-none n)

-- where all sizes are at most ten, one that is read is too
pub small-at : (sizes : List ℕ) (i : ℕ) → AllByRecursion (λ s. s ≤ 10) sizes → get_or sizes i 0 ≤ 10
small-at [] i small = omega arith
small-at (s ∷ sizes) zero small = small.0
small-at (s ∷ sizes) (suc i) small = small-at sizes i small.1

-- the tile of one place more
pub piece : Option (List Bool) → List Bool
piece None = []
piece (Some tile) = tile

pub joined-more : (i : ℕ) (ps : List (Option (List Bool))) → i < length ps
    → joined_tiles (take (suc i) ps) ≡ joined_tiles (take i ps) ++ piece (get_or ps i None)
unfolding joined_tiles piece
joined-more i [] h = absurd (omega arith)
joined-more zero (None ∷ ps) h = refl
joined-more zero (Some tile ∷ ps) h = append-nil tile
joined-more (suc i) (None ∷ ps) h = joined-more i ps (omega arith)
joined-more (suc i) (Some tile ∷ ps) h =
    ap (λ bits. tile ++ bits) (joined-more i ps (omega arith))
    ∙ sym (append_assoc tile (joined_tiles (take i ps)) (piece (get_or ps i None)))

piece-place : (size : ℕ) (buffer : List ℕ)
    → piece (place_of size buffer) ≡ octets (take size buffer)
unfolding piece place_of
piece-place zero buffer = refl
piece-place (suc more) buffer = refl

piece-at : (i at : ℕ) (sizes buffer : List ℕ) → at ≡ 10 * i → i < length sizes
    → piece (get_or (places sizes buffer) i None) ≡ octets
    (take (get_or sizes i 0) (drop at buffer))
unfolding places
piece-at i at [] buffer e h = absurd (omega arith)
piece-at zero at (size ∷ sizes) buffer e h = let none : at ≡ 0 = omega arith in
    rw none (piece-place size buffer)
piece-at (suc i) at (size ∷ sizes) buffer e h =
    let back : 10 + 10 * i ≡ at = omega arith in
    piece-at i (10 * i) sizes (drop 10 buffer) refl (omega arith)
    ∙ ap (λ bytes. octets (take (get_or sizes i 0) bytes))
    (drop-drop (10 * i) 10 buffer ∙ ap (λ n. drop n buffer) back)

-- the tiles below a place, and then as many bytes of its ten as its size says, are the tiles up to
-- and with that place
pub tile-joins : (i : ℕ) (sizes buffer : List ℕ) → i < length sizes →
    joined_tiles (take (i + 1) (places sizes buffer)) ≡ joined_tiles
    (take i (places sizes buffer)) ++ octets (take (get_or sizes i 0) (drop (10 * i) buffer))
tile-joins i sizes buffer h =
    let e : i + 1 ≡ suc i = omega arith in
    rw e (joined-more i (places sizes buffer) (rw length-places h)
    ∙ ap (λ bits. joined_tiles (take i (places sizes buffer)) ++ bits)
    (piece-at i (10 * i) sizes buffer refl h))
