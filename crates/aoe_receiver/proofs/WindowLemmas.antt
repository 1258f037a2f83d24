-- What the marks of a store say of its windows, where its tiles stand, and one turn of keeping
-- tiles.
use Rattle.std.proofs.Common.{◌≡◌, ℕ, suc, ◌+◌, ◌-◌, ◌*◌, ◌/◌, ◌^◌, ◌<◌, ◌≤◌, ◌==◌, min, Bool, true}
use Rattle.std.proofs.Common.{false, not, ◌&&◌, ◌||◌, List, [], ◌∷◌, ◌++◌, take, drop, get_or}
use Rattle.std.proofs.Common.{length, Option, refl, sym, ap, subst, ◌∙◌, arith, bit_and}
use Rattle.std.specs.List.{AllByRecursion}
use Rattle.std.proofs.lemmas.List.{get_or_read, drop_more, take_all, take_min, drop_min}
use Rattle.std.proofs.lemmas.List.{length-take, length-drop}
use Rattle.schc_bits.specs.Bits.{bits_value, octets}
use Rattle.schc_bits.proofs.NumberBits.{bits_value-below}
use Rattle.schc_bits.proofs.Octets.{length-octets, take-octets, drop-octets}
use Rattle.rcs.specs.Words.{Sum, Sums}
use Rattle.tiles_bitmap.specs.Places.{keep, held_bits, joined_tiles, all_true, no_gap, bitmap}
use Rattle.tiles_bitmap.proofs.PlacesLemmas.{length-held_bits}
use Rattle.aoe_receiver.specs.State.{parts_of_ten, payload_tiles}
use Rattle.aoe_receiver.specs.Steps.{all_held}
use Rattle.aoe_receiver.specs.Store.{IsStore, places, sized}
use Rattle.aoe_receiver.proofs.StoreLemmas.{held-sized, length-sized, keep-nothing, keep-first}
use Rattle.aoe_receiver.proofs.StoreLemmas.{keep-behind, small-at, tile-joins}
use Rattle.aoe_receiver.proofs.MarksLemmas.{full-test, gap-test, length-bitmap}

-- the bitmap of each of a store's four windows has 63 bits
pub count-bitmap : (buffer sizes marks : List ℕ) (last w : ℕ) → IsStore buffer sizes marks last
    → w < 4 → length (bitmap 63 w (held_bits (places sizes buffer))) ≡ 63
count-bitmap buffer sizes marks last w s h =
    let all = s.all_places in
    rw (held-sized sizes buffer) (length-bitmap w (sized sizes) (omega (arith, length-sized sizes)))

-- a window's number in a store is the value of its bitmap
pub mark-is : (buffer sizes marks : List ℕ) (last n w : ℕ) → IsStore buffer sizes marks last → n ≡ w
    → w < 4 → get_or marks n 0 ≡ bits_value (bitmap 63 w (held_bits (places sizes buffer)))
mark-is buffer sizes marks last n w s e h = rw (e, held-sized sizes buffer) (s.marked w h)

-- a window's number in a store is below 2^63
pub mark-below : (buffer sizes marks : List ℕ) (last n w : ℕ) → IsStore buffer sizes marks last
    → n ≡ w → w < 4 → get_or marks n 0 < 2 ^ 63
mark-below buffer sizes marks last n w s e h =
    let bits = bitmap 63 w (held_bits (places sizes buffer)) in
    rw (mark-is buffer sizes marks last n w s e h)
    (subst (λ (n : ℕ). bits_value bits < 2 ^ n) (count-bitmap buffer sizes marks last w s h)
    (bits_value-below bits))

-- a window's number is the greatest of 63 bits exactly where each of its tiles is held
pub full-mark : (bits : List Bool) (mark : ℕ) → mark ≡ bits_value bits → length bits ≡ 63
    → (mark == 2 ^ 63 - 1) ≡ all_true bits
full-mark bits mark e count =
    rw e (subst (λ (n : ℕ). (bits_value bits == 2 ^ n - 1) ≡ all_true bits) count (full-test bits))

-- in a window no tile is held behind one that isn't exactly where what its number lacks to the
-- greatest has no bit in common with one more than it
pub gap-mark : (bits : List Bool) (mark : ℕ) → mark ≡ bits_value bits → length bits ≡ 63
    → (bit_and (2 ^ 63 - 1 - mark) (2 ^ 63 - 1 - mark + 1) == 0) ≡ no_gap bits
gap-mark bits mark e count =
    rw e (subst
    (λ (n : ℕ).
    (bit_and (2 ^ n - 1 - bits_value bits) (2 ^ n - 1 - bits_value bits + 1) == 0) ≡ no_gap
    bits) count (gap-test bits))

-- where a tile stands
pub tile-at : (sizes buffer bytes : List ℕ) (place size read : ℕ) → bytes ≡ buffer → size ≡ read
    → read ≡ get_or sizes place read → place < length sizes →
    joined_tiles (take (place + 1) (places sizes buffer)) ≡ joined_tiles
    (take place (places sizes buffer)) ++ octets
    (take (10 * place + size - 10 * place) (drop (10 * place) bytes))
tile-at sizes buffer bytes place size read same e at h =
    let count : 10 * place + size - 10 * place ≡ get_or sizes place 0 =
    omega (arith, e, get_or_read sizes place read h at 0) in
    rw (same, count) (tile-joins place sizes buffer h)

-- the bytes that are read as the tile at a place are at most ten
pub tile-small : (sizes bytes : List ℕ) (place size read : ℕ) → size ≡ read
    → read ≡ get_or sizes place read → place < length sizes → AllByRecursion (λ s. s ≤ 10) sizes →
    length (take (10 * place + size - 10 * place) (drop (10 * place) bytes)) ≤ 10
tile-small sizes bytes place size read e at h small =
    omega (
      arith,
      e,
      get_or_read sizes place read h at 0,
      small-at sizes place small,
      length-take
          (10 * place + size - 10 * place) (drop (10 * place) bytes),
    )

-- a register to which the bits of bytes are added
pub sums-next : (old next : Sum) (bits more : List Bool) (bytes : List ℕ)
    → ((front : List Bool) → Sums old front
    → Sums next (front ++ take (8 * length bytes - 0) (drop 0 (octets bytes)))) →
    Sums old bits → more ≡ bits ++ octets bytes → Sums next more
sums-next old next bits more bytes adds sums e =
    let whole : take (8 * length bytes - 0) (octets bytes) ≡ octets bytes =
    take_all (8 * length bytes - 0) (octets bytes) (omega (arith, length-octets bytes)) in
    subst (Sums next) (ap (λ bs. bits ++ bs) whole ∙ sym e) (adds bits sums)

-- the tiles of a payload, one by one
pub tiles-none : payload_tiles (octets []) ≡ []
unfolding payload_tiles parts_of_ten
tiles-none = refl

pub tiles-more : (bytes : List ℕ) → 1 ≤ length bytes
    → payload_tiles (octets bytes) ≡ octets (take 10 bytes) ∷ payload_tiles (octets (drop 10 bytes))
unfolding payload_tiles parts_of_ten
tiles-more bytes some =
    let count : (length (octets bytes) + 79) / 80 ≡ suc
    ((length (octets (drop 10 bytes)) + 79) / 80) =
    omega (arith, length-octets bytes, length-octets (drop 10 bytes), length-drop 10 bytes) in
    rw (count, take-octets 10 bytes, drop-octets 10 bytes) refl

-- one place more is held
all_held-more : (at n : ℕ) (ps : List (Option (List Bool))) → at < length ps
    → all_held at (suc n)
    ps ≡ (get_or (held_bits ps) at false && all_true (take n (drop (at + 1) (held_bits ps))))
unfolding all_held all_true
all_held-more at n ps h =
    rw (drop_more (held_bits ps) at false (rw length-held_bits h))
    (all_true-first (get_or (held_bits ps) at false) (take n (drop (at + 1) (held_bits ps))))
  where
    all_true-first : (b : Bool) (bits : List Bool) → all_true (b ∷ bits) ≡ (b && all_true bits)
    all_true-first true bits = refl
    all_true-first false bits = refl

pub record KeepTurn (at : ℕ) (rest : List ℕ) (old : List (Option (List Bool))) (is_new : Bool)
    (later : List ℕ) (next : List (Option (List Bool))) (kept : Bool) : Type 0 where
  pub tiles : keep (at + 1) (payload_tiles (octets later)) next ≡ keep at
      (payload_tiles (octets rest)) old
  pub fresh : (not (is_new || kept) && all_held (at + 1) (length (payload_tiles (octets later)))
      next) ≡ (not is_new && all_held at (length (payload_tiles (octets rest))) old)

fresh-turn : (is_new held others : Bool)
    → (not (is_new || not held) && others) ≡ (not is_new && (held && others))
fresh-turn true held others = refl
fresh-turn false true others = refl
fresh-turn false false others = refl

fresh-behind : (at n : ℕ) (old next : List (Option (List Bool))) (is_new : Bool)
    → drop (at + 1) (held_bits next) ≡ drop (at + 1) (held_bits old) →
    (not (is_new || not (get_or (held_bits old) at false)) && all_held (at + 1) n next) ≡ (not
    is_new && (get_or (held_bits old) at false && all_true
    (take n (drop (at + 1) (held_bits old)))))
unfolding all_held
fresh-behind at n old next is_new e =
    rw e (fresh-turn is_new (get_or (held_bits old) at false)
    (all_true (take n (drop (at + 1) (held_bits old)))))

-- a turn puts the next tile at its place: what the tiles that are left then make of the places, and
-- whether all tiles were held already, stay what they were before it
pub keep-turn : (at : ℕ) (rest tile later : List ℕ) (old next : List (Option (List Bool)))
    (is_new kept : Bool) → 1 ≤ length rest → tile ≡ take (min 10 (length rest)) rest
    → later ≡ drop (min 10 (length rest)) rest →
    length old ≡ 252 → at < 252 → next ≡ keep at (octets tile ∷ []) old
    → kept ≡ not (get_or (held_bits old) at false) → KeepTurn at rest old is_new later next kept
keep-turn at rest tile later old next is_new kept some front back all there after is =
    let one : at + 1 ≡ suc at = omega arith in
    let first : tile ≡ take 10 rest = front ∙ take_min 10 rest in
    let others : later ≡ drop 10 rest = back ∙ drop_min 10 rest in
    let tiles : payload_tiles (octets rest) ≡ octets tile ∷ payload_tiles (octets later) =
    tiles-more rest some
    ∙ ap (λ bytes. octets bytes ∷ payload_tiles (octets (drop 10 rest))) (sym first)
    ∙ ap (λ bytes. octets tile ∷ payload_tiles (octets bytes)) (sym others) in
    let behind : drop (at + 1) (held_bits next) ≡ drop (at + 1) (held_bits old) =
    rw (after, one) (keep-behind at (octets tile) old) in
    record {
      tiles = rw (tiles, one, after)
          (sym (keep-first at (octets tile) (payload_tiles (octets later)) old));
      fresh = rw (
        tiles,
        is,
        all_held-more at (length (payload_tiles (octets later))) old
            (omega arith),
      )
          (fresh-behind at (length (payload_tiles (octets later))) old next is_new behind);
    }

-- no tiles are left
pub keep-done : (at : ℕ) (rest : List ℕ) (ps : List (Option (List Bool))) → length rest ≡ 0
    → keep at (payload_tiles (octets rest)) ps ≡ ps
keep-done at [] ps e = rw tiles-none (keep-nothing at ps)
keep-done at (byte ∷ rest) ps e = absurd (omega arith)

-- with no tiles left, some tile is new exactly where not all places were held at first
pub fresh-done : (at : ℕ) (rest : List ℕ) (ps : List (Option (List Bool))) (is_new held : Bool)
    → length rest ≡ 0 → (not is_new && all_held at (length (payload_tiles (octets rest))) ps) ≡ held
    → is_new ≡ not held
unfolding all_held all_true
fresh-done at (byte ∷ rest) ps is_new held e h = absurd (omega arith)
fresh-done at [] ps is_new held e h = fresh-none is_new held (rw tiles-none at h)
  where
    fresh-none : (is_new held : Bool) → (not is_new && true) ≡ held → is_new ≡ not held
    fresh-none true true h = absurd cc
    fresh-none true false h = refl
    fresh-none false true h = refl
    fresh-none false false h = absurd cc
