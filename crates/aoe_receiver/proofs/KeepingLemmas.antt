-- What the store stands for when it is new, and after a tile is kept.
use Rattle.std.proofs.Common.{◌≡◌, ℕ, zero, suc, ◌+◌, ◌-◌, ◌*◌, ◌/◌, ◌%◌, ◌^◌, ◌<◌, ◌≤◌, ◌==◌, Bool}
use Rattle.std.proofs.Common.{true, false, not, List, [], ◌∷◌, ◌++◌, take, drop, set, get_or}
use Rattle.std.proofs.Common.{length, replicate, refl, sym, ap, ◌∙◌, arith}
use Rattle.std.proofs.lemmas.Bool.{ne_eqb}
use Rattle.std.proofs.lemmas.Nat.{one_shl}
use Rattle.std.proofs.lemmas.List.{get_or_read, length-set, length-replicate, take_at}
use Rattle.schc_bits.specs.Bits.{bits_value, octets}
use Rattle.tiles_bitmap.specs.Places.{keep, held_bits, bitmap}
use Rattle.aoe_receiver.specs.State.{no_tiles}
use Rattle.aoe_receiver.specs.Store.{IsStore, empty_store, overwritten, places, is_sized, sized}
use Rattle.aoe_receiver.proofs.StoreLemmas.{drop-behind, taken-overwritten, length-overwritten}
use Rattle.aoe_receiver.proofs.StoreLemmas.{held-sized, length-sized, places-none, sized-none}
use Rattle.aoe_receiver.proofs.StoreLemmas.{sized-at, sized-set, places-put, places-behind}
use Rattle.aoe_receiver.proofs.StoreLemmas.{small-set, small-none}
use Rattle.aoe_receiver.proofs.MarksLemmas.{length-bitmap, bitmap-at, marked-set, mark-room}
use Rattle.aoe_receiver.proofs.MarksLemmas.{marks-none}

-- a part of a list is replaced by as many others
pub pasted : (at len k : ℕ) (bytes new old buffer : List ℕ) → old ≡ buffer → new ≡ bytes
    → len ≡ length buffer → k ≡ length bytes → at + length bytes ≤ length buffer →
    take len
    ((take at old ++ (new ++ drop k (drop at old))) ++ drop
    (length (take at old ++ (new ++ drop k (drop at old)))) buffer) ≡ overwritten at bytes
    buffer
unfolding overwritten
pasted at len k bytes new old buffer same written all count within =
    rw (same, written, count)
    (take_at (overwritten at bytes buffer) (drop (length (overwritten at bytes buffer)) buffer) len
    (length-overwritten at bytes buffer within ∙ sym all))

-- a store in which all sizes are 0
pub store-none : (buffer sizes marks : List ℕ) → length buffer ≡ 2530 → sizes ≡ replicate 252 0
    → marks ≡ replicate 4 0 → IsStore buffer sizes marks 0
store-none buffer sizes marks all free clear =
    rw (free, clear)
    record {
      all_bytes = all;
      all_places = length-replicate {A = ℕ} 252 0;
      all_windows = refl;
      small = small-none 252;
      last_small = omega arith;
      marked = λ w h. rw (sized-none 252) (marks-none w h);
    }

-- where all sizes are 0 and the All-1's tile has no bytes, the store stands for no tile
pub view-none : (buffer sizes : List ℕ) → sizes ≡ replicate 252 0
    → record {
      tiles = places sizes buffer;
      last =
          octets (take 0 (drop 2520 buffer));
    } ≡ empty_store
unfolding empty_store no_tiles
view-none buffer sizes free = rw (free, places-none 252 buffer) refl

-- whether a size is that of a place that holds a tile
pub sized-test : (n : ℕ) → not (n == 0) ≡ is_sized n
unfolding is_sized
sized-test zero = refl
sized-test (suc n) = ap not (ne_eqb (suc n) 0 (λ e. omega arith))

-- a place that is found to hold a tile has a size that isn't 0
pub sized-true : (n : ℕ) (b : Bool) → b ≡ is_sized n → b ≡ true → n ≡ 0 → ⊥
unfolding is_sized
sized-true zero b e t none = let f : b ≡ false = e in absurd cc
sized-true (suc n) b e t none = omega arith

-- a place that is found to hold no tile has a size of 0
pub sized-false : (n : ℕ) (b : Bool) → b ≡ is_sized n → b ≡ false → n ≡ 0
unfolding is_sized
sized-false zero b e f = refl
sized-false (suc n) b e f = let t : b ≡ true = e in absurd cc

-- a place with a size holds a tile, one without a size doesn't
pub held-place : (sizes buffer : List ℕ) (place n : ℕ) → place < length sizes
    → n ≡ get_or sizes place n → (n ≡ 0 → ⊥)
    → get_or (held_bits (places sizes buffer)) place false ≡ true
unfolding is_sized
held-place sizes buffer place n h e some =
    rw (held-sized sizes buffer, sized-at sizes place, sym (get_or_read sizes place n h e 0))
    (sized-some n some)
  where
    sized-some : (n : ℕ) → (n ≡ 0 → ⊥) → is_sized n ≡ true
    sized-some zero some = absurd (some refl)
    sized-some (suc n) some = refl

pub free-place : (sizes : List ℕ) (place n : ℕ) → place < length sizes → n ≡ get_or sizes place n
    → n ≡ 0 → get_or (sized sizes) place false ≡ false
unfolding is_sized
free-place sizes place n h e none =
    rw (sized-at sizes place, sym (get_or_read sizes place n h e 0), none) refl

-- a place with a size of 0 isn't one of those that hold a tile
pub open-place : (sizes buffer : List ℕ) (place n : ℕ) → place < length sizes
    → n ≡ get_or sizes place n → n ≡ 0
    → get_or (held_bits (places sizes buffer)) place false ≡ false
open-place sizes buffer place n h e none =
    rw (held-sized sizes buffer) (free-place sizes place n h e none)

-- the store after a tile is written
pub record Puts (sizes buffer tile : List ℕ) (place : ℕ) (size : ℕ) : Type 0 where
  pub there : place < 252
  pub read : size ≡ get_or sizes place size
  pub free : size ≡ 0
  pub some : 1 ≤ length tile
  pub most : length tile ≤ 10

-- a window's number stays below 2^63 where the bit of a tile at a free place is added
pub room-put : (buffer sizes marks tile : List ℕ) (last place size : ℕ)
    → IsStore buffer sizes marks last → Puts sizes buffer tile place size →
    get_or marks (place / 63) 0 + 1 * 2 ^ (62 - place % 63) % 2 ^ 64 < 2 ^ 63
room-put buffer sizes marks tile last place size s p =
    let there = p.there in
    let all = s.all_places in
    let at : place / 63 * 63 + place % 63 ≡ place = omega arith in
    let count : length (bitmap 63 (place / 63) (sized sizes)) ≡ 63 =
    length-bitmap (place / 63) (sized sizes) (omega (arith, length-sized sizes)) in
    let bit : get_or (bitmap 63 (place / 63) (sized sizes)) (place % 63) false ≡ false =
    bitmap-at (place / 63) (place % 63) (sized sizes) (omega arith)
    ∙ ap (λ i. get_or (sized sizes) i false) at
    ∙ free-place sizes place size (omega arith) p.read p.free in
    rw (one_shl (62 - place % 63) 64 (omega arith))
    (mark-room (get_or marks (place / 63) 0) (bitmap 63 (place / 63) (sized sizes)) (place % 63)
    (s.marked (place / 63) (omega arith)) count (omega arith) bit)

-- after a tile is written at a free place, with its size and its bit in its window's number, the
-- buffer still stands for places
pub store-put : (buffer sizes marks tile after : List ℕ) (last place size : ℕ)
    → IsStore buffer sizes marks last → Puts sizes buffer tile place size
    → after ≡ overwritten (10 * place) tile buffer →
    IsStore after (set sizes place (length tile))
    (set marks (place / 63) (get_or marks (place / 63) 0 + 1 * 2 ^ (62 - place % 63) % 2 ^ 64))
    last
store-put buffer sizes marks tile after last place size s p e =
    let there = p.there in
    let most = p.most in
    let all = s.all_places in
    let bytes = s.all_bytes in
    let marked =
    marked-set marks (sized sizes) place s.all_windows (length-sized sizes ∙ all) there
    (free-place sizes place size (omega arith) p.read p.free) s.marked in
    rw (one_shl (62 - place % 63) 64 (omega arith))
    record {
      all_bytes = rw (e, length-overwritten (10 * place) tile buffer (omega arith)) bytes;
      all_places = length-set sizes place (length tile) ∙ all;
      all_windows = length-set marks (place / 63) _ ∙ s.all_windows;
      small = small-set sizes place (length tile) most s.small;
      last_small = s.last_small;
      marked = λ w h. marked w h
          ∙ ap (λ bits. bits_value (bitmap 63 w bits))
          (sym (sized-put sizes place (length tile) p.some));
    }
  where
    sized-put : (sizes : List ℕ) (place size : ℕ) → 1 ≤ size
        → sized (set sizes place size) ≡ set (sized sizes) place true
    sized-put sizes place zero some = absurd (omega arith)
    sized-put sizes place (suc more) some = sized-set sizes place more

-- with bytes and size of a tile written at a free place, the places are as before with it kept
pub tiles-put : (buffer sizes marks tile after : List ℕ) (last place size : ℕ)
    → IsStore buffer sizes marks last → Puts sizes buffer tile place size
    → after ≡ overwritten (10 * place) tile buffer →
    places (set sizes place (length tile)) after ≡ keep place (octets tile ∷ [])
    (places sizes buffer)
tiles-put buffer sizes marks tile after last place size s p e =
    let there = p.there in
    let all = s.all_places in
    let bytes = s.all_bytes in
    rw e
    (places-put place (10 * place) sizes buffer tile refl (omega arith) (omega arith) s.small
    (sym (get_or_read sizes place size (omega arith) p.read 0) ∙ p.free) p.some p.most)

-- a tile that is written at its place leaves the All-1's tile as it was
pub last-put : (buffer sizes marks tile after : List ℕ) (last place size : ℕ)
    → IsStore buffer sizes marks last → Puts sizes buffer tile place size
    → after ≡ overwritten (10 * place) tile buffer →
    octets (take last (drop 2520 after)) ≡ octets (take last (drop 2520 buffer))
last-put buffer sizes marks tile after last place size s p e =
    let there = p.there in
    let most = p.most in
    let bytes = s.all_bytes in
    rw e (ap (λ bs. octets (take last bs))
    (drop-behind 2520 (10 * place) tile buffer (omega arith) (omega arith)))

-- the store after the tile of an All-1 is written
pub store-last : (buffer sizes marks tile after : List ℕ) (last : ℕ)
    → IsStore buffer sizes marks last → length tile ≤ 10 → after ≡ overwritten 2520 tile buffer
    → IsStore after sizes marks (length tile)
store-last buffer sizes marks tile after last s most e =
    let bytes = s.all_bytes in
    record {
      all_bytes = rw (e, length-overwritten 2520 tile buffer (omega arith)) bytes;
      all_places = s.all_places;
      all_windows = s.all_windows;
      small = s.small;
      last_small = most;
      marked = s.marked;
    }

-- the All-1's tile, written behind the places, changes none of their tiles
pub tiles-last : (buffer sizes marks tile after : List ℕ) (last : ℕ)
    → IsStore buffer sizes marks last → after ≡ overwritten 2520 tile buffer
    → places sizes after ≡ places sizes buffer
tiles-last buffer sizes marks tile after last s e =
    let bytes = s.all_bytes in
    let all = s.all_places in
    rw e (places-behind 2520 sizes buffer tile (omega arith) (omega arith) s.small)

-- the bytes that are written behind the places are read there as the All-1's tile
pub last-last : (buffer sizes marks tile after : List ℕ) (last : ℕ)
    → IsStore buffer sizes marks last → after ≡ overwritten 2520 tile buffer
    → octets (take (length tile) (drop 2520 after)) ≡ octets tile
last-last buffer sizes marks tile after last s e =
    let bytes = s.all_bytes in
    rw e (ap octets (taken-overwritten 2520 tile buffer (omega arith)))
