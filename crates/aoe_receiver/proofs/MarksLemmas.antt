-- A number a window, of which each bit says that a tile is held.
use Rattle.std.proofs.Common.{◌≡◌, ◌⊎◌, inl, inr, ℕ, zero, suc, ◌+◌, ◌-◌, ◌*◌, ◌/◌, ◌%◌, ◌^◌, ◌<◌}
use Rattle.std.proofs.Common.{◌≤◌, ◌==◌, ◌≢◌, Bool, true, false, ◌&&◌, List, [], ◌∷◌, ◌++◌, take}
use Rattle.std.proofs.Common.{drop, set, get_or, length, replicate, if◌then◌else◌, refl, sym, ap}
use Rattle.std.proofs.Common.{subst, ◌∙◌, arith, bit_and, bit_or}
use Rattle.std.proofs.Math.Nat.{pow-suc}
use Rattle.std.proofs.lemmas.Bool.{eq-eqb, ne_eqb, cases_Bool, cases_order, cases_eq}
use Rattle.std.proofs.lemmas.Nat.{pow_pos, and_block, and_mask, and_comm, mod_low, or_block}
use Rattle.std.specs.Int.Bits.{or_zero_r}
use Rattle.std.proofs.lemmas.List.{length-set, length-take, length-drop, take-set-le, drop-set-lt}
use Rattle.std.proofs.lemmas.List.{drop-set-add, drop-drop, get_or-set_same, get_or-set_other}
use Rattle.std.proofs.lemmas.List.{get_or-take, get_or-drop, drop-replicate, take-replicate}
use Rattle.schc_bits.specs.Bits.{bits_value}
use Rattle.schc_bits.proofs.NumberBits.{bits_value-below, bits_value-replicate_false}
use Rattle.tiles_bitmap.specs.Places.{all_true, none_true, no_gap, open_window, bitmap, with_last}
use Rattle.tiles_bitmap.proofs.WindowsLemmas.{length-with_last}
use Rattle.aoe_receiver.specs.Steps.{is_whole}

-- a bit that is set adds its power of two
pub bits_value-set : (bits : List Bool) (i : ℕ) → i < length bits → get_or bits i false ≡ false
    → bits_value (set bits i true) ≡ bits_value bits + 2 ^ (length bits - 1 - i)
bits_value-set [] i h e = absurd (omega arith)
bits_value-set (true ∷ bits) zero h e = absurd cc
bits_value-set (false ∷ bits) zero h e = let n : suc (length bits) - 1 - 0 ≡ length bits =
    omega arith in rw n (omega arith)
bits_value-set (bit ∷ bits) (suc i) h e =
    let n : suc (length bits) - 1 - suc i ≡ length bits - 1 - i = omega arith in
    rw (n, length-set bits i true, bits_value-set bits i (omega arith) e) (omega arith)

-- the bits are all 1 where the number is the greatest
full-is : (bits : List Bool) → all_true bits ≡ true → bits_value bits + 1 ≡ 2 ^ length bits
unfolding all_true
full-is [] e = omega arith
full-is (true ∷ bits) e = rw pow-suc (omega (arith, full-is bits e))
full-is (false ∷ bits) e = absurd cc

open-is : (bits : List Bool) → all_true bits ≡ false → bits_value bits + 1 < 2 ^ length bits
unfolding all_true
open-is [] e = absurd cc
open-is (true ∷ bits) e = rw pow-suc (omega (arith, open-is bits e))
open-is (false ∷ bits) e = rw pow-suc (omega (arith, bits_value-below bits, pow_pos (length bits)))

-- a bitmap's number is the greatest of so many bits exactly where each bit is 1
pub full-test : (bits : List Bool) → (bits_value bits == 2 ^ length bits - 1) ≡ all_true bits
full-test bits = full-case (cases_Bool (all_true bits))
  where
    full-case : (all_true bits ≡ true) ⊎ (all_true bits ≡ false)
        → (bits_value bits == 2 ^ length bits - 1) ≡ all_true bits
    full-case (inl e) = eq-eqb _ _ (omega (arith, full-is bits e)) ∙ sym e
    full-case (inr e) = ne_eqb _ _ (λ h. omega (arith, open-is bits e)) ∙ sym e

-- no bit is 1 where the number is 0
none-is : (bits : List Bool) → none_true bits ≡ true → bits_value bits ≡ 0
unfolding none_true
none-is [] e = refl
none-is (false ∷ bits) e = omega (arith, none-is bits e)
none-is (true ∷ bits) e = absurd cc

some-is : (bits : List Bool) → none_true bits ≡ false → 0 < bits_value bits
unfolding none_true
some-is [] e = absurd cc
some-is (false ∷ bits) e = omega (arith, some-is bits e)
some-is (true ∷ bits) e = omega (arith, pow_pos (length bits))

-- what the bits lack, with 1 added, has no bit in common with it where no bit is 1 behind one that
-- is 0
lack-none : (n : ℕ) → (bit_and (2 ^ n - 1) (2 ^ n - 1 + 1) == 0) ≡ true
lack-none n =
    let whole : 2 ^ n - 1 + 1 ≡ 2 ^ n = omega (arith, pow_pos n) in
    let one : 2 ^ n ≡ 1 * 2 ^ n + 0 = omega arith in
    let none : 2 ^ n % 2 ^ n ≡ 0 = ap (λ m. m % 2 ^ n) one ∙ mod_low 1 n 0 (pow_pos n) in
    eq-eqb _ _ (rw whole (and_comm (2 ^ n - 1) (2 ^ n) ∙ and_mask (2 ^ n) n ∙ none))

lack-some : (n m : ℕ) → m + 1 < 2 ^ n → (bit_and (2 ^ n + m) (2 ^ n + m + 1) == 0) ≡ false
lack-some n m h =
    let a : 2 ^ n + m ≡ 1 * 2 ^ n + m = omega arith in
    let b : 2 ^ n + m + 1 ≡ 1 * 2 ^ n + (m + 1) = omega arith in
    let both : bit_and (1 * 2 ^ n + m) (1 * 2 ^ n + (m + 1)) ≡ bit_and 1 1 * 2 ^ n + bit_and m
    (m + 1) = and_block n 1 1 m (m + 1) (omega arith) h in
    ne_eqb _ _
    (λ e. let c : bit_and 1 1 * 2 ^ n + bit_and m (m + 1) ≡ 0 = sym both
    ∙ ap (λ x. bit_and x (1 * 2 ^ n + (m + 1))) (sym a)
    ∙ ap (λ x. bit_and (2 ^ n + m) x) (sym b) ∙ e in omega (arith, pow_pos n))

-- no 1 stands behind a 0 exactly where what the number lacks to the greatest has no bit in common
-- with one more than it
pub gap-test : (bits : List Bool)
    → (bit_and (2 ^ length bits - 1 - bits_value bits)
    (2 ^ length bits - 1 - bits_value bits + 1) == 0) ≡ no_gap bits
unfolding no_gap
gap-test [] = refl
gap-test (true ∷ bits) =
    let lack : 2 ^ suc (length bits) - 1 - (2 ^ length bits + bits_value bits) ≡ 2 ^ length
    bits - 1 - bits_value bits = rw pow-suc (omega arith) in
    rw lack (gap-test bits)
gap-test (false ∷ bits) = gap-case (cases_Bool (none_true bits))
  where
    gap-case : (none_true bits ≡ true) ⊎ (none_true bits ≡ false)
        → (bit_and (2 ^ suc (length bits) - 1 - (0 + bits_value bits))
        (2 ^ suc (length bits) - 1 - (0 + bits_value bits) + 1) == 0) ≡ none_true bits
    gap-case (inl e) =
        let lack : 2 ^ suc (length bits) - 1 - (0 + bits_value bits) ≡ 2 ^ suc (length bits) - 1 =
        omega (arith, none-is bits e) in
        rw lack (lack-none (suc (length bits)) ∙ sym e)
    gap-case (inr e) =
        let lack : 2 ^ suc (length bits) - 1 - (0 + bits_value bits) ≡ 2 ^ length
        bits + (2 ^ length bits - 1 - bits_value bits) =
        rw pow-suc (omega (arith, bits_value-below bits)) in
        rw lack (lack-some (length bits) (2 ^ length bits - 1 - bits_value bits)
        (omega (arith, some-is bits e, bits_value-below bits)) ∙ sym e)

-- a bit that is set is a bit of one window
pub take-set : {A : Type 0} (n : ℕ) (xs : List A) (i : ℕ) (x : A)
    → take n (set xs i x) ≡ set (take n xs) i x
take-set zero xs i x = refl
take-set (suc n) [] i x = refl
take-set (suc n) (y ∷ xs) zero x = refl
take-set (suc n) (y ∷ xs) (suc i) x = ap (λ ys. y ∷ ys) (take-set n xs i x)

pub bitmap-set_same : (w j place : ℕ) (bits : List Bool) → place ≡ w * 63 + j
    → bitmap 63 w (set bits place true) ≡ set (bitmap 63 w bits) j true
unfolding bitmap
bitmap-set_same w j place bits e =
    rw e (ap (λ bs. take 63 bs) (drop-set-add (w * 63) bits j true)
    ∙ take-set 63 (drop (w * 63) bits) j true)

pub bitmap-set_above : (w place : ℕ) (bits : List Bool) → w * 63 + 63 ≤ place
    → bitmap 63 w (set bits place true) ≡ bitmap 63 w bits
unfolding bitmap
bitmap-set_above w place bits h =
    let e : place ≡ w * 63 + (place - w * 63) = omega arith in
    rw e (ap (λ bs. take 63 bs) (drop-set-add (w * 63) bits (place - w * 63) true)
    ∙ take-set-le 63 (drop (w * 63) bits) (place - w * 63) true (omega arith))

pub bitmap-set_below : (w place : ℕ) (bits : List Bool) → place < w * 63
    → bitmap 63 w (set bits place true) ≡ bitmap 63 w bits
unfolding bitmap
bitmap-set_below w place bits h = ap (λ bs. take 63 bs) (drop-set-lt (w * 63) bits place true h)

-- a window that lies within the bits has a bitmap of 63
pub length-bitmap : (w : ℕ) (bits : List Bool) → w * 63 + 63 ≤ length bits
    → length (bitmap 63 w bits) ≡ 63
unfolding bitmap
length-bitmap w bits h =
    omega (arith, length-take 63 (drop (w * 63) bits), length-drop (w * 63) bits)

-- a bit of a window's bitmap is the bit of the same tile among those of all windows
pub bitmap-at : (w j : ℕ) (bits : List Bool) → j < 63
    → get_or (bitmap 63 w bits) j false ≡ get_or bits (w * 63 + j) false
unfolding bitmap
bitmap-at w j bits h = get_or-take 63 (drop (w * 63) bits) j false h
    ∙ get_or-drop (w * 63) bits j false

-- the marks after a bit was set
pub marked-set : (marks : List ℕ) (bits : List Bool) (place : ℕ) → length marks ≡ 4
    → length bits ≡ 252 → place < 252 → get_or bits place false ≡ false →
    ((w : ℕ) → w < 4 → get_or marks w 0 ≡ bits_value (bitmap 63 w bits)) → (w : ℕ) → w < 4 →
    get_or (set marks (place / 63) (get_or marks (place / 63) 0 + 2 ^ (62 - place % 63))) w
    0 ≡ bits_value (bitmap 63 w (set bits place true))
marked-set marks bits place four all low free marked w h = marked-case (cases_order w (place / 63))
  where
    marked-case : (w ≡ place / 63) ⊎ ((w < place / 63) ⊎ (place / 63 < w)) →
        get_or (set marks (place / 63) (get_or marks (place / 63) 0 + 2 ^ (62 - place % 63))) w
        0 ≡ bits_value (bitmap 63 w (set bits place true))
    marked-case (inl e) =
        let at : place ≡ w * 63 + place % 63 = omega arith in
        let count : length (bitmap 63 w bits) ≡ 63 = length-bitmap w bits (omega arith) in
        let bit : get_or (bitmap 63 w bits) (place % 63) false ≡ false =
        bitmap-at w (place % 63) bits (omega arith) ∙ ap (λ i. get_or bits i false) (sym at)
        ∙ free in
        let sum : bits_value (set (bitmap 63 w bits) (place % 63) true) ≡ bits_value
        (bitmap 63 w bits) + 2 ^ (length (bitmap 63 w bits) - 1 - place % 63) =
        bits_value-set (bitmap 63 w bits) (place % 63) (omega (arith, count)) bit in
        let power : length (bitmap 63 w bits) - 1 - place % 63 ≡ 62 - place % 63 =
        omega (arith, count) in
        rw (sym e)
        (get_or-set_same marks w (get_or marks w 0 + 2 ^ (62 - place % 63)) 0 (omega arith)
        ∙ ap (λ n. n + 2 ^ (62 - place % 63)) (marked w h)
        ∙ ap (λ n. bits_value (bitmap 63 w bits) + 2 ^ n) (sym power) ∙ sym sum
        ∙ ap bits_value (sym (bitmap-set_same w (place % 63) place bits at)))
    marked-case (inr (inl lower)) =
        let ne : w ≢ place / 63 = λ e. omega arith in
        get_or-set_other marks (place / 63) w _ 0 ne ∙ marked w h
        ∙ ap bits_value (sym (bitmap-set_above w place bits (omega arith)))
    marked-case (inr (inr higher)) =
        let ne : w ≢ place / 63 = λ e. omega arith in
        get_or-set_other marks (place / 63) w _ 0 ne ∙ marked w h
        ∙ ap bits_value (sym (bitmap-set_below w place bits (omega arith)))

-- a mark has room for a bit that isn't set
pub mark-room : (mark : ℕ) (bits : List Bool) (i : ℕ) → mark ≡ bits_value bits → length bits ≡ 63
    → i < 63 → get_or bits i false ≡ false → mark + 2 ^ (62 - i) < 2 ^ 63
mark-room mark bits i e count low free =
    let power : length bits - 1 - i ≡ 62 - i = omega (arith, count) in
    let sum : bits_value (set bits i true) ≡ bits_value bits + 2 ^ (length bits - 1 - i) =
    bits_value-set bits i (omega (arith, count)) free in
    let size : length (set bits i true) ≡ 63 = length-set bits i true ∙ count in
    let most : bits_value (set bits i true) < 2 ^ 63 =
    subst (λ n. bits_value (set bits i true) < 2 ^ n) size (bits_value-below (set bits i true))
    in
    let whole : bits_value (set bits i true) ≡ bits_value bits + 2 ^ (62 - i) = sum
    ∙ ap (λ n. bits_value bits + 2 ^ n) power in
    omega (arith, e, whole, most)

zeros-at : (n w : ℕ) → let zeros : List ℕ = replicate n 0 in get_or zeros w 0 ≡ zero
zeros-at zero w = refl
zeros-at (suc n) zero = refl
zeros-at (suc n) (suc w) = zeros-at n w

-- numbers that are all 0 stand for four windows of which no tile is held
pub marks-none : (w : ℕ) → w < 4 → let zeros : List ℕ = replicate 4 0 in
    get_or zeros w 0 ≡ bits_value (bitmap 63 w (replicate 252 false))
unfolding bitmap
marks-none w h =
    let front : take 63 (drop (w * 63) (replicate 252 false)) ≡ replicate 63 false =
    ap (λ bs. take 63 bs) (drop-replicate (w * 63) 252 false)
    ∙ take-replicate 63 (252 - w * 63) false (omega arith) in
    zeros-at 4 w ∙ sym (bits_value-replicate_false 63) ∙ ap bits_value (sym front)

-- the windows below one are full where it is the lowest that isn't full, or the last
all_true-append : (a b : List Bool) → all_true (a ++ b) ≡ (all_true a && all_true b)
unfolding all_true
all_true-append [] b = refl
all_true-append (true ∷ a) b = all_true-append a b
all_true-append (false ∷ a) b = refl

take-of_none : (n : ℕ) → take {A = Bool} n [] ≡ []
take-of_none zero = refl
take-of_none (suc n) = refl

take-more : (n m : ℕ) (xs : List Bool) → take (n + m) xs ≡ take n xs ++ take m (drop n xs)
take-more zero m xs = let e : 0 + m ≡ m = omega arith in rw e refl
take-more (suc n) m [] = take-of_none (suc n + m) ∙ sym (take-of_none m)
take-more (suc n) m (x ∷ xs) = let e : suc n + m ≡ suc (n + m) = omega arith in
    rw e (ap (λ ys. x ∷ ys) (take-more n m xs))

pub whole-open : (w : ℕ) (bits : List Bool)
    → all_true (take (63 * w) bits) ≡ (open_window 63 w bits == w)
unfolding open_window all_true
whole-open zero bits = refl
whole-open (suc w) bits =
    let e : 63 * suc w ≡ 63 + 63 * w = omega arith in
    rw (
      e,
      take-more 63 (63 * w) bits,
      all_true-append (take 63 bits)
          (take (63 * w) (drop 63 bits)),
    )
    (whole-case (all_true (take 63 bits)) (open_window 63 w (drop 63 bits)) w
    (whole-open w (drop 63 bits)))
  where
    whole-case : (b : Bool) (first w : ℕ) {c : Bool} → c ≡ (first == w)
        → (b && c) ≡ ((if b then suc first else zero) == suc w)
    whole-case true first w e = e ∙ suc-test (cases_eq first w)
      where
        suc-test : (first ≡ w) ⊎ (first ≡ w → ⊥) → (first == w) ≡ (suc first == suc w)
        suc-test (inl e) = eq-eqb first w e ∙ sym (eq-eqb (suc first) (suc w) (ap suc e))
        suc-test (inr ne) = ne_eqb first w ne
            ∙ sym (ne_eqb (suc first) (suc w) (λ e. ne (omega arith)))
    whole-case false first w e = sym (ne_eqb zero (suc w) (λ e. omega arith))

-- the search for the lowest open window goes on
pub open-next : (w last : ℕ) (bits : List Bool) → w < last → all_true (bitmap 63 w bits) ≡ true →
    w + open_window 63 (last - w) (drop (w * 63) bits) ≡ (w + 1) + open_window 63 (last - (w + 1))
    (drop ((w + 1) * 63) bits)
unfolding bitmap open_window
open-next w last bits h full =
    let more : last - w ≡ suc (last - (w + 1)) = omega arith in
    let at : w * 63 + 63 ≡ (w + 1) * 63 = omega arith in
    let behind : drop 63 (drop (w * 63) bits) ≡ drop ((w + 1) * 63) bits =
    drop-drop 63 (w * 63) bits ∙ ap (λ n. drop n bits) at in
    rw (more, full, behind) (omega arith)

-- a search for the lowest open window ends at one below the last that isn't full
pub open-here : (w last : ℕ) (bits : List Bool) → w < last → all_true (bitmap 63 w bits) ≡ false →
    w + open_window 63 (last - w) (drop (w * 63) bits) ≡ w
unfolding bitmap open_window
open-here w last bits h free =
    let more : last - w ≡ suc (last - (w + 1)) = omega arith in
    rw (more, free) (omega arith)

-- a search that has come to the last window finds that one
pub open-end : (w last : ℕ) (bits : List Bool) (found : ℕ) → last ≤ w → w ≤ last
    → w + open_window 63 (last - w) bits ≡ found → last ≡ found
unfolding open_window
open-end w last bits found low high e =
    let none : last - w ≡ 0 = omega arith in
    let at : w + open_window 63 0 bits ≡ found = ap (λ n. w + open_window 63 n bits) (sym none)
    ∙ e in
    omega (arith, at)

-- the test of windows below one, and of gaps in it
pub whole-then : (w : ℕ) (bits : List Bool) (found : ℕ) (gapless : Bool)
    → found ≡ open_window 63 w bits → found ≡ w → gapless ≡ no_gap (bitmap 63 w bits)
    → gapless ≡ is_whole w bits
unfolding is_whole
whole-then w bits found gapless e same gap =
    let full : all_true (take (63 * w) bits) ≡ true = whole-open w bits
    ∙ eq-eqb _ _ (sym e ∙ same) in
    rw full gap

-- where the lowest window that isn't full is below w, the windows up to w aren't whole
pub whole-else : (w : ℕ) (bits : List Bool) (found : ℕ) → found ≡ open_window 63 w bits
    → (found ≡ w → ⊥) → (found == w) ≡ is_whole w bits
unfolding is_whole
whole-else w bits found e other =
    let less : all_true (take (63 * w) bits) ≡ false = whole-open w bits
    ∙ ne_eqb _ _ (λ h. other (e ∙ h)) in
    rw less (ne_eqb _ _ other)

-- the rightmost bit is set
with_last-number : (b : Bool) (bits : List Bool)
    → bits_value (with_last (b ∷ bits)) ≡ bits_value (b ∷ bits) / 2 * 2 + 1
unfolding with_last
with_last-number true [] = refl
with_last-number false [] = refl
with_last-number true (c ∷ bits) =
    let even : 2 ^ suc (length bits) ≡ 2 * 2 ^ length bits =
    omega (arith, pow-suc 2 (length bits)) in
    let count : length (with_last (c ∷ bits)) ≡ suc (length bits) = length-with_last (c ∷ bits) in
    rw (count, even, with_last-number c bits) (omega arith)
with_last-number false (c ∷ bits) = rw (with_last-number c bits) (omega arith)

or-one : (n : ℕ) → bit_or n 1 ≡ n / 2 * 2 + 1
or-one n =
    let whole : n ≡ n / 2 * 2 ^ 1 + n % 2 = omega arith in
    let both : bit_or (n / 2 * 2 ^ 1 + n % 2) (0 * 2 ^ 1 + 1) ≡ bit_or (n / 2) 0 * 2 ^ 1 + bit_or
    (n % 2) 1 = or_block 1 (n / 2) 0 (n % 2) 1 (omega arith) (omega arith) in
    ap (λ m. bit_or m 1) whole ∙ both ∙ or-parts (n / 2) (n % 2) (omega arith)
  where
    or-parts : (a r : ℕ) → r < 2 → bit_or a 0 * 2 ^ 1 + bit_or r 1 ≡ a * 2 + 1
    or-parts a zero h = rw (or_zero_r a) (omega arith)
    or-parts a (suc zero) h = rw (or_zero_r a) (omega arith)
    or-parts a (suc (suc r)) h = absurd (omega arith)

-- a window's number with the lowest bit set is that of its bitmap with the rightmost bit set
pub with_last-or : (bits : List Bool) (mark : ℕ) → mark ≡ bits_value bits → length bits ≡ 63
    → bit_or mark 1 ≡ bits_value (with_last bits)
with_last-or [] mark e count = absurd (omega arith)
with_last-or (b ∷ bits) mark e count =
    rw e (or-one (bits_value (b ∷ bits)) ∙ sym (with_last-number b bits))
