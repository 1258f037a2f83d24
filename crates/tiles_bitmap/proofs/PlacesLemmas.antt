-- Places, bits and numbers.
use Rattle.std.proofs.Common.{◌≡◌, ℕ, zero, suc, ◌+◌, ◌<◌, ◌≤◌, Bool, true, false, List, [], ◌∷◌}
use Rattle.std.proofs.Common.{◌++◌, map, take, drop, length, get_or, replicate, Option, Some, None}
use Rattle.std.proofs.Common.{refl, sym, ap, subst, ◌∙◌, arith}
use Rattle.tiles_bitmap.specs.Laws.{joined}
use Rattle.tiles_bitmap.specs.Places.{or_kept, keep, held_bits, joined_tiles, all_true, none_true}
use Rattle.tiles_bitmap.specs.Places.{no_gap}

abbrev pub Holds : List (Option (List Bool)) → ℕ → Type 0
Holds places i = get_or (held_bits places) i false ≡ true

-- what is held are these tiles, each at its place
abbrev pub AreOf : List (List Bool) → List (Option (List Bool)) → Type 0
AreOf [] [] = Unit {0}
AreOf [] (None ∷ places) = AreOf [] places
AreOf [] (Some held ∷ places) = ⊥
AreOf (tile ∷ tiles) [] = ⊥
AreOf (tile ∷ tiles) (None ∷ places) = AreOf tiles places
AreOf (tile ∷ tiles) (Some held ∷ places) = (held ≡ tile) × AreOf tiles places

-- empty places hold nothing but these tiles, where there is a place for each
pub are_of-nothing : (tiles : List (List Bool)) (n : ℕ) → length tiles ≤ n
    → AreOf tiles (replicate n None)
are_of-nothing [] zero h = tt
are_of-nothing [] (suc n) h = are_of-nothing [] n (omega arith)
are_of-nothing (tile ∷ tiles) zero h = absurd (omega arith)
are_of-nothing (tile ∷ tiles) (suc n) h = are_of-nothing tiles n (omega arith)

keep-none : (k : ℕ) (places : List (Option (List Bool))) → keep k [] places ≡ places
unfolding keep
keep-none zero [] = refl
keep-none (suc k) [] = refl
keep-none zero (place ∷ places) = refl
keep-none (suc k) (place ∷ places) = ap (λ ps. place ∷ ps) (keep-none k places)

take-none : (c : ℕ) → take {A = List Bool} c [] ≡ []
take-none zero = refl
take-none (suc c) = refl

keep-front : (c : ℕ) (tiles : List (List Bool)) (places : List (Option (List Bool)))
    → AreOf tiles places → AreOf tiles (keep zero (take c tiles) places)
unfolding keep or_kept
keep-front zero tiles places k = subst (AreOf tiles) (sym (keep-none zero places)) k
keep-front (suc c) [] places k = subst (AreOf []) (sym (keep-none zero places)) k
keep-front (suc c) (tile ∷ tiles) [] k = k
keep-front (suc c) (tile ∷ tiles) (None ∷ places) k = (refl, keep-front c tiles places k)
keep-front (suc c) (tile ∷ tiles) (Some held ∷ places) k = (k.0, keep-front c tiles places k.1)

-- places that hold these tiles alone still do when a run of them came, each for its own place
pub keep-are_of : (k c : ℕ) (tiles : List (List Bool)) (places : List (Option (List Bool)))
    → AreOf tiles places → AreOf tiles (keep k (take c (drop k tiles)) places)
unfolding keep
keep-are_of zero c tiles places a = keep-front c tiles places a
keep-are_of (suc k) c [] places a = rw (take-none c, keep-none (suc k) places) a
keep-are_of (suc k) c (tile ∷ tiles) [] a = a
keep-are_of (suc k) c (tile ∷ tiles) (None ∷ places) a = keep-are_of k c tiles places a
keep-are_of (suc k) c (tile ∷ tiles) (Some held ∷ places) a =
    (a.0, keep-are_of k c tiles places a.1)

pub length-keep : (k : ℕ) (tiles : List (List Bool)) (places : List (Option (List Bool)))
    → length (keep k tiles places) ≡ length places
unfolding keep
length-keep zero tiles [] = refl
length-keep (suc k) tiles [] = refl
length-keep zero [] (place ∷ places) = refl
length-keep zero (tile ∷ tiles) (place ∷ places) = ap suc (length-keep zero tiles places)
length-keep (suc k) tiles (place ∷ places) = ap suc (length-keep k tiles places)

-- there is a bit for each place
pub length-held_bits : (places : List (Option (List Bool)))
    → length (held_bits places) ≡ length places
unfolding held_bits
length-held_bits [] = refl
length-held_bits (None ∷ places) = ap suc (length-held_bits places)
length-held_bits (Some tile ∷ places) = ap suc (length-held_bits places)

-- what is held stays so
pub keep-old : (k : ℕ) (tiles : List (List Bool)) (places : List (Option (List Bool))) (i : ℕ)
    → Holds places i → Holds (keep k tiles places) i
unfolding keep or_kept held_bits
keep-old k tiles [] i h = absurd cc
keep-old zero [] (place ∷ places) i h = h
keep-old zero (tile ∷ tiles) (None ∷ places) zero h = refl
keep-old zero (tile ∷ tiles) (Some held ∷ places) zero h = refl
keep-old zero (tile ∷ tiles) (None ∷ places) (suc i) h = keep-old zero tiles places i h
keep-old zero (tile ∷ tiles) (Some held ∷ places) (suc i) h = keep-old zero tiles places i h
keep-old (suc k) tiles (None ∷ places) zero h = h
keep-old (suc k) tiles (Some held ∷ places) zero h = h
keep-old (suc k) tiles (None ∷ places) (suc i) h = keep-old k tiles places i h
keep-old (suc k) tiles (Some held ∷ places) (suc i) h = keep-old k tiles places i h

-- what came is held
pub keep-new : (k : ℕ) (tiles : List (List Bool)) (places : List (Option (List Bool))) (i : ℕ)
    → k ≤ i → i < k + length tiles → i < length places → Holds (keep k tiles places) i
unfolding keep or_kept held_bits
keep-new k tiles [] i low high there = absurd (omega arith)
keep-new zero [] (place ∷ places) i low high there = absurd (omega arith)
keep-new zero (tile ∷ tiles) (None ∷ places) zero low high there = refl
keep-new zero (tile ∷ tiles) (Some held ∷ places) zero low high there = refl
keep-new zero (tile ∷ tiles) (None ∷ places) (suc i) low high there =
    keep-new zero tiles places i (omega arith) (omega arith) (omega arith)
keep-new zero (tile ∷ tiles) (Some held ∷ places) (suc i) low high there =
    keep-new zero tiles places i (omega arith) (omega arith) (omega arith)
keep-new (suc k) tiles (place ∷ places) zero low high there = absurd (omega arith)
keep-new (suc k) tiles (None ∷ places) (suc i) low high there =
    keep-new k tiles places i (omega arith) (omega arith) (omega arith)
keep-new (suc k) tiles (Some held ∷ places) (suc i) low high there =
    keep-new k tiles places i (omega arith) (omega arith) (omega arith)

-- where each tile is held, the places are these tiles and nothing more
pub record IsWhole (tiles : List (List Bool)) (places : List (Option (List Bool))) : Type 0 where
  pub free : ℕ
  pub same : places ≡ map Some tiles ++ replicate free None

pub are_of-whole : (tiles : List (List Bool)) (places : List (Option (List Bool)))
    → AreOf tiles places → ((i : ℕ) → i < length tiles → Holds places i) → IsWhole tiles places
unfolding held_bits
are_of-whole [] [] a all = record { free = 0; same = refl }
are_of-whole [] (None ∷ places) a all = let w =
    are_of-whole [] places a (λ i h. absurd (omega arith)) in
    record { free = suc w.free; same = ap (λ ps. None ∷ ps) w.same }
are_of-whole [] (Some held ∷ places) a all = absurd a
are_of-whole (tile ∷ tiles) [] a all = absurd a
are_of-whole (tile ∷ tiles) (None ∷ places) a all = let h : false ≡ true = all 0 (omega arith) in
    absurd cc
are_of-whole (tile ∷ tiles) (Some held ∷ places) a all =
    let w = are_of-whole tiles places a.1 (λ i h. all (suc i) (omega arith)) in
    record {
      free = w.free;
      same = ap (λ t. Some t ∷ places) a.0
          ∙ ap (λ ps. Some tile ∷ ps) w.same;
    }

-- where each tile is at its place and nothing more is held, the bits are ones and then zeros
pub bits-whole : (tiles : List (List Bool)) (n : ℕ)
    → held_bits (map Some tiles ++ replicate n None) ≡ replicate (length tiles) true ++ replicate n
    false
unfolding held_bits
bits-whole [] zero = refl
bits-whole [] (suc n) = ap (λ bs. false ∷ bs) (bits-whole [] n)
bits-whole (tile ∷ tiles) n = ap (λ bs. true ∷ bs) (bits-whole tiles n)

-- of ones with zeros behind them, a front no longer than the ones is all ones
pub all_true-front : (a m n : ℕ) → a ≤ m
    → all_true (take a (replicate m true ++ replicate n false)) ≡ true
unfolding all_true
all_true-front zero m n h = refl
all_true-front (suc a) zero n h = absurd (omega arith)
all_true-front (suc a) (suc m) n h = all_true-front a m n (omega arith)

none_true-none : (a n : ℕ) → none_true (take a (replicate n false)) ≡ true
unfolding none_true
none_true-none zero n = refl
none_true-none (suc a) zero = refl
none_true-none (suc a) (suc n) = none_true-none a n

no_gap-front : (a m n : ℕ) → no_gap (take a (replicate m true ++ replicate n false)) ≡ true
unfolding no_gap none_true
no_gap-front zero m n = refl
no_gap-front (suc a) zero zero = refl
no_gap-front (suc a) zero (suc n) = none_true-none a n
no_gap-front (suc a) (suc m) n = no_gap-front a m n

-- of ones with zeros behind them, a part that begins no later than the ones end has no gap
pub no_gap-part : (a b m n : ℕ) → b ≤ m
    → no_gap (take a (drop b (replicate m true ++ replicate n false))) ≡ true
no_gap-part a zero m n h = no_gap-front a m n
no_gap-part a (suc b) zero n h = absurd (omega arith)
no_gap-part a (suc b) (suc m) n h = no_gap-part a b m n (omega arith)

joined-none : (a n : ℕ) → joined_tiles (take a (replicate n None)) ≡ []
unfolding joined_tiles
joined-none zero n = refl
joined-none (suc a) zero = refl
joined-none (suc a) (suc n) = joined-none a n

-- where just these tiles are held, a front of the places that has them all joins them in order
pub joined-whole : (a n : ℕ) (tiles : List (List Bool)) → length tiles ≤ a
    → joined_tiles (take a (map Some tiles ++ replicate n None)) ≡ joined tiles
unfolding joined_tiles
joined-whole a n [] h = joined-none a n
joined-whole zero n (tile ∷ tiles) h = absurd (omega arith)
joined-whole (suc a) n (tile ∷ tiles) h =
    ap (λ bs. tile ++ bs) (joined-whole a n tiles (omega arith))

-- tests of all bits
pub all_true-at : (bits : List Bool) (i : ℕ) → all_true bits ≡ true → i < length bits
    → get_or bits i false ≡ true
unfolding all_true
all_true-at [] i e h = absurd (omega arith)
all_true-at (true ∷ bits) zero e h = refl
all_true-at (true ∷ bits) (suc i) e h = all_true-at bits i e (omega arith)
all_true-at (false ∷ bits) i e h = absurd cc

-- where the bit at each index is 1, all are
pub all_true-from : (bits : List Bool) → ((i : ℕ) → i < length bits → get_or bits i false ≡ true)
    → all_true bits ≡ true
unfolding all_true
all_true-from [] f = refl
all_true-from (true ∷ bits) f = all_true-from bits (λ i h. f (suc i) (omega arith))
all_true-from (false ∷ bits) f = f 0 (omega arith)
