-- Windows, bitmaps and numbers to send.
use Rattle.std.proofs.Common.{◌≡◌, ◌⊎◌, inl, inr, ℕ, zero, suc, ◌+◌, ◌-◌, ◌*◌, ◌%◌, ◌<◌, ◌≤◌, ◌==◌}
use Rattle.std.proofs.Common.{not, min, Bool, true, false, List, [], ◌∷◌, take, drop, length}
use Rattle.std.proofs.Common.{get_or, if◌then◌else◌, refl, sym, ap, subst, ◌∙◌, arith, suc-mul}
use Rattle.std.specs.List.{AllByRecursion}
use Rattle.std.proofs.lemmas.Bool.{eqb-true, cases_lt}
use Rattle.std.proofs.lemmas.List.{get_or-take, get_or-drop, length-take, length-drop}
use Rattle.tiles_bitmap.specs.Places.{Among}
use Rattle.tiles_bitmap.specs.Places.{numbers_from, all_true, open_window, with_last, missing}
use Rattle.tiles_bitmap.specs.Places.{goes_on, one_more, run}
use Rattle.tiles_bitmap.proofs.PlacesLemmas.{all_true-at, all_true-from}

-- the open window: those below are full
open-full-if : (size : ℕ) (bits : List Bool) (b : Bool) (rest i : ℕ) → all_true (take size bits) ≡ b
    → i < length bits →
    ((j : ℕ) → j < rest * size → j < length (drop size bits)
    → get_or (drop size bits) j false ≡ true) →
    i < (if b then suc rest else zero) * size → get_or bits i false ≡ true
open-full-if size bits false rest i e there f h = absurd (omega arith)
open-full-if size bits true rest i e there f h = open-full-at (cases_lt i size) (rw suc-mul at h)
  where
    open-full-at : (i < size) ⊎ (size ≤ i) → i < rest * size + size → get_or bits i false ≡ true
    open-full-at (inl low) wide = sym (get_or-take size bits i false low)
        ∙ all_true-at (take size bits) i e (rw length-take (omega arith))
    open-full-at (inr high) wide =
        let k : get_or (drop size bits) (i - size) false ≡ true =
        f (i - size) (omega arith) (rw length-drop (omega arith)) in
        let same : size + (i - size) ≡ i = omega arith in
        rw (get_or-drop, same) at k

pub open-full : (size last : ℕ) (bits : List Bool) (i : ℕ) → i < open_window size last bits * size
    → i < length bits → get_or bits i false ≡ true
unfolding open_window
open-full size zero bits i h there = absurd (omega arith)
open-full size (suc last) bits i h there =
    open-full-if size bits (all_true (take size bits)) (open_window size last (drop size bits)) i
    refl there
    (λ j k l. open-full size last (drop size bits) j k l) h

pub open-below : (size last : ℕ) (bits : List Bool) → open_window size last bits ≤ last
unfolding open_window
open-below size zero bits = omega arith
open-below size (suc last) bits =
    open-below-if (all_true (take size bits)) (open_window size last (drop size bits)) last
    (open-below size last (drop size bits))
  where
    open-below-if : (b : Bool) (rest last : ℕ) → rest ≤ last
        → (if b then suc rest else zero) ≤ suc last
    open-below-if true rest last h = omega arith
    open-below-if false rest last h = omega arith

-- and it isn't below a window where all are full
pub open-least : (size last : ℕ) (bits : List Bool) (w : ℕ) → w ≤ last
    → ((i : ℕ) → i < w * size → get_or bits i false ≡ true) → w ≤ open_window size last bits
unfolding open_window
open-least size last bits zero h f = omega arith
open-least size zero bits (suc w) h f = absurd (omega arith)
open-least size (suc last) bits (suc w) h f =
    let first : all_true (take size bits) ≡ true =
    all_true-from (take size bits) (λ i k. first-at i (rw length-take at k)) in
    rw first
    (let k : w ≤ open_window size last (drop size bits) =
    open-least size last (drop size bits) w (omega arith)
    (λ i k. rw get_or-drop (f (size + i) (rw suc-mul (omega arith)))) in omega arith)
  where
    first-at : (i : ℕ) → i < min size (length bits) → get_or (take size bits) i false ≡ true
    first-at i k = let low : i < size = omega arith in get_or-take size bits i false low
        ∙ f i (rw suc-mul (omega arith))

moved : (k i : ℕ) → k + suc i ≡ suc k + i
moved k i = omega arith

-- a bit that isn't there is in the numbers
pub missing-covers : (k left : ℕ) (bits : List Bool) (i : ℕ) → i < left → i < length bits
    → (get_or bits i false ≡ true) ⊎ Among (k + i) (missing k left bits)
unfolding missing
missing-covers k zero bits i h there = absurd (omega arith)
missing-covers k (suc left) [] i h there = absurd (omega arith)
missing-covers k (suc left) (true ∷ bits) zero h there = inl refl
missing-covers k (suc left) (false ∷ bits) zero h there = inr (inl (omega arith))
missing-covers k (suc left) (true ∷ bits) (suc i) h there =
    subst (λ n. (get_or bits i false ≡ true) ⊎ Among n (missing (suc k) left bits))
    (sym (moved k i)) (missing-covers (suc k) left bits i (omega arith) (omega arith))
missing-covers k (suc left) (false ∷ bits) (suc i) h there =
    later (missing-covers (suc k) left bits i (omega arith) (omega arith))
  where
    later : (get_or bits i false ≡ true) ⊎ Among (suc k + i) (missing (suc k) left bits)
        → (get_or bits i false ≡ true) ⊎ Among (k + suc i) (k ∷ missing (suc k) left bits)
    later (inl e) = inl e
    later (inr there) =
        inr (inr (subst (λ n. Among n (missing (suc k) left bits)) (sym (moved k i)) there))

-- the numbers whose bit is 0 are below `m`, where all that are looked at are
pub missing-fit : (k left m : ℕ) (bits : List Bool) → left ≤ m - k
    → AllByRecursion (λ j. j < m) (missing k left bits)
unfolding missing
missing-fit k zero m bits h = tt
missing-fit k (suc left) m [] h = tt
missing-fit k (suc left) m (true ∷ bits) h = missing-fit (suc k) left m bits (omega arith)
missing-fit k (suc left) m (false ∷ bits) h =
    (omega arith, missing-fit (suc k) left m bits (omega arith))

pub length-missing : (k left : ℕ) (bits : List Bool) → length (missing k left bits) ≤ left
unfolding missing
length-missing k zero bits = omega arith
length-missing k (suc left) [] = omega arith
length-missing k (suc left) (true ∷ bits) = let h = length-missing (suc k) left bits in omega arith
length-missing k (suc left) (false ∷ bits) = let h = length-missing (suc k) left bits in omega arith

-- so many numbers from `k` on are below `m`, where they end no later
pub numbers-fit : (k n m : ℕ) → k + n ≤ m → AllByRecursion (λ j. j < m) (numbers_from k n)
unfolding numbers_from
numbers-fit k zero m h = tt
numbers-fit k (suc n) m h = (omega arith, numbers-fit (suc k) n m (omega arith))

pub length-numbers : (k n : ℕ) → length (numbers_from k n) ≡ n
unfolding numbers_from
length-numbers k zero = refl
length-numbers k (suc n) = ap suc (length-numbers (suc k) n)

-- the last bit
pub with_last-at : (bits : List Bool) (i : ℕ) → suc i < length bits
    → get_or (with_last bits) i false ≡ get_or bits i false
unfolding with_last
with_last-at [] i h = refl
with_last-at (b ∷ []) i h = absurd (omega arith)
with_last-at (b ∷ c ∷ bits) zero h = refl
with_last-at (b ∷ c ∷ bits) (suc i) h = with_last-at (c ∷ bits) i (omega arith)

pub with_last-last : (bits : List Bool) → get_or (with_last bits) (length bits - 1) true ≡ true
unfolding with_last
with_last-last [] = refl
with_last-last (b ∷ []) = refl
with_last-last (b ∷ c ∷ bits) = let e : suc (suc (length bits)) - 1 ≡ suc (length bits) =
    omega arith in
    rw e (let f : suc (length bits) - 1 ≡ length bits = omega arith in
    rw f at (with_last-last (c ∷ bits)))

-- a bitmap whose rightmost bit is set is as long as before
pub length-with_last : (bits : List Bool) → length (with_last bits) ≡ length bits
unfolding with_last
length-with_last [] = refl
length-with_last (b ∷ []) = refl
length-with_last (b ∷ c ∷ bits) = ap suc (length-with_last (c ∷ bits))

-- a run takes what follows the number, and leaves the rest
pub record IsRun (k m : ℕ) (numbers : List ℕ) (taken : ℕ × List ℕ) : Type 0 where
  pub covers : (i : ℕ) → Among i numbers → ((k < i) × (i ≤ k + taken.0)) ⊎ Among i taken.1
  pub within : k + taken.0 < m
  pub rest_within : AllByRecursion (λ j. j < m) taken.1
  pub shorter : length taken.1 ≤ length numbers

follows : (size k next : ℕ) → goes_on size k next ≡ true → next ≡ suc k
unfolding goes_on
follows size k next e = follows-if (next == suc k) (not (next % size == 0)) refl e
  where
    follows-if : (b c : Bool) → (next == suc k) ≡ b → (if b then c else false) ≡ true → next ≡ suc k
    follows-if true c h e = eqb-true next (suc k) h
    follows-if false c h e = absurd cc

one_more-is : (b : Bool) (k next m : ℕ) (numbers : List ℕ) (rest : ℕ × List ℕ)
    → (b ≡ true → next ≡ suc k) → k < m → AllByRecursion (λ j. j < m) (next ∷ numbers) →
    IsRun next m numbers rest → IsRun k m (next ∷ numbers) (one_more b rest (next ∷ numbers))
unfolding one_more
one_more-is true k next m numbers rest f h all r =
    let e : next ≡ suc k = f refl in
    record {
      covers = covers-true e;
      within = let w = r.within in omega arith;
      rest_within = r.rest_within;
      shorter = let s = r.shorter in omega arith;
    }
  where
    covers-later : next ≡ suc k → (i : ℕ) → ((next < i) × (i ≤ next + rest.0)) ⊎ Among i rest.1
        → ((k < i) × (i ≤ k + suc rest.0)) ⊎ Among i rest.1
    covers-later e i (inl both) = inl (omega arith, omega arith)
    covers-later e i (inr there) = inr there

    covers-true : next ≡ suc k → (i : ℕ) → Among i (next ∷ numbers)
        → ((k < i) × (i ≤ k + suc rest.0)) ⊎ Among i rest.1
    covers-true e i (inl same) = inl (omega arith, omega arith)
    covers-true e i (inr there) = covers-later e i (r.covers i there)
one_more-is false k next m numbers rest f h all r =
    record {
      covers = λ i there. inr there;
      within = omega arith;
      rest_within = all;
      shorter =
          omega arith;
    }

-- where a number and those behind it are below `m`, each of those is in its run or left, and all
-- that the run takes or leaves is below `m`
pub run-is : (size most k m : ℕ) (numbers : List ℕ) → k < m → AllByRecursion (λ j. j < m) numbers
    → IsRun k m numbers (run size most k numbers)
unfolding run
run-is size zero k m numbers h all =
    record {
      covers = λ i there. inr there;
      within = omega arith;
      rest_within = all;
      shorter =
          omega arith;
    }
run-is size (suc most) k m [] h all =
    record {
      covers = λ i there. inr there;
      within = omega arith;
      rest_within = tt;
      shorter =
          omega arith;
    }
run-is size (suc most) k m (next ∷ numbers) h all =
    one_more-is (goes_on size k next) k next m numbers (run size most next numbers)
    (follows size k next) h all (run-is size most next m numbers all.0 all.1)
