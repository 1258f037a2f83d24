-- A run is the longest front of numbers that follow one another in one window.
use Rattle.std.proofs.Common.{◌≡◌, ◌⊎◌, inl, inr, ℕ, zero, suc, ◌+◌, ◌/◌, ◌%◌, ◌==◌, not, Bool}
use Rattle.std.proofs.Common.{true, false, List, [], ◌∷◌, ◌++◌, if◌then◌else◌, refl, sym, ap, subst}
use Rattle.std.proofs.Common.{◌∙◌, arith}
use Rattle.std.proofs.lemmas.Bool.{eqb-true, eqb-false}
use Rattle.tiles_bitmap.specs.Laws.{EndsAt, IsLongestRun, RunsAreLongest}
use Rattle.tiles_bitmap.specs.Places.{numbers_from, goes_on, one_more, run}

-- the number follows in its window
record Goes (number : ℕ) (next : ℕ) : Type 0 where
  follows : next ≡ suc number
  inside : next % 63 ≡ 0 → ⊥

goes-in : (number next : ℕ) (b c : Bool) → (next == suc number) ≡ b → (next % 63 == 0) ≡ c
    → (if b then not c else false) ≡ true → Goes number next
goes-in number next true true e f g = absurd (cc g)
goes-in number next true false e f g =
    record { follows = eqb-true next (suc number) e; inside = eqb-false (next % 63) 0 f }
goes-in number next false c e f g = absurd (cc g)

goes-on : (number next : ℕ) → goes_on 63 number next ≡ true → Goes number next
unfolding goes_on
goes-on number next g = goes-in number next (next == suc number) (next % 63 == 0) refl refl g

-- or the run ends before it
ends-in : (number next : ℕ) (b c : Bool) → (next == suc number) ≡ b → (next % 63 == 0) ≡ c
    → (if b then not c else false) ≡ false → (next ≡ suc number → ⊥) ⊎ (next / 63 ≡ number / 63 → ⊥)
ends-in number next true true e f g =
    let same = eqb-true next (suc number) e in
    let first = eqb-true (next % 63) 0 f in
    inr (λ h. omega (arith, same, first, h))
ends-in number next true false e f g = absurd (cc g)
ends-in number next false c e f g = inl (eqb-false next (suc number) e)

ends-on : (number next : ℕ) → goes_on 63 number next ≡ false → (next ≡ suc number → ⊥)
    ⊎ (next / 63 ≡ number / 63 → ⊥)
unfolding goes_on
ends-on number next g = ends-in number next (next == suc number) (next % 63 == 0) refl refl g

none-longest : (most number : ℕ) (numbers : List ℕ) → (0 ≡ most) ⊎ EndsAt number numbers
    → IsLongestRun most number numbers (0, numbers)
unfolding numbers_from
none-longest most number numbers ends =
    let here : number ≡ number + 0 = omega arith in
    record {
      front = refl;
      one_window = omega arith;
      few = omega arith;
      longest = subst (λ n. (0 ≡ most) ⊎ EndsAt n numbers) here ends;
    }

one-longer : (most number next : ℕ) (numbers : List ℕ) (taken : ℕ × List ℕ) → Goes number next
    → IsLongestRun most next numbers taken
    → IsLongestRun (suc most) number (next ∷ numbers) (suc taken.0, taken.1)
unfolding numbers_from
one-longer most number next numbers taken goes is =
    let follows = goes.follows in
    let inside = goes.inside in
    let window = is.one_window in
    let few = is.few in
    let place : next + taken.0 ≡ number + suc taken.0 = omega (arith, follows) in
    let same_window : next / 63 ≡ number / 63 = in-window number next follows inside in
    record {
      front = ap (λ list. next ∷ list) (is.front)
          ∙ ap (λ n. n ∷ (numbers_from (suc n) taken.0 ++ taken.1)) follows;
      one_window = ap (λ n. n / 63) (sym place) ∙ window ∙ same_window;
      few = omega (arith, few);
      longest = later (next + taken.0) (number + suc taken.0) place is.longest;
    }
  where
    in-window : (number next : ℕ) → next ≡ suc number → (next % 63 ≡ 0 → ⊥)
        → next / 63 ≡ number / 63
    in-window number next e other = omega (arith, e, other)

    later : (here there : ℕ) → here ≡ there → (taken.0 ≡ most) ⊎ EndsAt here taken.1
        → (suc taken.0 ≡ suc most) ⊎ EndsAt there taken.1
    later here there e (inl all) = inl (ap suc all)
    later here there e (inr ends) = inr (subst (λ n. EndsAt n taken.1) e ends)

one_more-longest : (b : Bool) (most number next : ℕ) (numbers : List ℕ) (taken : ℕ × List ℕ)
    → goes_on 63 number next ≡ b → IsLongestRun most next numbers taken →
    IsLongestRun (suc most) number (next ∷ numbers) (one_more b taken (next ∷ numbers))
unfolding one_more
one_more-longest true most number next numbers taken e is =
    one-longer most number next numbers taken (goes-on number next e) is
one_more-longest false most number next numbers taken e is =
    none-longest (suc most) number (next ∷ numbers) (inr (ends-on number next e))

-- a run is the longest front, of at most so many, that follows the number without a gap in its
-- window of 63; the other numbers are left
pub runs-longest : RunsAreLongest
unfolding run
runs-longest zero number numbers = none-longest 0 number numbers (inl refl)
runs-longest (suc most) number [] = none-longest (suc most) number [] (inr tt)
runs-longest (suc most) number (next ∷ numbers) =
    one_more-longest (goes_on 63 number next) most number next numbers (run 63 most next numbers)
    refl (runs-longest most next numbers)
