-- Draining: to take out the lowest due key again and again is to meet each key once, in ascending
-- order.
use Rattle.std.proofs.Common.{arith, sym, ap, refl, subst, ◌∙◌, ℕ, suc, zero, ◌≡◌, ◌≢◌, ◌+◌, ◌<◌}
use Rattle.std.proofs.Common.{◌≤◌, inl, inr, Bool, true, false, List, Option, None, Some, length}
use Rattle.std.proofs.Math.Nat.{eq-or-lt_of_le}
use Rattle.timers.specs.Timers.{first_due}
use Rattle.timers.specs.Sweep.{met, due_at, sweep, Settles}
use Rattle.timers.proofs.DueLemmas.{lowest, none_due}

-- a key at which the timer is due as one says
met-as : {S : Type 0} (lefts : S → List (Option ℕ)) (fire : ℕ → S → S) (n at : ℕ) (s : S) (b : Bool)
    → due_at lefts at s ≡ b →
    sweep lefts fire (suc n) at s ≡ sweep lefts fire n (suc at) (met fire at s b)
met-as lefts fire n at s b e = ap (λ due. sweep lefts fire n (suc at) (met fire at s due)) e

sweep-fires : {S : Type 0} (lefts : S → List (Option ℕ)) (fire : ℕ → S → S) → Settles lefts fire →
    (n at key : ℕ) (s : S) → at ≤ key → key < at + n → due_at lefts key s ≡ true →
    ((lower : ℕ) → lower < key → due_at lefts lower s ≡ false) →
    sweep lefts fire n at (fire key s) ≡ sweep lefts fire n at s
sweep-fires lefts fire h zero at key s from to due below = absurd (omega (arith, from, to))
sweep-fires lefts fire h (suc n) at key s from to due below =
    elim (eq-or-lt_of_le from) [
      | inl same ↦
          let here : due_at lefts at s ≡ true =
          subst (λ k. due_at lefts k s ≡ true) (sym same) due in
          let fired : due_at lefts at (fire key s) ≡ false =
          subst (λ k. due_at lefts k (fire key s) ≡ false) (sym same) (h.own key s) in
          let alike : fire key s ≡ fire at s = ap (λ k. fire k s) (sym same) in
          met-as lefts fire n at (fire key s) false fired
          ∙ (ap (λ x. sweep lefts fire n (suc at) x) alike
          ∙ sym (met-as lefts fire n at s true here))
      | inr lower ↦
          let other : at ≢ key = omega (arith, lower) in
          let before : due_at lefts at s ≡ false = below at lower in
          let after : due_at lefts at (fire key s) ≡ false = h.others key at s other ∙ before in
          met-as lefts fire n at (fire key s) false after
          ∙ (sweep-fires lefts fire h n (suc at) key s (omega (arith, lower)) (omega (arith, to))
          due below
          ∙ sym (met-as lefts fire n at s false before))
    ]

-- where the lowest due key is fired at first, the sweep over all keys ends as the whole sweep does
pub sweep-due : {S : Type 0} (lefts : S → List (Option ℕ)) (fire : ℕ → S → S) (n key : ℕ) (s : S)
    → Settles lefts fire →
    length (lefts s) ≤ n → first_due (lefts s) ≡ Some key →
    sweep lefts fire n 0 (fire key s) ≡ sweep lefts fire n 0 s
sweep-due lefts fire n key s h all e =
    let l = lowest (lefts s) key e in
    let inside = l.inside in
    sweep-fires lefts fire h n 0 key s (omega arith) (omega (arith, inside, all)) l.due l.below

none-met : {S : Type 0} (lefts : S → List (Option ℕ)) (fire : ℕ → S → S) (n at : ℕ) (s : S) →
    ((key : ℕ) → due_at lefts key s ≡ false) → sweep lefts fire n at s ≡ s
none-met lefts fire zero at s h = refl
none-met lefts fire (suc n) at s h = met-as lefts fire n at s false (h at)
    ∙ none-met lefts fire n (suc at) s h

-- where none is due, a sweep changes nothing
pub sweep-none : {S : Type 0} (lefts : S → List (Option ℕ)) (fire : ℕ → S → S) (n : ℕ) (s : S) →
    first_due (lefts s) ≡ None → sweep lefts fire n 0 s ≡ s
sweep-none lefts fire n s e = none-met lefts fire n 0 s (none_due (lefts s) e)
