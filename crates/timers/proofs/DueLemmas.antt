-- Which key is taken out, and when a timer is due.
use Rattle.std.proofs.Common.{arith, ap, refl, ◌∙◌, ℕ, suc, zero, ◌≡◌, ◌≢◌, ◌+◌, ◌-◌, ◌<◌, ◌≤◌, ◌⊎◌}
use Rattle.std.proofs.Common.{inl, inr, Bool, true, false, cond, List, [], ◌∷◌, Option, None, Some}
use Rattle.std.proofs.Common.{length, slice_set, get_or}
use Rattle.std.proofs.Common.{subst, ◌↔◌, get_or-set_same, get_or-set_other}
use Rattle.std.proofs.Math.ListN.{get_or-map}
use Rattle.std.proofs.lemmas.Bool.{eqb-true, eq-eqb}
use Rattle.std.specs.List.{position_from}
use Rattle.timers.specs.Timers.{ticked, is_due, tick_step, first_due, without}
use Rattle.timers.specs.Laws.{ticks_pass}
use Rattle.timers.proofs.TimersLemmas.{first_due-from-zero}

cond-none : (b : Bool) (n : ℕ) (o : Option ℕ) → cond b (Some n) o ≡ None → (b ≡ false) × (o ≡ None)
cond-none true n o e = absurd (cc)
cond-none false n o e = (refl, e)

none-from : (timers : List (Option ℕ)) (start : ℕ) → position_from is_due start timers ≡ None →
    (key : ℕ) → is_due (get_or timers key None) ≡ false
none-from [] start e key = refl
none-from (x ∷ xs) start e zero =
    (cond-none (is_due x) start (position_from is_due (start + 1) xs) e).0
none-from (x ∷ xs) start e (suc key) =
    none-from xs (start + 1) (cond-none (is_due x) start (position_from is_due (start + 1) xs) e).1
    key

-- where none is found, none is due
pub none_due : (timers : List (Option ℕ)) → first_due timers ≡ None → (key : ℕ)
    → is_due (get_or timers key None) ≡ false
none_due timers e key = none-from timers 0 (first_due-from-zero timers ∙ e) key

-- place i is due, and none before it
pub record IsLowest (timers : List (Option ℕ)) (i : ℕ) : Type 0 where
  pub inside : i < length timers
  pub due : is_due (get_or timers i None) ≡ true
  pub below : (lower : ℕ) → lower < i → is_due (get_or timers lower None) ≡ false

lowest-here : (x : Option ℕ) (xs : List (Option ℕ)) → is_due x ≡ true → IsLowest (x ∷ xs) 0
lowest-here x xs e =
    record { inside = omega arith; due = e; below = λ lower h. absurd (omega (arith, h)) }

not-below : (x : Option ℕ) (xs : List (Option ℕ)) (i : ℕ) → is_due x ≡ false → IsLowest xs i →
    (lower : ℕ) → lower < suc i → is_due (get_or (x ∷ xs) lower None) ≡ false
not-below x xs i e l zero h = e
not-below x xs i e l (suc lower) h = l.below lower (omega (arith, h))

lowest-later : (x : Option ℕ) (xs : List (Option ℕ)) (i : ℕ) → is_due x ≡ false → IsLowest xs i
    → IsLowest (x ∷ xs) (suc i)
lowest-later x xs i e l =
    record { inside = omega (arith, l.inside); due = l.due; below = not-below x xs i e l }

cond-some : (b : Bool) (n key : ℕ) (o : Option ℕ) → cond b (Some n) o ≡ Some key →
    ((b ≡ true) × (n ≡ key)) ⊎ ((b ≡ false) × (o ≡ Some key))
cond-some true n key o e = inl (refl, cc)
cond-some false n key o e = inr (refl, e)

lowest-from : (timers : List (Option ℕ)) (start key : ℕ)
    → position_from is_due start timers ≡ Some key →
    (i : ℕ) × ((key ≡ start + i) × IsLowest timers i)
lowest-from [] start key e = absurd (cc)
lowest-from (x ∷ xs) start key e =
    elim (cond-some (is_due x) start key (position_from is_due (start + 1) xs) e) [
      | inl h ↦ (0, (omega (arith, h.1), lowest-here x xs h.0))
      | inr h ↦
          let r = lowest-from xs (start + 1) key h.1 in
          (suc r.0, (omega (arith, r.1.0), lowest-later x xs r.0 h.0 r.1.1))
    ]

-- the key that is found is the lowest that is due
pub lowest : (timers : List (Option ℕ)) (key : ℕ) → first_due timers ≡ Some key
    → IsLowest timers key
lowest timers key e =
    let r = lowest-from timers 0 key (first_due-from-zero timers ∙ e) in
    let same : r.0 ≡ key = omega (arith, r.1.0) in
    subst (λ n. IsLowest timers n) same r.1.1

ticks-left : (n : ℕ) (timers : List (Option ℕ)) (key t : ℕ) → get_or timers key None ≡ Some t →
    get_or (ticks_pass n timers) key None ≡ Some (t - n)
ticks-left zero timers key t e = let none : t - 0 ≡ t = omega arith in rw none e
ticks-left (suc n) timers key t e =
    let one : get_or (tick_step timers) key None ≡ Some (t - 1) = get_or-map ticked timers key None
    ∙ ap ticked e in
    let less : t - suc n ≡ t - 1 - n = omega arith in
    rw less (ticks-left n (tick_step timers) key (t - 1) one)

-- a timer that is armed with t is due after n ticks exactly where n is at least t
pub due_at_its_tick : (timers : List (Option ℕ)) (key t n : ℕ) → key < length timers →
    (is_due (get_or (ticks_pass n (slice_set timers key (Some t))) key None) ≡ true) ↔ (t ≤ n)
due_at_its_tick timers key t n h =
    let left =
    ticks-left n (slice_set timers key (Some t)) key t
    (get_or-set_same timers key (Some t) None h) in
    rw left (
      (λ e. let none = eqb-true (t - n) 0 e in omega (arith, none)),
      (λ e. eq-eqb (t - n) 0 (omega (arith, e))),
    )

-- a key that is taken out isn't due
pub without-own : (timers : List (Option ℕ)) (key : ℕ)
    → is_due (get_or (without timers (Some key)) key None) ≡ false
without-own [] key = refl
without-own (x ∷ xs) zero = refl
without-own (x ∷ xs) (suc key) = without-own xs key

-- each other key is as before
pub without-other : (timers : List (Option ℕ)) (key other : ℕ) → other ≢ key →
    get_or (without timers (Some key)) other None ≡ get_or timers other None
without-other timers key other h = get_or-set_other timers key other None None h
