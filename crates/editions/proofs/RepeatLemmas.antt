-- The first RuleID that repeats an earlier one, as it is computed and as it is described.
use Rattle.std.proofs.Common.{◌≡◌, ℕ, zero, suc, ◌==◌, ◌+◌, ◌≤◌, Bool, true, false, cond, List, []}
use Rattle.std.proofs.Common.{◌∷◌, ◌++◌, take, slice_get, Some, None, IsSomeAnd, is_some, ◌∙◌, refl}
use Rattle.std.proofs.Common.{sym, ap, subst, arith, eqb-true, eq-eqb}
use Rattle.std.proofs.lemmas.Bool.{false_from_ne_true, true_from_ne_false}
use Rattle.std.proofs.lemmas.List.{append_assoc, append-nil}
use Rattle.std.proofs.lemmas.List.Sums.{sum_by-append}
use Rattle.editions.specs.declared.listed.Listed.{Listed}
use Rattle.editions.specs.Data.{lookup, NoIdTwice}
use Rattle.editions.specs.Follows.{IsFirstRepeat}
use Rattle.editions.specs.Followed.{repeat_after, first_repeat}
use Rattle.editions.proofs.LookupLemmas.{count_of, count_of-cons, count_of-none, count_of-some}
use Rattle.editions.proofs.LookupLemmas.{is_some-none}

count_of-append : (xs ys : List Listed) (id : ℕ)
    → count_of id (xs ++ ys) ≡ count_of id xs + count_of id ys
count_of-append xs ys id = sum_by-append (λ listed. cond (listed.rule.id == id) 1 0) xs ys

-- a rule has its own RuleID
count_of-itself : (x : Listed) (xs : List Listed)
    → count_of x.rule.id (x ∷ xs) ≡ 1 + count_of x.rule.id xs
count_of-itself x xs = count_of-cons x xs x.rule.id true (eq-eqb x.rule.id x.rule.id refl)

-- where no RuleID stands twice, none stands before itself
absent : (earlier later : List Listed) (x : Listed) → NoIdTwice (earlier ++ x ∷ later)
    → is_some (lookup earlier x.rule.id) ≡ false
absent earlier later x once =
    false_from_ne_true (is_some (lookup earlier x.rule.id))
    (λ e. absurd
    (omega (
      arith,
      once x.rule.id,
      count_of-append earlier (x ∷ later) x.rule.id,
      count_of-itself x later,
      count_of-some earlier x.rule.id e,
    )))

-- a RuleID that stands in the list is listed
listed : (rules : List Listed) (id : ℕ) → 1 ≤ count_of id rules → is_some (lookup rules id) ≡ true
listed rules id stands =
    true_from_ne_false (is_some (lookup rules id))
    (λ e. absurd (omega (arith, stands, count_of-none rules id (is_some-none (lookup rules id) e))))

pushed-cases : (earlier : List Listed) (x : Listed) → NoIdTwice earlier
    → lookup earlier x.rule.id ≡ None → (id : ℕ) (b : Bool) → (x.rule.id == id) ≡ b
    → count_of id (earlier ++ x ∷ []) ≤ 1
pushed-cases earlier x once none id true e =
    let none_before : count_of id earlier ≡ 0 =
    count_of-none earlier id
    (subst (λ n. lookup earlier n ≡ None) (eqb-true x.rule.id id e) none) in
    let here : count_of id (x ∷ []) ≡ 1 = count_of-cons x [] id true e in
    omega (arith, count_of-append earlier (x ∷ []) id, none_before, here)
pushed-cases earlier x once none id false e =
    let here : count_of id (x ∷ []) ≡ 0 = count_of-cons x [] id false e in
    omega (arith, count_of-append earlier (x ∷ []) id, once id, here)

-- one more rule, whose RuleID isn't listed
pushed : (earlier : List Listed) (x : Listed) → NoIdTwice earlier → lookup earlier x.rule.id ≡ None
    → NoIdTwice (earlier ++ x ∷ [])
pushed earlier x once none id = pushed-cases earlier x once none id (x.rule.id == id) refl

-- a step of the search
repeat_after-cons : (earlier later : List Listed) (x : Listed) (b : Bool)
    → is_some (lookup earlier x.rule.id) ≡ b
    → repeat_after earlier (x ∷ later) ≡ cond b (Some x.rule.id)
    (repeat_after (earlier ++ x ∷ []) later)
repeat_after-cons earlier later x b e =
    ap (λ (v : Bool). cond v (Some x.rule.id) (repeat_after (earlier ++ x ∷ []) later)) e

repeat_after-none : (earlier later : List Listed) → NoIdTwice (earlier ++ later)
    → repeat_after earlier later ≡ None
repeat_after-none earlier [] once = refl
repeat_after-none earlier (x ∷ xs) once =
    repeat_after-cons earlier xs x false (absent earlier xs x once)
    ∙ repeat_after-none (earlier ++ x ∷ []) xs
    (subst NoIdTwice (sym (append_assoc earlier (x ∷ []) xs)) once)

once-cases : (earlier later : List Listed) (x : Listed) (b : Bool)
    → is_some (lookup earlier x.rule.id) ≡ b → NoIdTwice earlier
    → cond b (Some x.rule.id) (repeat_after (earlier ++ x ∷ []) later) ≡ None
    → (NoIdTwice (earlier ++ x ∷ []) → repeat_after (earlier ++ x ∷ []) later ≡ None
    → NoIdTwice ((earlier ++ x ∷ []) ++ later)) → NoIdTwice (earlier ++ x ∷ later)
once-cases earlier later x true h once e rest = absurd cc
once-cases earlier later x false h once e rest =
    subst NoIdTwice (append_assoc earlier (x ∷ []) later)
    (rest (pushed earlier x once (is_some-none (lookup earlier x.rule.id) h)) e)

repeat_after-once : (earlier later : List Listed) → NoIdTwice earlier
    → repeat_after earlier later ≡ None → NoIdTwice (earlier ++ later)
repeat_after-once earlier [] once e = subst NoIdTwice (sym (append-nil earlier)) once
repeat_after-once earlier (x ∷ xs) once e =
    once-cases earlier xs x (is_some (lookup earlier x.rule.id)) refl once e
    (repeat_after-once (earlier ++ x ∷ []) xs)

repeat_after-found : (earlier later : List Listed) (id place : ℕ)
    → IsSomeAnd (slice_get later place) (λ listed. listed.rule.id ≡ id)
    → 1 ≤ count_of id (earlier ++ take place later) → NoIdTwice (earlier ++ take place later)
    → repeat_after earlier later ≡ Some id
repeat_after-found earlier [] id place at stood once = absurd at
repeat_after-found earlier (x ∷ xs) id zero at stood once =
    let before : 1 ≤ count_of id earlier =
    subst (λ ys. 1 ≤ count_of id ys) (append-nil earlier) stood in
    repeat_after-cons earlier xs x true
    (listed earlier x.rule.id (subst (λ n. 1 ≤ count_of n earlier) (sym at) before))
    ∙ ap (λ n. Some n) at
repeat_after-found earlier (x ∷ xs) id (suc place) at stood once =
    let joined = sym (append_assoc earlier (x ∷ []) (take place xs)) in
    repeat_after-cons earlier xs x false (absent earlier (take place xs) x once)
    ∙ repeat_after-found (earlier ++ x ∷ []) xs id place at
    (subst (λ ys. 1 ≤ count_of id ys) joined stood) (subst NoIdTwice joined once)

-- no RuleID stands twice exactly where none repeats an earlier one
pub first_repeat-none : (rules : List Listed) → NoIdTwice rules → first_repeat rules ≡ None
first_repeat-none rules once = repeat_after-none [] rules once

-- where the search finds no RuleID that repeats an earlier one, none stands twice
pub NoIdTwice-from_first_repeat : (rules : List Listed) → first_repeat rules ≡ None
    → NoIdTwice rules
NoIdTwice-from_first_repeat rules e = repeat_after-once [] rules (λ id. omega arith) e

-- the first one is found
pub first_repeat-found : (rules : List Listed) (id : ℕ) → IsFirstRepeat rules id
    → first_repeat rules ≡ Some id
first_repeat-found rules id r = repeat_after-found [] rules id r.place r.stands r.stood r.first
