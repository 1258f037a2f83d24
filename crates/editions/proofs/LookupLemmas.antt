-- What is listed under a RuleID, in a list with ascending RuleIDs and in part of one.
use Rattle.std.proofs.Common.{◌≡◌, ℕ, zero, suc, ◌==◌, ◌+◌, ◌<◌, ◌≤◌, Bool, true, false, cond, List}
use Rattle.std.proofs.Common.{[], ◌∷◌, length, take, get_or, count_by, Option, Some, None, IfSome}
use Rattle.std.proofs.Common.{is_some, slice_get, ◌∙◌, zero-add, refl, sym, ap, subst, arith}
use Rattle.std.proofs.Common.{add-one, eqb-true, eq-eqb, ne_eqb}
use Rattle.std.specs.List.{AllByRecursion}
use Rattle.std.proofs.lemmas.Option.{get_or_from_slice_get, slice_get_within, slice_get_read}
use Rattle.std.proofs.lemmas.List.Sums.{sum_by-cons, count_by_more_yes, count_by_more_no}
use Rattle.editions.specs.declared.listed.Listed.{Listed}
use Rattle.editions.specs.Data.{lookup, IsAscending, NoIdTwice}
use Rattle.editions.specs.Follows.{IsFirstRepeat}
use Rattle.editions.specs.Losses.{HasSameRule, StaysRetired, KeepsId, IsFirstLoss, IsLowestLoss}
use Rattle.editions.specs.declared.losses.Loss.{Loss}

-- all of a list
pub take-end : (rules : List Listed) (i : ℕ) → length rules ≤ i → take i rules ≡ rules
take-end [] zero h = refl
take-end [] (suc i) h = refl
take-end (x ∷ xs) zero h = absurd (omega arith)
take-end (x ∷ xs) (suc i) h = ap (λ ys. x ∷ ys) (take-end xs i (omega arith))

-- where the test finds nothing listed, nothing is
pub is_some-none : (o : Option Listed) → is_some o ≡ false → o ≡ None
is_some-none None e = refl
is_some-none (Some x) e = absurd cc

-- what the new rules list under the RuleID of a rule keeps it
abbrev pub IsKept : List Listed → Listed → Type 0
IsKept new was = HasSameRule was (lookup new was.rule.id)
    × StaysRetired was (lookup new was.rule.id)

-- the rules are all kept
abbrev pub AreKept : List Listed → List Listed → Type 0
AreKept new old = AllByRecursion (IsKept new) old

-- the rule at the place is kept too
pub AreKept-take : (new old : List Listed) (i : ℕ) (was : Listed) → slice_get old i ≡ Some was
    → AreKept new (take i old) → IsKept new was → AreKept new (take (suc i) old)
AreKept-take new [] i was e k h = tt
AreKept-take new (x ∷ xs) zero was e k h = let same : was ≡ x = cc in
    (subst (IsKept new) same h, tt)
AreKept-take new (x ∷ xs) (suc i) was e k h = (k.0, AreKept-take new xs i was e k.1 h)

-- whether the first rule has the RuleID
KeepsId-cases : (new : List Listed) (x : Listed) (xs : List Listed) (id : ℕ) (b : Bool)
    → (x.rule.id == id) ≡ b → IsKept new x → KeepsId xs new id
    → IfSome (cond b (Some x) (lookup xs id))
    (λ was. HasSameRule was (lookup new id) × StaysRetired was (lookup new id))
KeepsId-cases new x xs id true e k rest =
    subst (λ n. HasSameRule x (lookup new n) × StaysRetired x (lookup new n))
    (eqb-true x.rule.id id e) k
KeepsId-cases new x xs id false e k rest = rest

-- where all rules are kept, each RuleID is
pub KeepsId-from_kept : (new old : List Listed) → AreKept new old → (id : ℕ) → KeepsId old new id
KeepsId-from_kept new [] k id = tt
KeepsId-from_kept new (x ∷ xs) k id =
    KeepsId-cases new x xs id (x.rule.id == id) refl k.0 (KeepsId-from_kept new xs k.1 id)

-- the rules after the first one ascend too
pub IsAscending-tail : (x : Listed) (xs : List Listed) → IsAscending (x ∷ xs) → IsAscending xs
IsAscending-tail x xs asc i j d h below = asc (suc i) (suc j) d (omega arith) (omega arith)

-- a RuleID that is no higher than the first one stands at most there
pub lookup-below : (x : Listed) (xs : List Listed) (id : ℕ) → IsAscending (x ∷ xs) → id ≤ x.rule.id
    → lookup xs id ≡ None
lookup-below x [] id asc h = refl
lookup-below x (y ∷ ys) id asc h =
    let above : x.rule.id < y.rule.id = asc 0 1 x (omega arith) (omega arith) in
    rw (ne_eqb y.rule.id id (λ e. absurd (omega arith)))
    (lookup-below y ys id (IsAscending-tail x (y ∷ ys) asc) (omega arith))

-- a rule of an ascending list is what is listed under its RuleID, and where the rules before it are
-- kept, each lower RuleID is
pub lowest : (new old : List Listed) (i : ℕ) (was : Listed) → slice_get old i ≡ Some was
    → IsAscending old → AreKept new (take i old) → (lookup old was.rule.id ≡ Some was)
    × ((lower : ℕ) → lower < was.rule.id → KeepsId old new lower)
lowest new [] i was e asc k = absurd cc
lowest new (x ∷ xs) zero was e asc k =
    let same : x ≡ was = cc in
    subst (λ w. (lookup (x ∷ xs) w.rule.id ≡ Some w)
    × ((lower : ℕ) → lower < w.rule.id → KeepsId (x ∷ xs) new lower)) same (
      rw (eq-eqb x.rule.id x.rule.id refl) refl,
      λ lower h. rw (ne_eqb x.rule.id lower (λ e. absurd (omega arith)))
          (rw (lookup-below x xs lower asc (omega arith)) tt),
    )
lowest new (x ∷ xs) (suc i) was e asc k =
    let rest = lowest new xs i was e (IsAscending-tail x xs asc) k.1 in
    let at : get_or xs i was ≡ was = get_or_from_slice_get xs i was was e in
    let within : i < length xs = slice_get_within xs i was e in
    let rises : x.rule.id < (get_or xs i was).rule.id =
    asc 0 (suc i) was (omega arith) (omega arith) in
    let above : x.rule.id < was.rule.id = subst (λ w. x.rule.id < w.rule.id) at rises in (
      rw (ne_eqb x.rule.id was.rule.id (λ e. absurd (omega arith))) rest.0,
      λ lower h. KeepsId-cases new x xs lower (x.rule.id == lower) refl k.0 (rest.1 lower h),
    )

-- the first rule that isn't kept shows the lowest loss
pub IsLowestLoss-at : (new old : List Listed) (i id : ℕ) (was : Listed) (now : Option Listed)
    (loss : Loss) → i < length old → was ≡ get_or old i was → id ≡ was.rule.id → now ≡ lookup new id
    → IsFirstLoss was now loss → IsAscending old → AreKept new (take i old)
    → IsLowestLoss old new id loss
IsLowestLoss-at new old i id was now loss within is same found first asc kept =
    let low =
    lowest new old i was (slice_get_read old (length old) i was refl within is) asc kept in
    subst (λ n. now ≡ lookup new n → IsLowestLoss old new n loss) (sym same)
    (λ there. (rw low.0 (subst (λ o. IsFirstLoss was o loss) there first), low.1)) found

-- the rule that was found to be kept
pub AreKept-more : (new old : List Listed) (i id : ℕ) (was : Listed) (now : Option Listed)
    → i < length old → was ≡ get_or old i was → id ≡ was.rule.id → now ≡ lookup new id
    → HasSameRule was now × StaysRetired was now → AreKept new (take i old)
    → AreKept new (take (i + 1) old)
AreKept-more new old i id was now within is same found kept front =
    let there : now ≡ lookup new was.rule.id = subst (λ n. now ≡ lookup new n) same found in
    let here : IsKept new was = subst (λ o. HasSameRule was o × StaysRetired was o) there kept in
    rw add-one
    (AreKept-take new old i was (slice_get_read old (length old) i was refl within is) front
    here)

-- how often the RuleID stands
abbrev pub count_of : ℕ → List Listed → ℕ
count_of id rules = count_by (λ listed. listed.rule.id == id) rules

-- the first rule counts where it has the RuleID
pub count_of-cons : (x : Listed) (xs : List Listed) (id : ℕ) (b : Bool) → (x.rule.id == id) ≡ b
    → count_of id (x ∷ xs) ≡ cond b 1 0 + count_of id xs
count_of-cons x xs id b e =
    sum_by-cons (λ listed. cond (listed.rule.id == id) 1 0) x xs
    ∙ ap (λ (v : Bool). cond v 1 0 + count_of id xs) e

count_of-none-cases : (x : Listed) (xs : List Listed) (id : ℕ) (b : Bool) → (x.rule.id == id) ≡ b
    → cond b (Some x) (lookup xs id) ≡ None → (lookup xs id ≡ None → count_of id xs ≡ 0)
    → count_of id (x ∷ xs) ≡ 0
count_of-none-cases x xs id true h e rest = absurd cc
count_of-none-cases x xs id false h e rest = count_of-cons x xs id false h
    ∙ (zero-add (count_of id xs) ∙ rest e)

-- a RuleID that isn't listed stands nowhere
pub count_of-none : (rules : List Listed) (id : ℕ) → lookup rules id ≡ None → count_of id rules ≡ 0
count_of-none [] id e = refl
count_of-none (x ∷ xs) id e =
    count_of-none-cases x xs id (x.rule.id == id) refl e (count_of-none xs id)

count_of-some-cases : (x : Listed) (xs : List Listed) (id : ℕ) (b : Bool) → (x.rule.id == id) ≡ b
    → is_some (cond b (Some x) (lookup xs id)) ≡ true
    → (is_some (lookup xs id) ≡ true → 1 ≤ count_of id xs) → 1 ≤ count_of id (x ∷ xs)
count_of-some-cases x xs id true h e rest =
    rw (count_of-cons x xs id true h) (omega arith)
count_of-some-cases x xs id false h e rest =
    rw (count_of-cons x xs id false h, zero-add (count_of id xs)) (rest e)

-- a RuleID that is listed stands somewhere
pub count_of-some : (rules : List Listed) (id : ℕ) → is_some (lookup rules id) ≡ true
    → 1 ≤ count_of id rules
count_of-some [] id e = absurd cc
count_of-some (x ∷ xs) id e =
    count_of-some-cases x xs id (x.rule.id == id) refl e (count_of-some xs id)

NoIdTwice-cases : (rules : List Listed) (i : ℕ) (x : Listed) → i < length rules
    → x ≡ get_or rules i x → lookup (take i rules) x.rule.id ≡ None → NoIdTwice (take i rules)
    → (id : ℕ) (b : Bool) → (x.rule.id == id) ≡ b → count_of id (take (i + 1) rules) ≤ 1
NoIdTwice-cases rules i x within is none twice id true e =
    let more =
    count_by_more_yes (λ listed. listed.rule.id == id) rules i x within
    (subst (λ (y : Listed). (y.rule.id == id) ≡ true) is e) in
    let absent : count_of id (take i rules) ≡ 0 =
    count_of-none (take i rules) id
    (subst (λ n. lookup (take i rules) n ≡ None) (eqb-true x.rule.id id e) none) in
    rw (more, absent) (omega arith)
NoIdTwice-cases rules i x within is none twice id false e =
    let more =
    count_by_more_no (λ listed. listed.rule.id == id) rules i x within
    (subst (λ (y : Listed). (y.rule.id == id) ≡ false) is e) in
    rw more (twice id)

-- one more rule, whose RuleID doesn't stand before it
pub NoIdTwice-take : (rules : List Listed) (i : ℕ) (x : Listed) → i < length rules
    → x ≡ get_or rules i x → is_some (lookup (take i rules) x.rule.id) ≡ false
    → NoIdTwice (take i rules) → NoIdTwice (take (i + 1) rules)
NoIdTwice-take rules i x within is none twice id =
    NoIdTwice-cases rules i x within is (is_some-none (lookup (take i rules) x.rule.id) none) twice
    id (x.rule.id == id) refl

-- the RuleID of the rule at the place stands before it
pub IsFirstRepeat-at : (rules : List Listed) (i : ℕ) (x : Listed) → i < length rules
    → x ≡ get_or rules i x → is_some (lookup (take i rules) x.rule.id) ≡ true
    → NoIdTwice (take i rules) → IsFirstRepeat rules x.rule.id
IsFirstRepeat-at rules i x within is some twice = record {
  place = i;
  stands = rw (slice_get_read rules (length rules) i x refl within is) refl;
  stood = count_of-some (take i rules) x.rule.id some;
  first = twice;
}
