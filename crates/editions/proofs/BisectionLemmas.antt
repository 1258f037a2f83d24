-- What a binary search by RuleID finds among rules in ascending order.
use Rattle.std.proofs.Common.{◌≡◌, ℕ, suc, ◌<◌, ◌≤◌, List, [], ◌∷◌, length, get_or, Some, None}
use Rattle.std.proofs.Common.{refl, sym, ap, subst, arith, tests, ne_eqb, Less, Equal, Greater, inl}
use Rattle.std.proofs.Common.{inr}
use Rattle.std.specs.Ordering.{nat_cmp, ordering_index, MatchOrdering}
use Rattle.std.specs.Cmp.{ranks}
use Rattle.std.specs.List.{HoldsAt}
use Rattle.std.specs.List.Sorted.{IsNonDecreasingBy, IsPartitionPoint}
use Rattle.std.proofs.lemmas.Bool.{cases_lt}
use Rattle.std.proofs.lemmas.Option.{slice_get_read}
use Rattle.editions.specs.declared.listed.Listed.{Listed}
use Rattle.editions.specs.Data.{lookup, IsAscending}
use Rattle.editions.proofs.SuspectLemmas.{lookup-ascending}

-- a rule at which the search stopped is listed under the RuleID
pub found-listed : (rules : List Listed) (id place : ℕ) (x : Listed) → place < length rules
    → x ≡ get_or rules place x → HoldsAt (λ y. nat_cmp y.rule.id id ≡ Equal) rules place
    → IsAscending rules → Some x ≡ lookup rules id
found-listed rules id place x within at equal asc =
    let here : nat_cmp x.rule.id id ≡ Equal =
    subst (λ (y : Listed). nat_cmp y.rule.id id ≡ Equal) (sym at) (equal x) in
    let same : x.rule.id ≡ id =
    subst (λ o. MatchOrdering o (x.rule.id < id) (x.rule.id ≡ id) (id < x.rule.id)) here
    (ranks x.rule.id id) in
    sym (subst (λ n. lookup rules n ≡ Some x) same
    (lookup-ascending rules place x asc
    (slice_get_read rules (length rules) place x refl within at)))

-- nothing is listed under a RuleID that no rule has
none-listed : (rules : List Listed) (id : ℕ)
    → ((k : ℕ) (d : Listed) → k < length rules → (get_or rules k d).rule.id ≡ id → ⊥)
    → None ≡ lookup rules id
none-listed [] id other = refl
none-listed (y ∷ ys) id other =
    rw (ne_eqb y.rule.id id (other 0 y (omega arith)))
    (none-listed ys id (λ k d within. other (suc k) d (omega arith)))

rises : (id a b : ℕ) → a ≤ b → ordering_index (nat_cmp a id) ≤ ordering_index (nat_cmp b id)
rises id a b le = grind (arith, tests)

-- nor where the search found a place between the lower and the higher ones
pub not-listed : (rules : List Listed) (id place : ℕ) → IsAscending rules
    → (IsNonDecreasingBy (λ y. ordering_index (nat_cmp y.rule.id id)) rules
    → IsPartitionPoint (λ y. nat_cmp y.rule.id id ≡ Less) (λ y. nat_cmp y.rule.id id ≡ Greater)
    rules place) → None ≡ lookup rules id
not-listed rules id place asc parts =
    none-listed rules id (λ k d within same.
    elim (cases_lt k place) [
      | inl l ↦
          let lower : (get_or rules k d).rule.id < id =
          subst (λ o. MatchOrdering o ((get_or rules k d).rule.id < id)
          ((get_or rules k d).rule.id ≡ id) (id < (get_or rules k d).rule.id))
          (parted.0 k d (omega arith) l) (ranks (get_or rules k d).rule.id id) in
          absurd (omega arith)
      | inr l ↦
          let higher : id < (get_or rules k d).rule.id =
          subst (λ o. MatchOrdering o ((get_or rules k d).rule.id < id)
          ((get_or rules k d).rule.id ≡ id) (id < (get_or rules k d).rule.id))
          (parted.1 k d l within) (ranks (get_or rules k d).rule.id id) in
          absurd (omega arith)
    ])
  where
    ordered : (i j : ℕ) (d : Listed) → i ≤ j → j < length rules
        → (get_or rules i d).rule.id ≤ (get_or rules j d).rule.id
    ordered i j d le within =
        elim (cases_lt i j) [
          | inl l ↦ let above : (get_or rules i d).rule.id < (get_or rules j d).rule.id =
              asc i j d l within in omega arith
          | inr l ↦ let same : i ≡ j = omega arith in
              let ids : (get_or rules i d).rule.id ≡ (get_or rules j d).rule.id =
              ap (λ k. (get_or rules k d).rule.id) same in omega arith
        ]

    parted : IsPartitionPoint (λ y. nat_cmp y.rule.id id ≡ Less)
        (λ y. nat_cmp y.rule.id id ≡ Greater) rules place
    parted =
        parts (λ i j d le within. rises id (get_or rules i d).rule.id (get_or rules j d).rule.id
        (ordered i j d le within))
