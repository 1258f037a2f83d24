-- Rules without a finding make an edition that follows, and rules with one make none.
use Rattle.std.proofs.Common.{◌≡◌, ℕ, ◌==◌, ◌+◌, ◌<◌, ◌≤◌, Bool, true, false, cond, List, length}
use Rattle.std.proofs.Common.{take, get_or, Option, Some, None, IfSome, IsSomeAnd, slice_get}
use Rattle.std.proofs.Common.{sum_by, IsPermutation, ◌∙◌, refl, sym, ap, subst, arith, eq-eqb}
use Rattle.std.proofs.Common.{IsTrue, ◌↔◌}
use Rattle.std.proofs.lemmas.Option.{get_or_from_slice_get, slice_get_within}
use Rattle.std.proofs.lemmas.List.Sorted.{All-permutation, length_permutation, sum_by-IsPermutation}
use Rattle.std.proofs.lemmas.List.Sorted.{IsPermutation-sym}
use Rattle.std.proofs.lemmas.List.Sums.{sum_by-take-le, count_by_more_yes}
use Rattle.rule_model.specs.declared.finding.Finding.{Finding}
use Rattle.rule_model.specs.declared.finding.FindingKind.{FindingKind}
use Rattle.rule_model.specs.Findings.{IsAdmitted}
use Rattle.editions.specs.declared.listed.Listed.{Listed}
use Rattle.editions.specs.declared.losses.Loss.{Loss}
use Rattle.editions.specs.declared.losses.Loss.TheVariants.{IdGone, MeaningChanged, Revived}
use Rattle.editions.specs.Data.{EditionData, lookup, AreAdmitted, NoIdTwice}
use Rattle.editions.specs.Losses.{HasSameRule, StaysRetired, IsFirstLoss, KeepsId}
use Rattle.editions.specs.Follows.{Follows, IsWithinLimits, entry_octets, IsFirstRepeat}
use Rattle.editions.specs.Follows.{IsFirstFinding, finding, number_not_next, too_large, id_twice}
use Rattle.editions.specs.Follows.{lost}
use Rattle.editions.specs.Losses.{IsLowestLoss, kind_of_loss}
use Rattle.editions.specs.Chains.{EndsChain, IsEdition}
use Rattle.editions.specs.Faults.{IsMadeOf}
use Rattle.std.specs.List.Sorted.{IsNonDecreasingBy}
use Rattle.editions.proofs.ChainLemmas.{EndsChain-next}
use Rattle.editions.proofs.LookupLemmas.{count_of}
use Rattle.editions.proofs.OrderLemmas.{lookup-IsPermutation, IsAscending-from_sorted}

-- the order of the new rules doesn't matter
pub Follows-IsPermutation : (old : EditionData) (number : ℕ) (xs ys : List Listed)
    → IsPermutation xs ys → Follows old (record { number = number; rules = xs })
    → Follows old (record { number = number; rules = ys })
Follows-IsPermutation old number xs ys p f = record {
  next_number = f.next_number;
  within_limits = (
    f.within_limits.0,
    rw (length_permutation xs ys p) f.within_limits.1,
    All-permutation (λ listed. length listed.rule.entries ≤ 64) xs ys p f.within_limits.2,
    rw (sum_by-IsPermutation (λ listed. sum_by entry_octets listed.rule.entries) xs ys p)
        f.within_limits.3,
  );
  no_id_twice =
      λ id. rw (sum_by-IsPermutation (λ listed. cond (listed.rule.id == id) 1 0) xs ys p)
      (f.no_id_twice id);
  keeps_meanings =
      λ id. subst (λ now. IfSome (lookup old.rules id) (λ was. HasSameRule was now))
      (lookup-IsPermutation xs ys p f.no_id_twice id) (f.keeps_meanings id);
  keeps_retired =
      λ id. subst (λ now. IfSome (lookup old.rules id) (λ was. StaysRetired was now))
      (lookup-IsPermutation xs ys p f.no_id_twice id) (f.keeps_retired id);
}

first-part : (A B : Listed → Type 0) (o : Option Listed) → IfSome o (λ was. A was × B was)
    → IfSome o A
first-part A B None h = tt
first-part A B (Some was) h = h.0

second-part : (A B : Listed → Type 0) (o : Option Listed) → IfSome o (λ was. A was × B was)
    → IfSome o B
second-part A B None h = tt
second-part A B (Some was) h = h.1

-- none of the findings holds
pub Follows-from_none : (old : EditionData) (number : ℕ) (rules : List Listed)
    → number ≡ old.number + 1 → IsWithinLimits number rules → NoIdTwice rules
    → ((id : ℕ) → KeepsId old.rules rules id)
    → Follows old (record { number = number; rules = rules })
Follows-from_none old number rules next within once kept = record {
  next_number = next;
  within_limits = within;
  no_id_twice = once;
  keeps_meanings =
      λ id. first-part (λ was. HasSameRule was (lookup rules id))
      (λ was. StaysRetired was (lookup rules id)) (lookup old.rules id) (kept id);
  keeps_retired =
      λ id. second-part (λ was. HasSameRule was (lookup rules id))
      (λ was. StaysRetired was (lookup rules id)) (lookup old.rules id) (kept id);
}

both-parts : (A B : Listed → Type 0) (o : Option Listed) → IfSome o A → IfSome o B
    → IfSome o (λ was. A was × B was)
both-parts A B None h k = tt
both-parts A B (Some was) h k = (h, k)

-- an edition that follows keeps each RuleID
pub KeepsId-from_follows : (old new : EditionData) → Follows old new → (id : ℕ)
    → KeepsId old.rules new.rules id
KeepsId-from_follows old new follows id =
    both-parts (λ was. HasSameRule was (lookup new.rules id))
    (λ was. StaysRetired was (lookup new.rules id)) (lookup old.rules id)
    (follows.keeps_meanings id) (follows.keeps_retired id)

-- a RuleID that repeats an earlier one stands twice
repeat-twice : (rules : List Listed) (id : ℕ) → IsFirstRepeat rules id → NoIdTwice rules → ⊥
repeat-twice rules id r once =
    repeat-at rules id r.place (slice_get rules r.place) refl r.stands r.stood (once id)
  where
    repeat-at : (rules : List Listed) (id place : ℕ) (o : Option Listed) → slice_get rules place ≡ o
        → IsSomeAnd o (λ listed. listed.rule.id ≡ id) → 1 ≤ count_of id (take place rules)
        → count_of id rules ≤ 1 → ⊥
    repeat-at rules id place None e h stood once = h
    repeat-at rules id place (Some x) e h stood once =
        let at : get_or rules place x ≡ x = get_or_from_slice_get rules place x x e in
        let within : place < length rules = slice_get_within rules place x e in
        let more : count_of id (take (place + 1) rules) ≡ count_of id (take place rules) + 1 =
        count_by_more_yes (λ listed. listed.rule.id == id) rules place x within
        (eq-eqb (get_or rules place x).rule.id id (ap (λ z. z.rule.id) at ∙ h)) in
        let all : count_of id (take (place + 1) rules) ≤ count_of id rules =
        sum_by-take-le (λ listed. cond (listed.rule.id == id) 1 0) rules (place + 1) in
        omega arith

-- a loss of a RuleID keeps the new rules from following
lost-cases : (o now : Option Listed) (loss : Loss) → IsSomeAnd o (λ was. IsFirstLoss was now loss)
    → IfSome o (λ was. HasSameRule was now) → IfSome o (λ was. StaysRetired was now) → ⊥
lost-cases None now loss l k r = l
lost-cases (Some was) None IdGone l k r = k
lost-cases (Some was) None MeaningChanged l k r = k
lost-cases (Some was) None Revived l k r = k
lost-cases (Some was) (Some now) IdGone l k r = absurd cc
lost-cases (Some was) (Some now) MeaningChanged l k r = l k
lost-cases (Some was) (Some now) Revived l k r =
    let retired : now.live ≡ false = r l.1.0 in let live : now.live ≡ true = l.1.1 in absurd cc

refused : (old : EditionData) (number : ℕ) (rules : List Listed) (found : Finding)
    → IsFirstFinding old number rules found
    → Follows old (record { number = number; rules = rules }) → ⊥
refused old number rules _ (number_not_next h) f = h f.next_number
refused old number rules _ (too_large next h) f = h f.within_limits
refused old number rules _ (id_twice id next within repeated) f =
    repeat-twice rules id repeated f.no_id_twice
refused old number rules _ (lost id loss next within once lowest) f =
    lost-cases (lookup old.rules id) (lookup rules id) loss lowest.0 (f.keeps_meanings id)
    (f.keeps_retired id)

-- the four findings, where the numbers were compared as wider ones and the limits by a test
pub found-not_next : (old : EditionData) (number : ℕ) (rules : List Listed) (found : Finding)
    (given before : ℕ) → given ≡ number → before ≡ old.number → (given ≡ before + 1 → ⊥)
    → found ≡ record { number = 14; id = 0; entry = 0 } → IsFirstFinding old number rules found
found-not_next old number rules found given before g b differ e =
    subst (IsFirstFinding old number rules) (sym e) (number_not_next (λ next. differ (omega arith)))

-- where the number is the next one and a limit is exceeded, too-large is the finding
pub found-too_large : (old : EditionData) (number : ℕ) (rules : List Listed) (found : Finding)
    (given before : ℕ) (within : Bool) → given ≡ number → before ≡ old.number → given ≡ before + 1
    → IsTrue within ↔ IsWithinLimits number rules → within ≡ false
    → found ≡ record { number = 18; id = 0; entry = 0 } → IsFirstFinding old number rules found
found-too_large old number rules found given before within g b next limits e f =
    subst (IsFirstFinding old number rules) (sym f)
    (too_large (omega arith) (λ w. let holds : within ≡ true = limits.1 w in absurd cc))

-- where number and limits are right, id-twice is the finding, of the first RuleID that repeats one
pub found-id_twice : (old : EditionData) (number : ℕ) (rules : List Listed) (found : Finding)
    (id given before : ℕ) (within : Bool) → given ≡ number → before ≡ old.number
    → given ≡ before + 1 → IsTrue within ↔ IsWithinLimits number rules → within ≡ true
    → IsFirstRepeat rules id → found ≡ record { number = 3; id = id; entry = 0 }
    → IsFirstFinding old number rules found
found-id_twice old number rules found id given before within g b next limits e repeated f =
    subst (IsFirstFinding old number rules) (sym f)
    (id_twice id (omega arith) (limits.0 e) repeated)

-- where number and limits are right and no RuleID stands twice, the lowest loss is the finding
pub found-lost : (old : EditionData) (number : ℕ) (rules : List Listed) (found : Finding) (id : ℕ)
    (k : FindingKind) (given before : ℕ) (loss : Loss) (within : Bool) → given ≡ number
    → before ≡ old.number → given ≡ before + 1 → IsTrue within ↔ IsWithinLimits number rules
    → within ≡ true → NoIdTwice rules → IsLowestLoss old.rules rules id loss → k ≡ kind_of_loss loss
    → found ≡ finding k id → IsFirstFinding old number rules found
found-lost old number rules found id k given before loss within g b next limits e once lowest same
    f =
    subst (IsFirstFinding old number rules) (sym f)
    (subst (λ n. IsFirstFinding old number rules (finding n id)) (sym same)
    (lost id loss (omega arith) (limits.0 e) once lowest))

-- the same of the edition whose number and rules were read
pub IsFirstFinding-at : (old : EditionData) (n number : ℕ) (rs listed rules : List Listed)
    (found : Finding) → n ≡ old.number → rs ≡ old.rules → listed ≡ rules
    → IsFirstFinding (record { number = n; rules = rs }) number listed found
    → IsFirstFinding old number rules found
IsFirstFinding-at old n number rs listed rules found a b c first =
    subst (λ xs. IsFirstFinding old number xs found) c
    (subst (λ xs. IsFirstFinding (record { number = old.number; rules = xs }) number listed found) b
    (subst (λ m. IsFirstFinding (record { number = m; rules = rs }) number listed found) a first))

-- the sorted rules make an edition that follows
pub Follows-sorted : (old : EditionData) (n number : ℕ) (rs listed rules sorted : List Listed)
    → n ≡ old.number → rs ≡ old.rules → listed ≡ rules
    → Follows (record { number = n; rules = rs }) (record { number = number; rules = listed })
    → IsPermutation rules sorted → Follows old (record { number = number; rules = sorted })
Follows-sorted old n number rs listed rules sorted a b c follows p =
    Follows-IsPermutation old number rules sorted p
    (subst (λ xs. Follows old (record { number = number; rules = xs })) c
    (subst (λ xs. Follows (record { number = old.number; rules = xs })
    (record { number = number; rules = listed })) b
    (subst (λ m. Follows (record { number = m; rules = rs })
    (record { number = number; rules = listed })) a follows)))

-- the sorted rules are admitted
pub AreAdmitted-sorted : (listed rules sorted : List Listed) → listed ≡ rules
    → IsPermutation rules sorted → AreAdmitted listed → AreAdmitted sorted
AreAdmitted-sorted listed rules sorted e p admitted =
    All-permutation (λ listed. IsAdmitted listed.rule) rules sorted p (subst AreAdmitted e admitted)

-- what follows an edition, with its rules sorted, is an edition
pub IsEdition-next : (old : EditionData) (number : ℕ) (sorted : List Listed)
    → Follows old (record { number = number; rules = sorted })
    → IsNonDecreasingBy (λ listed. listed.rule.id) sorted → EndsChain old
    → IsEdition (record { number = number; rules = sorted })
IsEdition-next old number sorted follows rises ends = record {
  ascending = IsAscending-from_sorted sorted rises follows.no_id_twice;
  ends_chain = EndsChain-next old (record { number = number; rules = sorted }) ends follows;
}

-- where there is a finding, no edition that is made of the rules follows
none-follows : (old : EditionData) (number : ℕ) (rules : List Listed) (found : Finding)
    → IsFirstFinding old number rules found → (new : EditionData) → IsMadeOf number rules new
    → ¬ Follows old new
none-follows old number rules found first new made follows =
    refused old number rules found first
    (subst (λ n. Follows old (record { number = n; rules = rules })) made.0
    (Follows-IsPermutation old new.number new.rules rules
    (IsPermutation-sym rules new.rules made.1) follows))

-- where a finding is of edition and rules as they were read, no edition made of the rules follows
pub none-follows-at : (old : EditionData) (n number : ℕ) (rs listed rules : List Listed)
    (found : Finding) → n ≡ old.number → rs ≡ old.rules → listed ≡ rules
    → IsFirstFinding (record { number = n; rules = rs }) number listed found → (new : EditionData)
    → IsMadeOf number rules new → ¬ Follows old new
none-follows-at old n number rs listed rules found a b c first =
    none-follows old number rules found
    (IsFirstFinding-at old n number rs listed rules found a b c first)
