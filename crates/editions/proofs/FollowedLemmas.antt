-- The edition that comes next, as it is computed and as it is described.
use Rattle.std.proofs.Common.{◌≡◌, ℕ, ◌==◌, ◌+◌, ◌≤◌, Bool, true, false, ◌&&◌, nat_le, not, cond}
use Rattle.std.proofs.Common.{List, length, All, Option, Some, None, Ok, Err, ◌∙◌, refl, sym, ap}
use Rattle.std.proofs.Common.{subst, eqb-true, eq-eqb, ne_eqb}
use Rattle.std.specs.Bool.{Decides}
use Rattle.std.specs.List.{list_all}
use Rattle.std.proofs.lemmas.Bool.{leb-true, le-leb, false_from_ne_true}
use Rattle.std.proofs.lemmas.Bool.Decides.{Decides-and, Decides-like, Decides-by_and}
use Rattle.std.proofs.lemmas.List.Sorted.{IsPermutation-sym}
use Rattle.rule_model.specs.declared.finding.Finding.{Finding}
use Rattle.rule_model.specs.declared.finding.FindingKind.TheVariants as finding_kind
use Rattle.editions.specs.declared.listed.Listed.{Listed}
use Rattle.editions.specs.declared.losses.LostId.{LostId}
use Rattle.editions.specs.Data.{EditionData, IsAscending}
use Rattle.editions.specs.Follows.{Follows, IsWithinLimits, target_octets, IsFirstFinding, finding}
use Rattle.editions.specs.Follows.{number_not_next, too_large, id_twice, lost}
use Rattle.editions.specs.Chains.{EndsChain, IsEdition}
use Rattle.editions.specs.Faults.{IsMadeOf}
use Rattle.editions.specs.Followed.{is_within_limits, first_repeat, lowest_loss, repeat_or_loss}
use Rattle.editions.specs.Followed.{first_finding, by_id, unless_found, followed}
use Rattle.editions.proofs.ChainLemmas.{EndsChain-next}
use Rattle.editions.proofs.LookupLemmas.{KeepsId-from_kept}
use Rattle.editions.proofs.RepeatLemmas.{first_repeat-none, NoIdTwice-from_first_repeat}
use Rattle.editions.proofs.RepeatLemmas.{first_repeat-found}
use Rattle.editions.proofs.LossLemmas.{AreKept-from_lowest_loss, lowest_loss-none}
use Rattle.editions.proofs.LossLemmas.{lowest_loss-found}
use Rattle.editions.proofs.ByIdLemmas.{by_id-IsPermutation, by_id-ascending, by_id-unique}
use Rattle.editions.proofs.FollowLemmas.{Follows-IsPermutation, Follows-from_none}
use Rattle.editions.proofs.FollowLemmas.{KeepsId-from_follows}

at_most : (n m : ℕ) → Decides (nat_le n m) (n ≤ m)
at_most n m = (leb-true n m, le-leb n m)

-- the test of the limits holds exactly within them
pub is_within_limits-Decides : (number : ℕ) (rules : List Listed)
    → Decides (is_within_limits number rules) (IsWithinLimits number rules)
unfolding is_within_limits
is_within_limits-Decides number rules =
    Decides-like
    (nat_le number 256 && nat_le (length rules) 200 && list_all
    (λ (listed : Listed). nat_le (length listed.rule.entries) 64) rules && nat_le
    (target_octets rules) 262144)
    (λ (h : (((number ≤ 256) × (length rules ≤ 200))
    × All (λ listed. length listed.rule.entries ≤ 64) rules) × (target_octets rules ≤ 262144)).
    (h.0.0.0, h.0.0.1, h.0.1, h.1))
    (λ h. (((h.0, h.1), h.2), h.3))
    (Decides-and _ _
    (Decides-and _ _
    (Decides-and _ _ (at_most number 256) (at_most (length rules) 200))
    (Decides-by_and (λ listed. nat_le (length listed.rule.entries) 64)
    (λ listed. length listed.rule.entries ≤ 64)
    (list_all (λ listed. nat_le (length listed.rule.entries) 64))
    (λ listed. at_most (length listed.rule.entries) 64) refl (λ _ _. refl) rules))
    (at_most (target_octets rules) 262144))

-- the first finding by the two tests
abbrev found_by : Bool → Bool → Option Finding → Option Finding
found_by next within rest =
    cond (not next) (Some (finding finding_kind.NumberNotNext 0))
    (cond (not within) (Some (finding finding_kind.TooLarge 0)) rest)

first_finding-at : (old : EditionData) (number : ℕ) (rules : List Listed) (next within : Bool)
    (repeated : Option ℕ) (low : Option LostId) → (number == old.number + 1) ≡ next
    → is_within_limits number rules ≡ within → first_repeat rules ≡ repeated
    → lowest_loss old.rules rules ≡ low
    → first_finding old number rules ≡ found_by next within (repeat_or_loss repeated low)
unfolding first_finding
first_finding-at old number rules next within repeated low a b c d =
    ap (λ (v : Bool). found_by v (is_within_limits number rules)
    (repeat_or_loss (first_repeat rules) (lowest_loss old.rules rules))) a
    ∙ (ap (λ v. found_by next v (repeat_or_loss (first_repeat rules) (lowest_loss old.rules rules)))
    b
    ∙ (ap (λ r. found_by next within (repeat_or_loss r (lowest_loss old.rules rules))) c
    ∙ ap (λ l. found_by next within (repeat_or_loss repeated l)) d))

-- the finding that holds first is computed
pub first_finding-found : (old : EditionData) (number : ℕ) (rules : List Listed) (found : Finding)
    → IsAscending old.rules → IsFirstFinding old number rules found
    → first_finding old number rules ≡ Some found
first_finding-found old number rules _ asc (number_not_next h) =
    first_finding-at old number rules false _ _ _ (ne_eqb number (old.number + 1) h) refl refl refl
first_finding-found old number rules _ asc (too_large next h) =
    first_finding-at old number rules true false _ _ (eq-eqb number (old.number + 1) next)
    (false_from_ne_true (is_within_limits number rules)
    (λ e. h ((is_within_limits-Decides number rules).0 e))) refl refl
first_finding-found old number rules _ asc (id_twice id next within repeated) =
    first_finding-at old number rules true true (Some id) _ (eq-eqb number (old.number + 1) next)
    ((is_within_limits-Decides number rules).1 within) (first_repeat-found rules id repeated)
    refl
first_finding-found old number rules _ asc (lost id loss next within once lowest) =
    first_finding-at old number rules true true None (Some (record { id = id; loss = loss }))
    (eq-eqb number (old.number + 1) next) ((is_within_limits-Decides number rules).1 within)
    (first_repeat-none rules once) (lowest_loss-found old.rules rules id loss asc lowest)

-- what follows has no finding
pub first_finding-none : (old : EditionData) (number : ℕ) (rules : List Listed)
    → IsAscending old.rules → Follows old (record { number = number; rules = rules })
    → first_finding old number rules ≡ None
first_finding-none old number rules asc follows =
    first_finding-at old number rules true true None None
    (eq-eqb number (old.number + 1) follows.next_number)
    ((is_within_limits-Decides number rules).1 follows.within_limits)
    (first_repeat-none rules follows.no_id_twice)
    (lowest_loss-none old.rules rules asc
    (λ id. KeepsId-from_follows old (record { number = number; rules = rules }) follows id))

none-parts : (next within : Bool) (repeated : Option ℕ) (low : Option LostId)
    → found_by next within (repeat_or_loss repeated low) ≡ None → (next ≡ true) × (within ≡ true)
    × (repeated ≡ None) × (low ≡ None)
none-parts false within repeated low e = absurd cc
none-parts true false repeated low e = absurd cc
none-parts true true (Some id) low e = absurd cc
none-parts true true None (Some low) e = absurd cc
none-parts true true None None e = (refl, refl, refl, refl)

-- and what has none follows
pub Follows-from_first_finding : (old : EditionData) (number : ℕ) (rules : List Listed)
    → first_finding old number rules ≡ None
    → Follows old (record { number = number; rules = rules })
Follows-from_first_finding old number rules e =
    let none =
    none-parts (number == old.number + 1) (is_within_limits number rules) (first_repeat rules)
    (lowest_loss old.rules rules)
    (sym (first_finding-at old number rules _ _ _ _ refl refl refl refl) ∙ e) in
    Follows-from_none old number rules (eqb-true number (old.number + 1) none.0)
    ((is_within_limits-Decides number rules).0 none.1)
    (NoIdTwice-from_first_repeat rules none.2)
    (KeepsId-from_kept rules old.rules (AreKept-from_lowest_loss old.rules rules none.3))

-- the edition that follows is the computed one
pub followed-Ok : (old : EditionData) (number : ℕ) (rules : List Listed) (new : EditionData)
    → IsAscending old.rules → IsMadeOf number rules new → Follows old new → IsAscending new.rules
    → followed old number rules ≡ Ok new
unfolding followed
followed-Ok old number rules new asc made follows rises =
    let given : Follows old (record { number = number; rules = rules }) =
    subst (λ n. Follows old (record { number = n; rules = rules })) made.0
    (Follows-IsPermutation old new.number new.rules rules
    (IsPermutation-sym rules new.rules made.1) follows) in
    let sorted : by_id rules ≡ new.rules =
    by_id-unique rules new.rules given.no_id_twice made.1 rises in
    ap (λ o. unless_found o (record { number = number; rules = by_id rules }))
    (first_finding-none old number rules asc given)
    ∙ (ap (λ rs. Ok (record { number = number; rules = rs })) sorted
    ∙ ap (λ n. Ok (record { number = n; rules = new.rules })) (sym made.0))

-- the finding that holds first is the computed answer
pub followed-Err : (old : EditionData) (number : ℕ) (rules : List Listed) (found : Finding)
    → IsAscending old.rules → IsFirstFinding old number rules found
    → followed old number rules ≡ Err found
unfolding followed
followed-Err old number rules found asc first =
    ap (λ o. unless_found o (record { number = number; rules = by_id rules }))
    (first_finding-found old number rules found asc first)

unless_found-Ok : (o : Option Finding) (edition new : EditionData) → unless_found o edition ≡ Ok new
    → (o ≡ None) × (edition ≡ new)
unless_found-Ok None edition new e = (refl, cc)
unless_found-Ok (Some found) edition new e = absurd cc

followed-parts : (old : EditionData) (number : ℕ) (rules : List Listed) (new : EditionData)
    → followed old number rules ≡ Ok new → (first_finding old number rules ≡ None)
    × (record { number = number; rules = by_id rules } ≡ new)
unfolding followed
followed-parts old number rules new e =
    unless_found-Ok (first_finding old number rules)
    (record { number = number; rules = by_id rules }) new e

-- the computed edition follows the old one
pub Follows-from_followed : (old : EditionData) (number : ℕ) (rules : List Listed)
    (new : EditionData) → followed old number rules ≡ Ok new → Follows old new
Follows-from_followed old number rules new e =
    let parts = followed-parts old number rules new e in
    subst (Follows old) parts.1
    (Follows-IsPermutation old number rules (by_id rules) (by_id-IsPermutation rules)
    (Follows-from_first_finding old number rules parts.0))

-- it has the number and exactly the given rules
pub IsMadeOf-from_followed : (old : EditionData) (number : ℕ) (rules : List Listed)
    (new : EditionData) → followed old number rules ≡ Ok new → IsMadeOf number rules new
IsMadeOf-from_followed old number rules new e =
    subst (IsMadeOf number rules) (followed-parts old number rules new e).1
    (refl, by_id-IsPermutation rules)

-- in ascending order
pub IsAscending-from_followed : (old : EditionData) (number : ℕ) (rules : List Listed)
    (new : EditionData) → followed old number rules ≡ Ok new → IsAscending new.rules
IsAscending-from_followed old number rules new e =
    let parts = followed-parts old number rules new e in
    subst (λ (edition : EditionData). IsAscending edition.rules) parts.1
    (by_id-ascending rules (Follows-from_first_finding old number rules parts.0).no_id_twice)

-- after the last edition of a chain it is an edition
pub IsEdition-from_followed : (old : EditionData) (number : ℕ) (rules : List Listed)
    (new : EditionData) → EndsChain old → followed old number rules ≡ Ok new → IsEdition new
IsEdition-from_followed old number rules new ends e = record {
  ascending = IsAscending-from_followed old number rules new e;
  ends_chain = EndsChain-next old new ends (Follows-from_followed old number rules new e);
}
