-- What holds of an edition that is published.
use Rattle.std.proofs.Common.{◌≡◌, ◌+◌, List, [], ◌∷◌, ◌++◌, All, Option, Some, None, Result, Ok}
use Rattle.std.proofs.Common.{refl}
use Rattle.std.specs.List.{AllByRecursion}
use Rattle.std.specs.Option.{option_or}
use Rattle.std.proofs.lemmas.List.Elements.{All-from_recursion}
use Rattle.std.proofs.lemmas.List.Sorted.{All-permutation}
use Rattle.rule_model.specs.declared.finding.Finding.{Finding}
use Rattle.rule_model.specs.declared.raw.RawRule.{RawRule}
use Rattle.rule_model.specs.Findings.{IsAdmitted}
use Rattle.rule_model.specs.RawData.{RawEditionData}
use Rattle.rule_model.proofs.FindingsLemmas.{IsAdmitted-from_finding_of}
use Rattle.editions.specs.declared.listed.Listed.{Listed}
use Rattle.editions.specs.Data.{EditionData, IsAscending}
use Rattle.editions.specs.Follows.{Follows}
use Rattle.editions.specs.Chains.{IsChain, EndsChain, IsEdition}
use Rattle.editions.specs.Faults.{IsMadeOf}
use Rattle.editions.specs.Followed.{followed}
use Rattle.editions.proofs.ChainLemmas.{IsChain-push}
use Rattle.editions.proofs.FollowedLemmas.{Follows-from_followed, IsMadeOf-from_followed}
use Rattle.editions.proofs.FollowedLemmas.{IsAscending-from_followed, IsEdition-from_followed}
use Rattle.publishing.specs.Published.{refusal, first_refusal, listed_rules, unless_refused}
use Rattle.publishing.specs.Published.{published}

-- a rule has a finding before the others, or none
none-of-both : (this others : Option Finding) → option_or this others ≡ None → (this ≡ None)
    × (others ≡ None)
none-of-both None others e = (refl, e)
none-of-both (Some found) others e = absurd cc

-- where no finding is found, each rule is admitted
admitted : (raws : List RawRule) → first_refusal raws ≡ None
    → AllByRecursion (λ (listed : Listed). IsAdmitted listed.rule) (listed_rules raws)
unfolding refusal
admitted [] e = tt
admitted (raw ∷ raws) e =
    let none = none-of-both (refusal raw) (first_refusal raws) e in
    (IsAdmitted-from_finding_of raw.rule none.0, admitted raws none.1)

accepted : (first : Option Finding) (answer : Result EditionData Finding) (new : EditionData)
    → unless_refused first answer ≡ Ok new → (first ≡ None) × (answer ≡ Ok new)
accepted None answer new e = (refl, e)
accepted (Some found) answer new e = absurd cc

parts : (old : EditionData) (raw : RawEditionData) (new : EditionData) → published old raw ≡ Ok new
    → (first_refusal raw.rules ≡ None) × (followed old raw.number (listed_rules raw.rules) ≡ Ok new)
unfolding published
parts old raw new e =
    accepted (first_refusal raw.rules) (followed old raw.number (listed_rules raw.rules)) new e

-- it is what follows, of the listed rules
pub followed-from_published : (old : EditionData) (raw : RawEditionData) (new : EditionData)
    → published old raw ≡ Ok new → followed old raw.number (listed_rules raw.rules) ≡ Ok new
followed-from_published old raw new e = (parts old raw new e).1

-- it follows the old edition
pub Follows-from_published : (old : EditionData) (raw : RawEditionData) (new : EditionData)
    → published old raw ≡ Ok new → Follows old new
Follows-from_published old raw new e =
    Follows-from_followed old raw.number (listed_rules raw.rules) new
    (followed-from_published old raw new e)

-- its number is the next one
pub number-from_published : (old : EditionData) (raw : RawEditionData) (new : EditionData)
    → published old raw ≡ Ok new → new.number ≡ old.number + 1
number-from_published old raw new e = (Follows-from_published old raw new e).next_number

-- it has the number and exactly the rules that were handed in
pub IsMadeOf-from_published : (old : EditionData) (raw : RawEditionData) (new : EditionData)
    → published old raw ≡ Ok new → IsMadeOf raw.number (listed_rules raw.rules) new
IsMadeOf-from_published old raw new e =
    IsMadeOf-from_followed old raw.number (listed_rules raw.rules) new
    (followed-from_published old raw new e)

-- in ascending order of RuleID
pub IsAscending-from_published : (old : EditionData) (raw : RawEditionData) (new : EditionData)
    → published old raw ≡ Ok new → IsAscending new.rules
IsAscending-from_published old raw new e =
    IsAscending-from_followed old raw.number (listed_rules raw.rules) new
    (followed-from_published old raw new e)

-- all its rules are admitted
pub IsAdmitted-from_published : (old : EditionData) (raw : RawEditionData) (new : EditionData)
    → published old raw ≡ Ok new → All (λ listed. IsAdmitted listed.rule) new.rules
IsAdmitted-from_published old raw new e =
    All-permutation (λ (listed : Listed). IsAdmitted listed.rule) (listed_rules raw.rules) new.rules
    (IsMadeOf-from_published old raw new e).1
    (All-from_recursion (λ (listed : Listed). IsAdmitted listed.rule) (listed_rules raw.rules)
    (admitted raw.rules (parts old raw new e).0))

-- a chain with it at the end is a chain
pub IsChain-published : (earlier : List EditionData) (old : EditionData) (raw : RawEditionData)
    (new : EditionData) → IsChain (earlier ++ old ∷ []) → published old raw ≡ Ok new
    → IsChain ((earlier ++ old ∷ []) ++ new ∷ [])
IsChain-published earlier old raw new chain e =
    IsChain-push earlier old new chain (Follows-from_published old raw new e)

-- after the last edition of a chain it is an edition
pub IsEdition-from_published : (old : EditionData) (raw : RawEditionData) (new : EditionData)
    → EndsChain old → published old raw ≡ Ok new → IsEdition new
IsEdition-from_published old raw new ends e =
    IsEdition-from_followed old raw.number (listed_rules raw.rules) new ends
    (followed-from_published old raw new e)
