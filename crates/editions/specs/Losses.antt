-- What the next edition may do to the rules of an edition, and what it may not.
use Rattle.std.specs.Prelude.{ℕ, ◌≡◌, ◌≢◌, ◌<◌, ◌⊎◌, true, false, List, Option, None, IfSome}
use Rattle.std.specs.Prelude.{IsSomeAnd}
use Rattle.editions.specs.declared.listed.Listed.{Listed}
use Rattle.editions.specs.declared.losses.Loss.{Loss}
use Rattle.rule_model.specs.declared.finding.FindingKind.{FindingKind}
use Rattle.rule_model.specs.declared.finding.FindingKind.TheVariants as kind
use Rattle.editions.specs.declared.losses.Loss.TheVariants.{IdGone, MeaningChanged, Revived}
use Rattle.editions.specs.Data.{lookup}

-- In each of these, `was` is listed under a RuleID in the one edition, and `now` is what the other
-- lists under it.

-- the RuleID keeps its meaning
abbrev pub HasSameRule : Listed → Option Listed → Type 0
HasSameRule was now = IsSomeAnd now (λ listed. listed.rule ≡ was.rule)

-- what is retired stays retired
abbrev pub StaysRetired : Listed → Option Listed → Type 0
StaysRetired was now = was.live ≡ false → IfSome now (λ listed. listed.live ≡ false)

-- id-gone: nothing is listed under the RuleID
abbrev pub IsGone : Option Listed → Type 0
IsGone now = now ≡ None

-- meaning-changed: another rule is listed under the RuleID
abbrev pub HasOtherRule : Listed → Option Listed → Type 0
HasOtherRule was now = IsSomeAnd now (λ listed. listed.rule ≢ was.rule)

-- revived: a retired RuleID is live
abbrev pub IsRevived : Listed → Option Listed → Type 0
IsRevived was now = (was.live ≡ false) × IsSomeAnd now (λ listed. listed.live ≡ true)

-- the first of the three that holds, in the order of their numbers
abbrev pub IsFirstLoss : Listed → Option Listed → Loss → Type 0
IsFirstLoss was now IdGone = IsGone now
IsFirstLoss was now MeaningChanged = HasOtherRule was now
IsFirstLoss was now Revived = HasSameRule was now × IsRevived was now

-- the kind of the finding
abbrev pub kind_of_loss : Loss → FindingKind
kind_of_loss IdGone = kind.IdGone
kind_of_loss MeaningChanged = kind.MeaningChanged
kind_of_loss Revived = kind.Revived

-- the RuleID isn't listed in the one, or the other has its rule, and has it retired where the one
-- has
abbrev pub KeepsId : List Listed → List Listed → ℕ → Type 0
KeepsId old new id =
    IfSome (lookup old id)
    (λ was. HasSameRule was (lookup new id) × StaysRetired was (lookup new id))

-- the RuleID is listed in the one, and the other has this loss of it
abbrev pub LosesId : List Listed → List Listed → ℕ → Loss → Type 0
LosesId old new id loss = IsSomeAnd (lookup old id) (λ was. IsFirstLoss was (lookup new id) loss)

-- the lowest RuleID of which there is a loss, with its loss
abbrev pub IsLowestLoss : List Listed → List Listed → ℕ → Loss → Type 0
IsLowestLoss old new id loss = LosesId old new id loss
    × ((lower : ℕ) → lower < id → KeepsId old new lower)

-- the RuleID is listed in the one, and the other lacks it, lists it with another rule, or lists it
-- as live where it is retired in the one
abbrev pub DivergesAt : List Listed → List Listed → ℕ → Type 0
DivergesAt these those id =
    IsSomeAnd (lookup these id)
    (λ was. IsGone (lookup those id) ⊎ HasOtherRule was (lookup those id)
    ⊎ IsRevived was (lookup those id))
