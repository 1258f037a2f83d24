-- A rule has no finding exactly where it is admitted.
use Rattle.std.proofs.Common.{◌≡◌, ℕ, ◌+◌, false, List, [], ◌∷◌, Option, Some, None, position, ◌∙◌}
use Rattle.std.proofs.Common.{refl, sym, subst, ap}
use Rattle.std.specs.List.{AllByRecursion, enumerate_from, position_from}
use Rattle.std.specs.Option.{option_map}
use Rattle.std.proofs.lemmas.Iterator.Adapters.{position_from-zero}
use Rattle.rule_model.specs.declared.finding.Finding.{Finding}
use Rattle.rule_model.specs.declared.finding.FindingKind.{FindingKind}
use Rattle.rule_model.specs.declared.finding.FindingKind.TheVariants as kind
use Rattle.rule_model.specs.Data.{RuleData}
use Rattle.rule_model.specs.Findings.{place_of, found_at, first_among, finding_of, rule_kinds}
use Rattle.rule_model.specs.Findings.{IsAdmitted}

-- there is no finding only where there is none at the place, and none of the others
found_at-none : (rule : RuleData) (k : FindingKind) (place : Option ℕ) (rest : Option Finding)
    → found_at rule k place rest ≡ None → (place ≡ None) × (rest ≡ None)
found_at-none rule k None rest h = (refl, h)
found_at-none rule k (Some entry) rest h = absurd cc

-- where there is no finding of the kinds, there is none of each
first_among-none : (rule : RuleData) (kinds : List FindingKind) → first_among rule kinds ≡ None
    → AllByRecursion (λ k. place_of k rule ≡ None) kinds
first_among-none rule [] h = tt
first_among-none rule (k ∷ kinds) h =
    let none = found_at-none rule k (place_of k rule) (first_among rule kinds) h in
    (none.0, first_among-none rule kinds none.1)

-- no place has what never holds
never_from : {A : Type 0} (i : ℕ) (xs : List A) → position_from (λ x. false) i xs ≡ None
never_from i [] = refl
never_from i (x ∷ xs) = never_from (i + 1) xs

never : {A : Type 0} (xs : List A) → position (λ x. false) xs ≡ None
never xs = position_from-zero (λ x. false) xs ∙ never_from 0 xs

-- a rule without finding is admitted
pub IsAdmitted-from_finding_of : (rule : RuleData) → finding_of rule ≡ None → IsAdmitted rule
IsAdmitted-from_finding_of rule h some =
    let none = first_among-none rule rule_kinds h in
    let of_edition =
    ap (option_map (λ before. before + 1)) (never (enumerate_from 0 rule.entries)) in
    elim some as (λ (k : FindingKind). place_of k rule ≡ None) [
      | kind.IdOutOfRange ↦ none.0
      | kind.IdReserved ↦ none.1.0
      | kind.IdTwice ↦ of_edition
      | kind.MixedStack ↦ none.1.1.0
      | kind.FieldTwice ↦ none.1.1.1.0
      | kind.ServesNoDirection ↦ none.1.1.1.1.0
      | kind.ShapeWrong ↦ none.1.1.1.1.1.0
      | kind.PairNotAllowed ↦ none.1.1.1.1.1.1.0
      | kind.TargetWrong ↦ none.1.1.1.1.1.1.1.0
      | kind.MsbWrong ↦ none.1.1.1.1.1.1.1.1.0
      | kind.NotDroppable ↦ none.1.1.1.1.1.1.1.1.1.0
      | kind.ComputeWrong ↦ none.1.1.1.1.1.1.1.1.1.1.0
      | kind.OrderWrong ↦ none.1.1.1.1.1.1.1.1.1.1.1.0
      | kind.NumberNotNext ↦ of_edition
      | kind.IdGone ↦ of_edition
      | kind.MeaningChanged ↦ of_edition
      | kind.Revived ↦ of_edition
      | kind.TooLarge ↦ of_edition
    ]

-- where a rule is admitted, there is no finding of the kinds
first_among-admitted : (rule : RuleData) (kinds : List FindingKind) → IsAdmitted rule
    → first_among rule kinds ≡ None
first_among-admitted rule [] h = refl
first_among-admitted rule (k ∷ kinds) h =
    subst (λ place. found_at rule k place (first_among rule kinds) ≡ None) (sym (h k))
    (first_among-admitted rule kinds h)

-- an admitted rule has no finding
pub finding_of-IsAdmitted : (rule : RuleData) → IsAdmitted rule → finding_of rule ≡ None
finding_of-IsAdmitted rule h = first_among-admitted rule rule_kinds h
