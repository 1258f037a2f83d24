-- The names of findings, as they are printed.
use Rattle.std.specs.Prelude.{ℕ, ◌==◌, List, codes, Option, Some, None, find}
use Rattle.rule_model.specs.declared.finding.FindingKind.{FindingKind}
use Rattle.rule_model.specs.declared.finding.FindingKind.TheVariants as kind
use Rattle.rule_model.specs.Findings.{all_kinds, number_of}

unfoldable pub kind_name : FindingKind → List ℕ
kind_name kind.IdOutOfRange = codes "id-out-of-range"
kind_name kind.IdReserved = codes "id-reserved"
kind_name kind.IdTwice = codes "id-twice"
kind_name kind.MixedStack = codes "mixed-stack"
kind_name kind.FieldTwice = codes "field-twice"
kind_name kind.ServesNoDirection = codes "serves-no-direction"
kind_name kind.ShapeWrong = codes "shape-wrong"
kind_name kind.PairNotAllowed = codes "pair-not-allowed"
kind_name kind.TargetWrong = codes "target-wrong"
kind_name kind.MsbWrong = codes "msb-wrong"
kind_name kind.NotDroppable = codes "not-droppable"
kind_name kind.ComputeWrong = codes "compute-wrong"
kind_name kind.OrderWrong = codes "order-wrong"
kind_name kind.NumberNotNext = codes "number-not-next"
kind_name kind.IdGone = codes "id-gone"
kind_name kind.MeaningChanged = codes "meaning-changed"
kind_name kind.Revived = codes "revived"
kind_name kind.TooLarge = codes "too-large"

abbrev pub name_of : Option FindingKind → List ℕ
name_of None = codes "unknown"
name_of (Some k) = kind_name k

-- the name of the finding of this number; no other number is that of a finding
abbrev pub finding_name : ℕ → List ℕ
finding_name number = name_of (find (λ k. number_of k == number) all_kinds)
