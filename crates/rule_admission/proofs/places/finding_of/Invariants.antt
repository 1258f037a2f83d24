use Rattle.std.proofs.Common.{◌≡◌, drop}
use Rattle.rule_model.specs.Findings.{first_among}
use Rattle.rule_admission.proofs.places.finding_of.Given as goal

abbrev pub invariant-loop-kind : goal.invariant-loop-kind
invariant-loop-kind l = first_among l.rule (drop l.kind-index l.kinds) ≡ first_among l.rule l.kinds
