use Rattle.std.proofs.Common.{◌≡◌, ◌∙◌, None, Some, sym}
use Rattle.rule_model.proofs.FindingsLemmas.{IsAdmitted-from_finding_of, finding_of-IsAdmitted}
use Rattle.rule_admission.proofs.admission.admit.Goals as goal

pub new-requires : goal.new-requires
new-requires c = IsAdmitted-from_finding_of c.args.rule (sym c.in-None.ensures)

pub returns-in-Some-clause-err : goal.returns-in-Some-clause-err
returns-in-Some-clause-err c = (
  sym c.in-Some.ensures,
  λ admitted. let both : Some c.in-Some.finding ≡ None = c.in-Some.ensures
      ∙ finding_of-IsAdmitted c.args.rule admitted in absurd cc,
)
