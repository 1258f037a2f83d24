use Rattle.std.proofs.Common.{◌≡◌, drop}
use Rattle.rule_model.specs.Findings.{all_different}
use Rattle.rule_admission.proofs.targets.all_different.Given as goal

abbrev pub invariant-loop-i : goal.invariant-loop-i
invariant-loop-i l = all_different (drop l.i l.targets) ≡ all_different l.targets
