-- Why a rule isn't admitted.
use Rattle.std.specs.Prelude.{◌≡◌, Some}
use Rattle.rule_model.specs.Data.{RuleData}
use Rattle.rule_model.specs.Findings.{IsAdmitted, finding_of}
use Rattle.rule_admission.specs.declared.admission.AdmitFault.{AdmitFault}
use Rattle.rule_admission.specs.declared.admission.AdmitFault.TheVariants.{Found, Memory}

-- a finding is the rule's own, and the rule isn't admitted; want of memory may come at any rule
abbrev pub IsFaultOf : RuleData → AdmitFault → Type 0
IsFaultOf rule (Found finding) = (finding_of rule ≡ Some finding) × ¬ IsAdmitted rule
IsFaultOf rule Memory = Unit {0}
