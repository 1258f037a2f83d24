-- Why an edition that is handed in isn't published.
use Rattle.std.specs.Prelude.{◌≡◌, Option, Some, Result, Err}
use Rattle.rule_model.specs.declared.finding.Finding.{Finding}
use Rattle.editions.specs.Data.{EditionData}
use Rattle.publishing.specs.declared.publication.PublishFault.{PublishFault}
use Rattle.publishing.specs.declared.publication.PublishFault.TheVariants.{Found, Memory}

-- a finding is this one, and want of memory may come at any rules
abbrev pub IsFoundIn : Option Finding → PublishFault → Type 0
IsFoundIn first (Found finding) = first ≡ Some finding
IsFoundIn first Memory = Unit {0}

-- a finding is the answer's, and want of memory may come at any answer
abbrev pub IsFindingOf : Result EditionData Finding → PublishFault → Type 0
IsFindingOf answer (Found finding) = answer ≡ Err finding
IsFindingOf answer Memory = Unit {0}
