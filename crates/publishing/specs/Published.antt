-- What becomes of an edition that is handed in: each rule is admitted, in the list's order, and
-- then the rules follow the edition before.
use Rattle.std.specs.Prelude.{List, [], ◌∷◌, Option, Some, None, Result, Err, map}
use Rattle.std.specs.Option.{option_or}
use Rattle.rule_model.specs.declared.finding.Finding.{Finding}
use Rattle.rule_model.specs.declared.raw.RawRule.{RawRule}
use Rattle.rule_model.specs.Findings.{finding_of}
use Rattle.rule_model.specs.RawData.{RawEditionData}
use Rattle.editions.specs.declared.listed.Listed.{Listed}
use Rattle.editions.specs.Data.{EditionData}
use Rattle.editions.specs.Followed.{followed}

-- what keeps a rule from being admitted
unfoldable pub refusal : RawRule → Option Finding
refusal raw = finding_of raw.rule

-- the finding of the first rule that has one
abbrev pub first_refusal : List RawRule → Option Finding
first_refusal [] = None
first_refusal (raw ∷ raws) = option_or (refusal raw) (first_refusal raws)

-- the rule as an edition lists it
abbrev pub listed_rule : RawRule → Listed
listed_rule raw = record { rule = raw.rule; live = raw.live }

-- the rules as an edition lists them
abbrev pub listed_rules : List RawRule → List Listed
listed_rules raws = map listed_rule raws

-- the finding of a rule comes before what follows
abbrev pub unless_refused : Option Finding → Result EditionData Finding → Result EditionData Finding
unless_refused None answer = answer
unless_refused (Some finding) answer = Err finding

-- the edition that is made of the one that is handed in, or the first finding: those of its rules,
-- and then what keeps them from following the old edition
unfoldable pub published : EditionData → RawEditionData → Result EditionData Finding
published old raw =
    unless_refused (first_refusal raw.rules) (followed old raw.number (listed_rules raw.rules))
