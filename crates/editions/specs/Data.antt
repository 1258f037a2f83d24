-- An edition of the rules as contracts see it: a context (the set of rules of RFC 8724, section
-- 7.1) with a number.
use Rattle.std.specs.Prelude.{ℕ, ◌==◌, ◌<◌, ◌≤◌, List, [], Option, All, find, count_by, AllPairs}
use Rattle.rule_model.specs.Findings.{IsAdmitted}
use Rattle.editions.specs.declared.listed.Listed.{Listed}

-- the edition's number, and its rules in ascending order of RuleID
pub record EditionData : Type 0 where
  pub number : ℕ
  pub rules : List Listed

-- the edition that each chain begins with: number 0, without rules
abbrev pub first_edition : EditionData
first_edition = record { number = 0; rules = [] }

-- what is listed under the RuleID
abbrev pub lookup : List Listed → ℕ → Option Listed
lookup rules id = find (λ listed. listed.rule.id == id) rules

-- the RuleIDs rise from the first rule to the last
abbrev pub IsAscending : List Listed → Type 0
IsAscending rules = AllPairs (λ earlier later. earlier.rule.id < later.rule.id) rules

-- no RuleID stands twice
abbrev pub NoIdTwice : List Listed → Type 0
NoIdTwice rules = (id : ℕ) → count_by (λ listed. listed.rule.id == id) rules ≤ 1

-- each rule is admitted
abbrev pub AreAdmitted : List Listed → Type 0
AreAdmitted rules = All (λ listed. IsAdmitted listed.rule) rules

-- what holds of the rules of each edition: they are admitted, and stand in ascending order of
-- RuleID
pub record IsSound (edition : EditionData) : Type 0 where
  pub admitted : AreAdmitted edition.rules
  pub ascending : IsAscending edition.rules
