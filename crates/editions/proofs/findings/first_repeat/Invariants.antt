use Rattle.std.proofs.Common.{take}
use Rattle.editions.specs.Data.{NoIdTwice}
use Rattle.editions.proofs.findings.first_repeat.Given as goal

-- no RuleID stands twice among the rules passed
abbrev pub invariant-loop-place : goal.invariant-loop-place
invariant-loop-place l = NoIdTwice (take l.place l.rules)
