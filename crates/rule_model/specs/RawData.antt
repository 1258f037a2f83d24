-- An edition of rules before it is looked at, as contracts see it.
use Rattle.std.specs.Prelude.{ℕ, List}
use Rattle.rule_model.specs.declared.raw.RawRule.{RawRule}

-- the edition's number, and its rules in the order in which they were handed in
pub record RawEditionData : Type 0 where
  pub number : ℕ
  pub rules : List RawRule
