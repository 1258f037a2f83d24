-- What a command makes of its input.
use Rattle.std.specs.Prelude.{ℕ, List, ◌++◌, Option}
use Rattle.rule_model.specs.declared.finding.Finding.{Finding}

-- what a command prints, and the finding that ends it, if one does
pub record OutputData : Type 0 where
  pub text : List ℕ
  pub refused : Option Finding

-- a text in front
abbrev pub after_text : List ℕ → OutputData → OutputData
after_text text output = record output { text = text ++ output.text }
