-- Restored fields, as contracts see them.
use Rattle.std.specs.Prelude.{ℕ, List}
use Rattle.rule_model.specs.declared.value.FieldValue.{FieldValue}

-- the fields, and the place of the bit after the residue
pub record RestoredData : Type 0 where
  pub fields : List FieldValue
  pub next : ℕ
