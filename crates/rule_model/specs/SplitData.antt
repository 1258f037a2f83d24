-- A split packet as contracts see it.
use Rattle.std.specs.Prelude.{ℕ, List}
use Rattle.rule_model.specs.declared.value.FieldValue.{FieldValue}

-- the fields in packet order, and the byte at which the payload begins
pub record SplitData : Type 0 where
  pub fields : List FieldValue
  pub payload_from : ℕ
