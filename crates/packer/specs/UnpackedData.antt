-- What was read from bits, as contracts see it.
use Rattle.std.specs.Prelude.{ℕ, List}

-- the RuleID, and the packet
pub record UnpackedData : Type 0 where
  pub rule_id : ℕ
  pub packet : List ℕ
