-- What contracts see of frames and of packets that are handed up.
use Rattle.std.specs.Prelude.{ℕ, List}

-- a frame on the link: a LoRaWAN port and payload (RFC 9011, section 5.1)
pub record FrameData : Type 0 where
  pub port : ℕ
  pub bytes : List ℕ

-- a packet that an end hands up, with the edition of rules that read it and the RuleID under which
-- it came
pub record HandUpData : Type 0 where
  pub edition : ℕ
  pub rule_id : ℕ
  pub packet : List ℕ
