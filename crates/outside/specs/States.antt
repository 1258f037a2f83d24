-- What a contract sees of a source and of a sink.
use Rattle.std.specs.Prelude.{ℕ, List, Option}

-- a source: the bytes that are left to be read, where it tells them, and how often it has failed
pub record SourceState : Type 0 where
  pub left : Option (List ℕ)
  pub faults : ℕ

-- a sink: the bytes that were written, where it tells them, and how often it has failed
pub record SinkState : Type 0 where
  pub written : Option (List ℕ)
  pub faults : ℕ
