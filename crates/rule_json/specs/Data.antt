-- What the files of a command hold, as contracts see it.
use Rattle.std.specs.Prelude.{ℕ, List}
use Rattle.schc_ids.specs.declared.ends.Iids.{Iids}
use Rattle.schc_ids.specs.declared.ends.Direction.{Direction}
use Rattle.rule_model.specs.declared.raw.DeviceLine.{DeviceLine}
use Rattle.rule_model.specs.RawData.{RawEditionData}

-- a context: the devices, and the editions that are published
pub record ContextData : Type 0 where
  pub devices : List DeviceLine
  pub editions : List RawEditionData

-- work: the editions that are published, and packets of one direction with the identifiers of their
-- two ends
pub record WorkData : Type 0 where
  pub editions : List RawEditionData
  pub iids : Iids
  pub direction : Direction
  pub packets : List (List ℕ)
