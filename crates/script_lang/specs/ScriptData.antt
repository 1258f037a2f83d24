-- What contracts see of a script.
use Rattle.std.specs.Prelude.{ℕ, List}
use Rattle.rule_model.specs.declared.raw.DeviceLine.{DeviceLine}
use Rattle.event_data.specs.Events.{Event}

-- an event of a device; a publication is one of every device, and has the number 0 here
pub record ScriptEventData : Type 0 where
  pub device : ℕ
  pub event : Event

-- the devices that a script declares, and its events
pub record ScriptData : Type 0 where
  pub devices : List DeviceLine
  pub events : List ScriptEventData
