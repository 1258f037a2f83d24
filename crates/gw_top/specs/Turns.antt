-- An event of one device of a script.
use Rattle.std.specs.Prelude.{ℕ}
use Rattle.event_data.specs.Events.{Event}

-- an event of one device alone, and how many publications stand before it in the script
pub record TurnData : Type 0 where
  pub before : ℕ
  pub event : Event
