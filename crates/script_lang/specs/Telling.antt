-- What a line tells is in its ranges.
use Rattle.std.specs.Prelude.{◌≡◌, ◌<◌, ℕ, false, List, length}
use Rattle.schc_bits.specs.Bits.{AreBytes}
use Rattle.schc_ids.specs.Params.{IsParams}
use Rattle.rule_model.specs.declared.raw.DeviceLine.{DeviceLine}
use Rattle.event_data.specs.Events.{Event, Down, Publish}
use Rattle.script_lang.specs.Ranges.{is_declared, HandsBytes, IsOfDeclared, HasSpelling}
use Rattle.script_lang.specs.declared.lines.Told.{Told}
use Rattle.script_lang.specs.declared.lines.Told.TheVariants.{Nothing, Declares, Happens}

-- an event of one device, in its ranges
abbrev pub IsOneDevices : Event → Type 0
IsOneDevices (Down role packet) = AreBytes packet × (0 < length packet)
IsOneDevices (Publish raw) = ⊥
IsOneDevices event = Unit {0}

-- an event that a script with these devices can have
pub record CanHappen (devices : List DeviceLine) (device : ℕ) (event : Event) : Type 0 where
  pub declared : IsOfDeclared devices device event
  pub bytes : HandsBytes event
  pub spelling : HasSpelling event

-- what a line tells after these devices is in its ranges
abbrev pub IsInRange : List DeviceLine → Told → Type 0
IsInRange devices Nothing = Unit {0}
IsInRange devices (Declares device) = IsParams device.params
    × (is_declared devices device.number ≡ false)
IsInRange devices (Happens e) = CanHappen devices e.device e.event
