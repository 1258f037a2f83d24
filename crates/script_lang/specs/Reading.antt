-- What makes a line that is written read back.
use Rattle.std.specs.Prelude.{◌≡◌, ◌<◌, ◌^◌, ℕ, List, Some}
use Rattle.std.specs.List.{AllByRecursion}
use Rattle.rule_model.specs.declared.raw.DeviceLine.{DeviceLine}
use Rattle.rule_json.specs.Written.{edition_text}
use Rattle.rule_json.specs.Texts.{edition_of}
use Rattle.event_data.specs.Events.{Event, Deliver, Publish, Offer, Allow}
use Rattle.script_lang.specs.ScriptData.{ScriptEventData}

-- the numbers of a device are in the ranges of their types
pub record HasNumbers (device : DeviceLine) : Type 0 where
  pub number : device.number < 2 ^ 16
  pub dev : device.params.iids.dev < 2 ^ 64
  pub app : device.params.iids.app < 2 ^ 64

abbrev pub HaveNumbers : List DeviceLine → Type 0
HaveNumbers devices = AllByRecursion HasNumbers devices

-- a publication has the device 0
abbrev pub IsEveryones : ℕ → Event → Type 0
IsEveryones device (Publish raw) = device ≡ 0
IsEveryones device event = Unit {0}

abbrev pub AreEveryones : List ScriptEventData → Type 0
AreEveryones events = AllByRecursion (λ (e : ScriptEventData). IsEveryones e.device e.event) events

-- the numbers of an event are in the ranges of their types, and the text of an edition that is
-- published reads as that edition
abbrev pub CanBeRead : Event → Type 0
CanBeRead (Deliver direction place) = place < 2 ^ 64
CanBeRead (Publish raw) = edition_of (edition_text raw) ≡ Some raw
CanBeRead (Offer role number) = number < 2 ^ 32
CanBeRead (Allow role number) = number < 2 ^ 32
CanBeRead event = Unit {0}

pub record EventReads (device : ℕ) (event : Event) : Type 0 where
  pub small : device < 2 ^ 16
  pub can : CanBeRead event

abbrev pub AllRead : List ScriptEventData → Type 0
AllRead events = AllByRecursion (λ (e : ScriptEventData). EventReads e.device e.event) events
