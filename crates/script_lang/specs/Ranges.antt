-- The ranges in which a script's devices and events are, so that the grammar can spell them, and
-- its limits.
use Rattle.std.specs.Prelude.{◌≡◌, ◌<◌, ◌≤◌, ℕ, ◌==◌, nat_eq, Bool, true, List, length}
use Rattle.std.specs.List.{list_any, AllByRecursion}
use Rattle.std.specs.HashSet.{HashSet, contains}
use Rattle.schc_ids.specs.Params.{IsParams}
pub use Rattle.schc_ids.specs.Limits.{max_devices, max_events}
use Rattle.rule_model.specs.declared.raw.DeviceLine.{DeviceLine}
use Rattle.rule_json.specs.Files.{have_own_numbers}
use Rattle.rule_json.specs.Written.{CanBeSpelt}
use Rattle.event_data.specs.Events.{Event, Down, Publish}
pub use Rattle.event_data.specs.Events.{HandsBytes}
use Rattle.script_lang.specs.ScriptData.{ScriptEventData}

-- each device has parameters that an end may be made with
abbrev pub HaveParams : List DeviceLine → Type 0
HaveParams devices = AllByRecursion (λ (device : DeviceLine). IsParams device.params) devices

-- no device has the number of another
abbrev pub HaveOwnNumbers : List DeviceLine → Type 0
HaveOwnNumbers devices = have_own_numbers devices ≡ true

-- a device with this number is declared
abbrev pub is_declared : List DeviceLine → ℕ → Bool
is_declared devices number = list_any (λ (device : DeviceLine). device.number == number) devices

-- each event hands down bytes, if it hands down a packet
abbrev pub HandBytes : List ScriptEventData → Type 0
HandBytes events = AllByRecursion (λ (e : ScriptEventData). HandsBytes e.event) events

-- a publication is one of every device and has the number 0; the device of any other event is
-- declared
abbrev pub IsOfDeclared : List DeviceLine → ℕ → Event → Type 0
IsOfDeclared devices device (Publish raw) = device ≡ 0
IsOfDeclared devices device event = is_declared devices device ≡ true

-- so it is with each event
abbrev pub AreDeclared : List DeviceLine → List ScriptEventData → Type 0
AreDeclared devices events =
    AllByRecursion (λ (e : ScriptEventData). IsOfDeclared devices e.device e.event) events

-- a packet that is handed down has at least one byte, and an edition that is published can be spelt
abbrev pub HasSpelling : Event → Type 0
HasSpelling (Down role packet) = 0 < length packet
HasSpelling (Publish raw) = CanBeSpelt raw
HasSpelling event = Unit {0}

-- so it is with each event
abbrev pub HaveSpellings : List ScriptEventData → Type 0
HaveSpellings events = AllByRecursion (λ (e : ScriptEventData). HasSpelling e.event) events

-- a script's devices and events are in their ranges and within the limits
abbrev pub InRange : List DeviceLine → List ScriptEventData → Type 0
InRange devices events =
    HaveParams devices
    × HaveOwnNumbers devices
    × (length devices ≤ max_devices)
    × HandBytes events
    × AreDeclared devices events
    × HaveSpellings events
    × (length events ≤ max_events)

-- a set has the numbers of the devices, and no other
abbrev pub AreNumbersOf : {S : Type 0} → HashSet ℕ S → List DeviceLine → Type 0
AreNumbersOf numbers devices = (n : ℕ) → contains nat_eq numbers n ≡ is_declared devices n
