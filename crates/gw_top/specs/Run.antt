-- The run of a script, and what is printed for it.
use Rattle.std.specs.Prelude.{ℕ, ◌+◌, ◌==◌, Bool, true, false, ◌||◌, if◌then◌else◌, List, [], ◌∷◌}
use Rattle.std.specs.Prelude.{◌++◌, map, take, fold, Result, Ok, Err}
use Rattle.std.specs.List.{AllByRecursion, filter}
use Rattle.schc_ids.specs.Params.{default_params}
use Rattle.schc_ids.specs.declared.ends.EndParams.{EndParams}
use Rattle.rule_model.specs.declared.finding.Finding.{Finding}
use Rattle.rule_model.specs.declared.raw.DeviceLine.{DeviceLine}
use Rattle.editions.specs.Data.{EditionData, first_edition}
use Rattle.publishing.specs.Published.{published}
use Rattle.event_data.specs.Events.{Event, Down, Slot, Deliver, Tick, Abort, Publish, Offer, Allow}
use Rattle.event_data.specs.declared.outcomes.Line.{Line}
use Rattle.event_data.specs.declared.outcomes.Line.TheVariants.{Published, Refused, NoFrame}
use Rattle.event_data.specs.declared.outcomes.Line.TheVariants.{NoEdition}
use Rattle.event_data.specs.declared.outcomes.StepFault.{StepFault}
use Rattle.event_data.specs.declared.outcomes.StepFault.TheVariants as step_fault
use Rattle.two_ends.specs.World.{WorldData, step, last_edition}
use Rattle.two_ends.specs.History.{History, start, run}
use Rattle.two_ends.specs.Safe.{IsHeadline}
use Rattle.script_lang.specs.ScriptData.{ScriptEventData, ScriptData}
use Rattle.transcripts.specs.Lines.{line_text}

-- The worlds of a script's devices.

-- a device, and what came to pass in its world
pub record DeviceRun : Type 0 where
  pub device : DeviceLine
  pub history : History

-- an edition is published
abbrev pub is_publication : Event → Bool
is_publication (Publish raw) = true
is_publication event = false

-- the event is one of the world of the device with this number: one of its own, or a publication,
-- which is an event of every device's world
abbrev pub is_event_of : ℕ → ScriptEventData → Bool
is_event_of number e = is_publication e.event || (e.device == number)

-- the events of the world of the device with this number, in the script's order
abbrev pub events_of : ℕ → List ScriptEventData → List Event
events_of number events =
    map (λ (e : ScriptEventData). e.event) (filter (is_event_of number) events)

-- a device's world after these events of a script
abbrev pub device_run : List ScriptEventData → DeviceLine → DeviceRun
device_run events device =
    record { device = device; history = run (events_of device.number events) (start device.params) }

-- the parameters of the device with this number. A script's events are of devices that it declares
abbrev pub params_of : ℕ → List DeviceLine → EndParams
params_of number [] = default_params (record { dev = 0; app = 0 })
params_of number (device ∷ devices) =
    if device.number == number then device.params else params_of number devices

-- the world of the device with this number, after these events of a script
unfoldable pub world_of : ℕ → List DeviceLine → List ScriptEventData → WorldData
world_of number devices events =
    (run (events_of number events) (start (params_of number devices))).world

-- The editions that a script publishes.

-- the chain with what became of one more edition that was handed in
abbrev pub chain_with : List EditionData → Result EditionData Finding → List EditionData
chain_with chain (Ok edition) = chain ++ edition ∷ []
chain_with chain (Err finding) = chain

-- the chain after an event
abbrev pub chain_next : List EditionData → Event → List EditionData
chain_next chain (Publish raw) = chain_with chain (published (last_edition chain) raw)
chain_next chain event = chain

-- the chain after these events of a script: it is there without any device, and the same in the
-- world of each
unfoldable pub chain_of : List ScriptEventData → List EditionData
chain_of events =
    fold (λ chain (e : ScriptEventData). chain_next chain e.event) (first_edition ∷ []) events

-- The outcomes of a script's events.

-- the outcome of an event as a line: two faults have one, a frame that was never sent and an
-- edition that the chain lacks. The fault of a step is never `Memory`
abbrev pub line_of : Result Line StepFault → Line
line_of (Ok line) = line
line_of (Err (step_fault.NoSuchFrame number)) = NoFrame
line_of (Err (step_fault.NoSuchEdition number)) = NoEdition
line_of (Err step_fault.Memory) = NoFrame

-- the line of an edition that is handed in: it is published, or has a finding
abbrev pub published_line : Result EditionData Finding → Line
published_line (Ok edition) = Published edition.number
published_line (Err finding) = Refused finding

-- the outcome of an event: that of a publication is the chain's, that of any other is its device's
-- world's
abbrev pub outcome_at : List EditionData → WorldData → Event → Line
outcome_at chain world (Publish raw) = published_line (published (last_edition chain) raw)
outcome_at chain world event = line_of (step world event).1

-- the outcome of an event after those before it
unfoldable pub outcome : List DeviceLine → List ScriptEventData → ScriptEventData → Line
outcome devices before e = outcome_at (chain_of before) (world_of e.device devices before) e.event

-- the outcomes of events after those before them, each in turn
abbrev pub outcomes_after : List DeviceLine → List ScriptEventData → List ScriptEventData
    → List Line
outcomes_after devices before [] = []
outcomes_after devices before (e ∷ events) =
    outcome devices before e ∷ outcomes_after devices (before ++ e ∷ []) events

-- the run of a script: for each device what came to pass in its world, and the outcome of each
-- event in the script's order
pub record RunData : Type 0 where
  pub devices : List DeviceRun
  pub outcomes : List Line

-- the run of a script
abbrev pub run_of : ScriptData → RunData
run_of script =
    record {
      devices = map (device_run script.events) script.devices;
      outcomes = outcomes_after script.devices [] script.events;
    }

-- What is printed.

-- the lines of these events with these outcomes, the first of which has this place
abbrev pub lines_from : ℕ → List ScriptEventData → List Line → List ℕ
lines_from place [] lines = []
lines_from place (e ∷ events) [] = []
lines_from place (e ∷ events) (line ∷ lines) =
    line_text e.device e.event line place ++ lines_from (place + 1) events lines

-- what is printed for the run of a script
abbrev pub printed : ScriptData → RunData → List ℕ
printed script the_run = lines_from 1 script.events the_run.outcomes

-- What holds in each run.

-- the script with its first events alone
abbrev pub first_events : ℕ → ScriptData → ScriptData
first_events n script = record script { events = take n script.events }

-- in a device's world after these events each packet that was handed up is one that was handed down
-- earlier at the other end, but for fields that its rule drops, written and read by one rule of the
-- editions published there, and each session that was reported delivered was put together before:
-- what came in one frame always, all else where the checks and the run are as the headline asks
abbrev pub IsSafeDevice : List ScriptEventData → DeviceRun → Type 0
IsSafeDevice events one =
    IsHeadline one.device.params (events_of one.device.number events) one.history

-- so it is in each device's world, after each event of the script
abbrev pub IsSafeRun : ScriptData → Type 0
IsSafeRun script =
    (n : ℕ) → let first : ScriptData = first_events n script in
    AllByRecursion (IsSafeDevice first.events) (run_of first).devices
