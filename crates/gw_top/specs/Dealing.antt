-- The events of a script, dealt out to its devices.
use Rattle.std.specs.Prelude.{◌≡◌, ℕ, ◌+◌, ◌-◌, true, if◌then◌else◌, nat_eq}
use Rattle.std.specs.Prelude.{List, [], ◌∷◌, ◌++◌, length, map, take, drop, fold}
use Rattle.std.specs.Prelude.{Option, Some, None, option_map, Result}
use Rattle.std.specs.List.{filter}
use Rattle.std.specs.Option.{unwrap_or}
use Rattle.std.specs.Borrow.{Bor}
use Rattle.indexmap.specs.IndexMap.{get}
use Rattle.rule_model.specs.declared.raw.DeviceLine.{DeviceLine}
use Rattle.event_data.specs.Events.{Event, view_event}
use Rattle.event_data.specs.declared.events.WorldEvent.{WorldEvent}
use Rattle.event_data.specs.declared.outcomes.Line.{Line}
use Rattle.event_data.specs.declared.outcomes.StepFault.{StepFault}
use Rattle.two_ends.specs.World.{WorldData, step}
use Rattle.script_lang.specs.Ranges.{is_declared}
use Rattle.script_lang.specs.ScriptData.{ScriptEventData}
use Rattle.gw_top.specs.Run.{is_publication, line_of}
use Rattle.gw_top.specs.Shares.{first_world, is_own}
use Rattle.gw_top.specs.Turns.{TurnData}
use Rattle.gw_top.specs.declared.dealing.Dealt.{Dealt}

-- What is dealt out.

-- the publications among these events, in the script's order
abbrev pub publications_in : List ScriptEventData → List Event
publications_in events =
    map (λ (e : ScriptEventData). e.event)
    (filter (λ (e : ScriptEventData). is_publication e.event) events)

-- how many publications stand before the events that follow this one
abbrev pub before_next : ℕ → ScriptEventData → ℕ
before_next before e = if is_publication e.event then before + 1 else before

-- the turn of an event of the device alone, and of no other event
abbrev pub turn_of : ℕ → ℕ → ScriptEventData → List TurnData
turn_of number before e =
    if is_own number e then record { before = before; event = e.event } ∷ [] else []

-- the turns of the device with this number among these events, before which so many publications
-- stand
abbrev pub turns_in : ℕ → ℕ → List ScriptEventData → List TurnData
turns_in number before [] = []
turns_in number before (e ∷ events) =
    turn_of number before e ++ turns_in number (before_next before e) events

-- no turns, for each device that is declared
abbrev pub none_yet : List DeviceLine → ℕ → Option (List TurnData)
none_yet devices number = if is_declared devices number then Some [] else None

-- the turns with one more, which is one of the device with this number
abbrev pub with_turn : ℕ → TurnData → (ℕ → Option (List TurnData)) → ℕ → Option (List TurnData)
with_turn number turn turns other =
    option_map (λ list. list ++ (if nat_eq number other then turn ∷ [] else [])) (turns other)

-- events that are borrowed
abbrev pub seen : List (Bor WorldEvent) → List Event
seen events = map (λ event. view_event event.now) events

-- the publications that stand in a deal
abbrev pub dealt_publications : Dealt → List Event
dealt_publications dealt = seen dealt.publications.items

-- the turns that it has for the device with this number
abbrev pub dealt_turns : Dealt → ℕ → Option (List TurnData)
dealt_turns dealt number = get nat_eq dealt.turns number

-- the turn of the event stands last among those of its device, and the others' are as they were
abbrev pub PutsTurn : ScriptEventData → Dealt → Dealt → Type 0
PutsTurn e old new =
    (number : ℕ) (list : List TurnData)
    → dealt_turns old number ≡ Some list
    → dealt_turns new number
    ≡ Some (list ++ turn_of number (length (dealt_publications old)) e)

-- the publications are those of the script, and each declared device has its turns
pub record IsDealt (devices : List DeviceLine) (events : List ScriptEventData) (dealt : Dealt) :
    Type 0 where
  pub all : dealt_publications dealt ≡ publications_in events
  pub each : (number : ℕ) → is_declared devices number ≡ true
      → dealt_turns dealt number ≡ Some (turns_in number 0 events)

-- What comes of it.

-- a device's world after these events more
abbrev pub world_after : WorldData → List Event → WorldData
world_after world events = fold (λ (w : WorldData) (e : Event). (step w e).0) world events

-- an event's step, before which these publications happen
abbrev pub turn_step : WorldData → List Event → Event → WorldData × Result Line StepFault
turn_step world publications event = step (world_after world publications) event

-- the publications behind the first `done` ones, as far as the first `before` ones
abbrev pub due : List Event → ℕ → ℕ → List Event
due publications done before = take (before - done) (drop done publications)

-- the outcomes of turns from a world on in which so many of these publications have happened:
-- before each turn those happen that are due
abbrev pub lines_of_turns : WorldData → List Event → ℕ → List TurnData → List Line
lines_of_turns world publications done [] = []
lines_of_turns world publications done (turn ∷ turns) =
    line_of (turn_step world (due publications done turn.before) turn.event).1
    ∷ lines_of_turns (turn_step world (due publications done turn.before) turn.event).0
    publications turn.before turns

-- a device's number, and the outcomes of what is dealt out to it
abbrev pub share_from : Dealt → DeviceLine → ℕ × List Line
share_from dealt device = (
  device.number,
  lines_of_turns (first_world device.params) (dealt_publications dealt) 0
      (unwrap_or (dealt_turns dealt device.number) []),
)
