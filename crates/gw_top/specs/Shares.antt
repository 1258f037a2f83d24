-- What one device's world, and the chain of editions, give of the outcomes of a script.
use Rattle.std.specs.Prelude.{ℕ, ◌==◌, Bool, not, ◌&&◌, if◌then◌else◌, List, [], ◌∷◌, ◌++◌}
use Rattle.schc_ids.specs.declared.ends.EndParams.{EndParams}
use Rattle.rule_model.specs.declared.raw.DeviceLine.{DeviceLine}
use Rattle.editions.specs.Data.{EditionData}
use Rattle.publishing.specs.Published.{published}
use Rattle.event_data.specs.Events.{Event, Down, Slot, Deliver, Tick, Abort, Publish, Offer, Allow}
use Rattle.event_data.specs.Outcomes.{IsLineOf}
use Rattle.event_data.specs.declared.outcomes.Line.{Line}
use Rattle.two_ends.specs.World.{WorldData, beginning, step, last_edition}
use Rattle.script_lang.specs.ScriptData.{ScriptEventData}
use Rattle.gw_top.specs.Run.{is_publication, is_event_of, chain_next, line_of, published_line}

-- the world in which nothing has happened
unfoldable pub first_world : EndParams → WorldData
first_world params = beginning params

-- the event is of the device with this number alone
abbrev pub is_own : ℕ → ScriptEventData → Bool
is_own number e = not (is_publication e.event) && (e.device == number)

-- the world of the device with this number after an event of the script
abbrev pub world_next : ℕ → WorldData → ScriptEventData → WorldData
world_next number world e = if is_event_of number e then (step world e.event).0 else world

-- the outcome of an event of the device alone, and of no other event
abbrev pub own_line : ℕ → WorldData → ScriptEventData → List Line
own_line number world e = if is_own number e then line_of (step world e.event).1 ∷ [] else []

-- the outcomes of the events of the device with this number, of which this is the world before them
abbrev pub own_lines : ℕ → WorldData → List ScriptEventData → List Line
own_lines number world [] = []
own_lines number world (e ∷ events) =
    own_line number world e ++ own_lines number (world_next number world e) events

-- a device's number, and the outcomes of its events
abbrev pub share_of : List ScriptEventData → DeviceLine → ℕ × List Line
share_of events device = (device.number, own_lines device.number (first_world device.params) events)

-- the line of a publication after this chain, and of no other event
abbrev pub published_part : List EditionData → Event → List Line
published_part chain (Publish raw) = published_line (published (last_edition chain) raw) ∷ []
published_part chain event = []

-- the lines of the publications after this chain
abbrev pub published_lines : List EditionData → List ScriptEventData → List Line
published_lines chain [] = []
published_lines chain (e ∷ events) =
    published_part chain e.event ++ published_lines (chain_next chain e.event) events

-- each event has a line that it can have
abbrev pub AreLinesOf : List ScriptEventData → List Line → Type 0
AreLinesOf [] lines = Unit {0}
AreLinesOf (e ∷ events) [] = ⊥
AreLinesOf (e ∷ events) (l ∷ lines) = IsLineOf e.event l × AreLinesOf events lines
