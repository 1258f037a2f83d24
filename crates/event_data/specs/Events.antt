-- What can happen, with packets as lists of bytes and editions as they are handed in.
use Rattle.std.specs.Prelude.{ℕ, List}
use Rattle.schc_bits.specs.Bits.{AreBytes}
use Rattle.schc_ids.specs.declared.ends.Role.{Role}
use Rattle.schc_ids.specs.declared.ends.Direction.{Direction}
use Rattle.rule_model.specs.RawData.{RawEditionData}
use Rattle.event_data.specs.declared.events.Target.{Target}
use Rattle.event_data.specs.declared.events.WorldEvent.{WorldEvent}
use Rattle.event_data.specs.declared.events.WorldEvent.TheVariants as code

-- an event: a packet is handed down at an end, an end may send one frame, the frame that was sent
-- as this one in the direction, counted from 1, arrives at the other end, a tick passes at these
-- ends, an end gives up the session that it sends, an edition of rules is published, an end is
-- offered the edition with this number, or is allowed to write with it
pub data Event : Type 0 where
  Down : Role → List ℕ → Event
  Slot : Role → Event
  Deliver : Direction → ℕ → Event
  Tick : Target → Event
  Abort : Role → Event
  Publish : RawEditionData → Event
  Offer : Role → ℕ → Event
  Allow : Role → ℕ → Event

-- the event that a `WorldEvent` stands for
abbrev pub view_event : WorldEvent → Event
view_event (code.Down role packet) = Down role packet.items
view_event (code.Slot role) = Slot role
view_event (code.Deliver direction number) = Deliver direction number
view_event (code.Tick target) = Tick target
view_event (code.Abort role) = Abort role
view_event (code.Publish edition) = Publish edition
view_event (code.Offer role number) = Offer role number
view_event (code.Allow role number) = Allow role number

-- an event that hands down bytes, if it hands down a packet: of the ranges of its numbers and bytes
-- this is all that matters for what is handed up
abbrev pub HandsBytes : Event → Type 0
HandsBytes (Down role packet) = AreBytes packet
HandsBytes event = Unit {0}
