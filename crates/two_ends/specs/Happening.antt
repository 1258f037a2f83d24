-- What an event is in a history: each look-up of it is made here, once, so that each log is a plain
-- case on this.
use Rattle.std.specs.Prelude.{ℕ, Bool, true, false, List, Option, Some, None, Result, Ok, Err}
use Rattle.schc_ids.specs.PerDirection.{at_direction}
use Rattle.schc_ids.specs.declared.ends.Direction.{Direction}
use Rattle.schc_ids.specs.declared.ends.Role.{Role}
use Rattle.packer.specs.declared.packing.Packed.{Packed}
use Rattle.event_data.specs.Records.{FrameData}
use Rattle.event_data.specs.Events.{Event, Down, Slot, Deliver, Tick, Abort, Publish, Offer, Allow}
use Rattle.event_data.specs.declared.events.Target.{Target}
use Rattle.event_data.specs.declared.outcomes.Accepted.{Accepted}
use Rattle.event_data.specs.declared.outcomes.DownFault.{DownFault}
use Rattle.sessions.specs.Data.{SessionsData, out_key}
use Rattle.sessions.specs.Keys.{SessionKey}
use Rattle.sessions.specs.Reception.{Reception}
use Rattle.sessions.specs.Senders.{sender_due}
use Rattle.sessions.specs.Session.{Session}
use Rattle.sessions.specs.Steps.{Choice, Idle, GivesAnswer, GivesMessage, new_session}
use Rattle.end_core.specs.Data.{EndData}
use Rattle.end_core.specs.End.{Turn, Serves, Sends, Begins, Rests, turn, down_step}
use Rattle.lanes.specs.Lane.{Msg}
use Rattle.two_ends.specs.Keys.{Key, same_way}
use Rattle.two_ends.specs.Labels.{Labels, Mark, WholeFrame, MessageOf}
use Rattle.two_ends.specs.World.{WorldData, end_of, numbered}

-- What an end gives at its slot: the answer of a receiver, the message of a session, the first
-- message of a session that begins with a packet, the packet whole, or nothing. A session is as it
-- was before the message.
pub data Given : Type 0 where
  Answers : SessionKey → Reception → List ℕ → Given
  Goes : SessionKey → Session → List ℕ → Given
  Opens : SessionKey → Session → Packed → List ℕ → Given
  Carries : Packed → Given
  NoFrame : Given

unfoldable pub goes_if : SessionKey → Session → Option (List ℕ) → Given
goes_if key session None = NoFrame
goes_if key session (Some bytes) = Goes key session bytes

unfoldable pub opens_if : SessionKey → Session → Packed → Option (List ℕ) → Given
opens_if key session form None = NoFrame
opens_if key session form (Some bytes) = Opens key session form bytes

unfoldable pub chosen : Choice → Given
chosen Idle = NoFrame
chosen (GivesAnswer key reception bytes) = Answers key reception bytes
chosen (GivesMessage key session bytes) = goes_if key session bytes

unfoldable pub begun : SessionsData → Packed → Given
begun s form =
    let session : Session = new_session form.bits s in
    opens_if (out_key s.role s.params.acked) session form (sender_due session.sender)

unfoldable pub given_by : EndData → Turn → Given
given_by end (Serves choice) = chosen choice
given_by end (Sends form) = Carries form
given_by end (Begins form) = begun end.sessions form
given_by end Rests = NoFrame

-- a packet was handed down and taken; an end has given this at its slot; a frame arrives that
-- carries whole the packet of this place, or a fragment arrives at the receiver of its key, or an
-- answer at the sender; a tick passes; an end gives up the session that it sends by this key. All
-- else is nothing to the logs
pub data Happening : Type 0 where
  Nothing : Happening
  Waits : Role → List ℕ → Accepted → Happening
  Gives : Role → Given → Happening
  Arrives : Direction → ℕ → FrameData → Happening
  Fragment : Key → Msg → Happening
  Answer : Key → Msg → Happening
  Ticks : Target → Happening
  GivesUp : Role → SessionKey → Happening

unfoldable pub waits_if : Role → List ℕ → Result Accepted DownFault → Happening
waits_if role packet (Ok accepted) = Waits role packet accepted
waits_if role packet (Err fault) = Nothing

-- a message of a key is a fragment where it goes the way of its key's fragments, else it is an
-- answer
unfoldable pub message_comes : Key → Msg → Bool → Happening
message_comes key m true = Fragment key m
message_comes key m false = Answer key m

unfoldable pub comes_if : Direction → Option Mark → Happening
comes_if direction None = Nothing
comes_if direction (Some (WholeFrame place frame)) = Arrives direction place frame
comes_if direction (Some (MessageOf key m)) = message_comes key m (same_way direction key.way)

-- the key by which an end sends
abbrev pub own_key : EndData → SessionKey
own_key end = out_key end.role end.params.acked

-- what the event is in this world with these labels
unfoldable pub happening_in : WorldData → Labels → Event → Happening
happening_in w labels (Down role packet) = waits_if role packet (down_step (end_of w role) packet).1
happening_in w labels (Slot role) = Gives role (given_by (end_of w role) (turn (end_of w role)))
happening_in w labels (Deliver direction number) =
    comes_if direction (numbered (at_direction labels.sent direction) number)
happening_in w labels (Tick target) = Ticks target
happening_in w labels (Abort role) = GivesUp role (own_key (end_of w role))
happening_in w labels (Publish raw) = Nothing
happening_in w labels (Offer role number) = Nothing
happening_in w labels (Allow role number) = Nothing
