-- A session of which nothing is lost: in each round the sender gives a message, which is taken, and
-- where the receiver then has an answer due, it gives it, and the session hears it.
use Rattle.std.specs.Prelude.{ℕ, ◌≡◌, ◌≤◌, zero, suc, Bool, List, length, Option, Some, None}
use Rattle.std.specs.Prelude.{Result, Ok, Err}
use Rattle.schc_bits.specs.Bits.{octets}
use Rattle.schc_ids.specs.declared.ends.TimerTicks.{TimerTicks}
use Rattle.schc_ids.specs.declared.faults.WireFault.{WireFault}
use Rattle.schc_ids.specs.declared.fragments.FragMode.{FragMode}
use Rattle.schc_ids.specs.declared.fragments.FragMode.TheVariants as mode
use Rattle.schc_ids.specs.declared.fragments.Side.TheVariants as side
use Rattle.schc_ids.specs.declared.notes.Heard.{Heard}
use Rattle.schc_ids.specs.declared.notes.ReportKind.{ReportKind}
use Rattle.schc_ids.specs.declared.notes.ReportKind.TheVariants.{Delivered, Sent}
use Rattle.schc_ids.specs.declared.phases.SenderPhase.TheVariants as phase
use Rattle.frag_wire.specs.Layouts.{payload_in}
use Rattle.frag_wire.specs.Spells.{reading_in}
use Rattle.frag_wire.specs.declared.message.Message.{Message}
use Rattle.sessions.specs.Receivers.{new_receiver, receiver_previewed, receiver_due}
use Rattle.sessions.specs.Reception.{Reception, reception_taken, reception_answered}
use Rattle.sessions.specs.Senders.{sender_due, sender_phase}
use Rattle.sessions.specs.Session.{Session, session_sent, session_heard, heard_kind}
use Rattle.sessions.specs.declared.receivers.Receiver.{Receiver}
use Rattle.tiles_bitmap.specs.Tiles.{tiles}
use Rattle.lanes.specs.Events.{CanBegin}
use Rattle.lanes.specs.Lane.{LaneParams, AreLaneParams, padded_of}
use Rattle.lanes.specs.Step.{kind_sent, lane_session}

-- a session, and the receiver of its key
pub record Talk : Type 0 where
  pub session : Session
  pub reception : Reception

-- the bytes come as a fragment
unfoldable pub took_reading : TimerTicks → List ℕ → Reception → Result Message WireFault → Reception
took_reading ticks bytes reception (Err fault) = reception
took_reading ticks bytes reception (Ok message) =
    (reception_taken ticks message (payload_in message (octets bytes)) reception).0

-- the assembly that they join
unfoldable pub joined_reading : List ℕ → Receiver → Result Message WireFault → Option (List Bool)
joined_reading bytes receiver (Err fault) = None
joined_reading bytes receiver (Ok message) =
    receiver_previewed message (payload_in message (octets bytes)) receiver

-- they come as an answer
unfoldable pub heard_reading : TimerTicks → Session → Result Message WireFault → Session
    × Option ReportKind
heard_reading ticks session (Err fault) = (session, None)
heard_reading ticks session (Ok message) =
    let t : Session × Heard = session_heard ticks message session in (t.0, heard_kind t.1)

-- the message that was given is taken
unfoldable pub talk_sent : FragMode → TimerTicks → Talk → List ℕ → Talk
talk_sent m ticks t bytes = record {
  session = session_sent ticks t.session;
  reception = took_reading ticks bytes t.reception (reading_in m side.Fragments bytes);
}

-- and the answer that is due is heard
unfoldable pub talk_answered : FragMode → TimerTicks → Talk → Option (List ℕ) → Talk
    × Option ReportKind
talk_answered m ticks t None = (t, None)
talk_answered m ticks t (Some bytes) =
    let h : Session × Option ReportKind =
    heard_reading ticks t.session (reading_in m side.Answers bytes) in
    (record { session = h.0; reception = reception_answered t.reception }, h.1)

unfoldable pub talk_round : FragMode → TimerTicks → Talk → List ℕ → Talk × Option ReportKind
talk_round m ticks t bytes =
    let s : Talk = talk_sent m ticks t bytes in
    talk_answered m ticks s (receiver_due s.reception.receiver)

-- a round: the session is sending, and this is joined, and reported when the message is given or
-- the answer heard; then the receiver has no answer due
pub record IsRound (m : FragMode) (ticks : TimerTicks) (t : Talk) (joined : Option (List Bool))
    (sent : Option ReportKind) (told : Option ReportKind) (after : Talk) : Type 0 where
  pub sending : sender_phase t.session.sender ≡ phase.Sending
  pub bytes : List ℕ
  pub due : sender_due t.session.sender ≡ Some bytes
  pub joins : joined_reading bytes t.reception.receiver (reading_in m side.Fragments bytes) ≡ joined
  pub sends : kind_sent t.session ≡ sent
  pub round : talk_round m ticks t bytes ≡ (after, told)
  pub rests : receiver_due after.reception.receiver ≡ None

-- how a session of this mode ends when all goes well: with its last message, or with the answer to
-- it
abbrev pub last_sent : FragMode → Option ReportKind
last_sent mode.NoAck = Some Sent
last_sent mode.AckAlways = None
last_sent mode.AckOnError = None

abbrev pub last_told : FragMode → Option ReportKind
last_told mode.NoAck = None
last_told mode.AckAlways = Some Delivered
last_told mode.AckOnError = Some Delivered

-- the last round joins the packet and ends the session
pub record IsLastRound (m : FragMode) (ticks : TimerTicks) (packet : List Bool) (t : Talk) : Type 0
  where
    pub after : Talk
    pub round : IsRound m ticks t (Some packet) (last_sent m) (last_told m) after
    pub ended : sender_phase after.session.sender ≡ phase.Quiet

-- so many rounds and one more join the packet, once, and end the session
abbrev pub Ends : FragMode → TimerTicks → List Bool → ℕ → Talk → Type 0
Ends m ticks packet zero t = IsLastRound m ticks packet t
Ends m ticks packet (suc more) t = (after : Talk) × IsRound m ticks t None None None after
    × Ends m ticks packet more after

-- a session that begins, and a receiver that keeps nothing
abbrev pub new_talk : LaneParams → ℕ → List Bool → Option ℕ → Talk
new_talk params number bits left = record {
  session = lane_session params number bits;
  reception = record { receiver = new_receiver params.frag.mode; left = left };
}

-- such a session ends after at most as many rounds as it has tiles, and one more
pub record EndsWell (params : LaneParams) (number : ℕ) (bits : List Bool) (left : Option ℕ) : Type 0
  where
    pub more : ℕ
    pub few : more ≤ length (tiles params.frag params.ends.mtu bits)
    pub ends : Ends params.frag.mode params.ends.ticks (padded_of params bits) more
        (new_talk params number bits left)

abbrev pub Clean : Type 0
Clean =
    (params : LaneParams) (number : ℕ) (bits : List Bool) (left : Option ℕ) → AreLaneParams params
    → CanBegin bits →
    EndsWell params number bits left
