-- What an event does to a lane: the steps of the sessions of one key, and what is noted of them.
use Rattle.std.specs.Prelude.{ℕ, ◌+◌, Bool, if◌then◌else◌, List, [], ◌∷◌, ◌++◌, Option, Some, None}
use Rattle.std.specs.Prelude.{Result, Ok, Err}
use Rattle.schc_bits.specs.Bits.{octets}
use Rattle.schc_ids.specs.declared.ends.TimerTicks.{TimerTicks}
use Rattle.schc_ids.specs.declared.faults.WireFault.{WireFault}
use Rattle.schc_ids.specs.declared.fragments.Side.TheVariants as side
use Rattle.schc_ids.specs.declared.notes.Heard.{Heard}
use Rattle.schc_ids.specs.declared.notes.Note.{Note}
use Rattle.schc_ids.specs.declared.notes.ReportKind.{ReportKind}
use Rattle.frag_wire.specs.Layouts.{payload_in}
use Rattle.frag_wire.specs.Spells.{reading_in}
use Rattle.frag_wire.specs.declared.message.Message.{Message}
use Rattle.frag_wire.specs.declared.message.Message.TheVariants as form
use Rattle.sessions.specs.Receivers.{receiver_checked, receiver_previewed, receiver_due}
use Rattle.sessions.specs.Reception.{Reception, is_remnant, reception_taken, reception_answered}
use Rattle.sessions.specs.Reception.{reception_ticked}
use Rattle.sessions.specs.Senders.{sender_begun, sender_due, sender_phase, sender_sent}
use Rattle.sessions.specs.Session.{Session, sent_kind, session_sent, session_heard, heard_kind}
use Rattle.sessions.specs.Session.{session_aborted, session_ticked}
use Rattle.lanes.specs.Events.{LaneEvent, Begin, Send, Answer, Fragment, Ack, SenderTick}
use Rattle.lanes.specs.Events.{ReceiverTick, Abort}
use Rattle.lanes.specs.Lane.{LaneParams, Msg, Begun, Check, LaneReport, Lane, session_place}

abbrev pub msg : Option ℕ → ℕ → List ℕ → Msg
msg label sent_at bytes = record { label = label; sent_at = sent_at; bytes = bytes }

-- how the session of this label ended, if it did
unfoldable pub told : ℕ → Option ℕ → Option ReportKind → List LaneReport
told time label None = []
told time label (Some kind) = record { time = time; session = label; kind = kind } ∷ []

-- The sender.

-- the session that begins with these bits, before its first message
unfoldable pub lane_session : LaneParams → ℕ → List Bool → Session
lane_session params number bits = record {
  number = number;
  sender = sender_begun params.frag.mode params.frag params.ends.mtu params.ends.last bits;
  left = None;
}

-- a session of No-ACK ends with its last message
unfoldable pub kind_sent : Session → Option ReportKind
kind_sent session =
    sent_kind (sender_phase session.sender) (sender_phase (sender_sent session.sender))

-- the session gives the message that is due
unfoldable pub lane_sent : ℕ → Lane → Session → Option (List ℕ) → Lane
lane_sent time l session None = l
lane_sent time l session (Some bytes) = record l {
  sender = Some (session_sent l.params.ends.ticks session);
  out = l.out ++ msg (session_place l.begins) l.sender_time bytes ∷ [];
  reports = l.reports ++ told time (session_place l.begins) (kind_sent session);
}

unfoldable pub lane_sends : ℕ → Lane → Option Session → Lane
lane_sends time l None = l
lane_sends time l (Some session) = lane_sent time l session (sender_due session.sender)

-- a session begins with its first message
unfoldable pub lane_begun : ℕ → Lane → Begun → Session → Option (List ℕ) → Lane
lane_begun time l begun session None = l
lane_begun time l begun session (Some bytes) = record l {
  sender = Some (session_sent l.params.ends.ticks session);
  out = l.out ++ msg (Some begun.place) l.sender_time bytes ∷ [];
  begins = l.begins ++ begun ∷ [];
  reports = l.reports ++ told time (Some begun.place) (kind_sent session);
}

unfoldable pub lane_begins : ℕ → Lane → Begun → Session → Lane
lane_begins time l begun session = lane_begun time l begun session (sender_due session.sender)

-- an answer that was read; where no session is under way nothing comes of it
unfoldable pub heard_by : TimerTicks → Option Session → Result Message WireFault → Option Session
    × Option ReportKind
heard_by ticks None reading = (None, None)
heard_by ticks (Some session) (Err fault) = (Some session, None)
heard_by ticks (Some session) (Ok message) =
    let t : Session × Heard = session_heard ticks message session in (Some t.0, heard_kind t.1)

unfoldable pub aborted_by : TimerTicks → Option Session → Option Session × Option ReportKind
aborted_by ticks None = (None, None)
aborted_by ticks (Some session) =
    let t : Session × Heard = session_aborted ticks session in (Some t.0, heard_kind t.1)

unfoldable pub ticked_by : TimerTicks → Option Session → Option Session × Option ReportKind
ticked_by ticks None = (None, None)
ticked_by ticks (Some session) =
    let t : Option Session × Heard = session_ticked ticks session in (t.0, heard_kind t.1)

-- what came of the session is noted
unfoldable pub lane_told : ℕ → Lane → Option Session × Option ReportKind → Lane
lane_told time l step =
    record l { sender = step.0; reports = l.reports ++ told time (session_place l.begins) step.1 }

-- The receiver.

-- the label of a message that is taken otherwise than as a remnant
unfoldable pub label_after : Note → Option ℕ → Option ℕ → Option ℕ
label_after meaning label before = if is_remnant meaning then before else label

-- the session of the All-1 whose RCS is compared: the message's own, else that of the one that is
-- kept
unfoldable pub checked_label : Message → Option ℕ → Option ℕ → Option ℕ
checked_label (form.All1 w rcs from) label kept = label
checked_label (form.Regular w fcn from) label kept = kept
checked_label (form.AckReq w) label kept = kept
checked_label (form.Ack w c bitmap) label kept = kept
checked_label form.SenderAbort label kept = kept
checked_label form.ReceiverAbort label kept = kept

-- an All-1 with which a check is made is the one that is kept
unfoldable pub kept_after : Option (List Bool) → Option ℕ → Option ℕ → Option ℕ
kept_after None label before = before
kept_after (Some assembly) label before = label

-- a check, where one is made
unfoldable pub checks_of : ℕ → Option ℕ → Option (List Bool) → List Check
checks_of time session None = []
checks_of time session (Some assembly) =
    record { time = time; assembly = assembly; session = session } ∷ []

-- a message with its payload is taken
unfoldable pub lane_taken : ℕ → Lane → Option ℕ → Message → List Bool → Lane
lane_taken time l label message payload =
    let session : Option ℕ = checked_label message label l.kept_label in
    let made : Option (List Bool) = receiver_checked message payload l.reception.receiver in
    let t : Reception × Note = reception_taken l.params.ends.ticks message payload l.reception in
    record l {
      reception = t.0;
      label = label_after t.1 label l.label;
      kept_label = kept_after made session l.kept_label;
      checks = l.checks ++ checks_of time session made;
      joins = l.joins ++ checks_of time session
          (receiver_previewed message payload l.reception.receiver);
    }

unfoldable pub lane_took : ℕ → Lane → Msg → Result Message WireFault → Lane
lane_took time l m (Err fault) = l
lane_took time l m (Ok message) =
    lane_taken time l m.label message (payload_in message (octets m.bytes))

-- the receiver gives the answer that is due
unfoldable pub lane_answered : Lane → Option (List ℕ) → Lane
lane_answered l None = l
lane_answered l (Some bytes) =
    record l {
      reception = reception_answered l.reception;
      back =
          l.back ++ msg l.label l.receiver_time bytes ∷ [];
    }

-- The event comes to pass at this time.

unfoldable pub lane_step : ℕ → Lane → LaneEvent → Lane
lane_step time l (Begin place number bits) =
    lane_begins time l (record { time = time; place = place; number = number; bits = bits })
    (lane_session l.params number bits)
lane_step time l Send = lane_sends time l l.sender
lane_step time l Answer = lane_answered l (receiver_due l.reception.receiver)
lane_step time l (Fragment m) =
    lane_took time l m (reading_in l.params.frag.mode side.Fragments m.bytes)
lane_step time l (Ack m) =
    lane_told time l
    (heard_by l.params.ends.ticks l.sender (reading_in l.params.frag.mode side.Answers m.bytes))
lane_step time l SenderTick =
    lane_told time (record l { sender_time = l.sender_time + 1 })
    (ticked_by l.params.ends.ticks l.sender)
lane_step time l ReceiverTick =
    record l { reception = reception_ticked l.reception; receiver_time = l.receiver_time + 1 }
lane_step time l Abort = lane_told time l (aborted_by l.params.ends.ticks l.sender)
