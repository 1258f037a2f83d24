-- The steps of the sessions of an end: those of one key, in the lists.
use Rattle.std.specs.Prelude.{ℕ, ◌+◌, ◌-◌, ◌^◌, min, Bool, true, false, ◌||◌, List, [], ◌∷◌, Option}
use Rattle.std.specs.Prelude.{Some, None, Result, Ok, Err}
use Rattle.schc_bits.specs.Bits.{octets}
use Rattle.schc_ids.specs.declared.ends.TimerTicks.{TimerTicks}
use Rattle.schc_ids.specs.declared.faults.WireFault.{WireFault}
use Rattle.schc_ids.specs.declared.fragments.FragParams.{FragParams}
use Rattle.schc_ids.specs.declared.fragments.Side.TheVariants as side
use Rattle.schc_ids.specs.declared.notes.Cause.TheVariants.{UnknownPort, Wire}
use Rattle.schc_ids.specs.declared.notes.Heard.{Heard}
use Rattle.schc_ids.specs.declared.notes.Note.{Note}
use Rattle.schc_ids.specs.declared.notes.Note.TheVariants as note
use Rattle.schc_ids.specs.declared.notes.Report.{Report}
use Rattle.schc_ids.specs.declared.phases.SenderPhase.{SenderPhase}
use Rattle.schc_ids.specs.declared.phases.SenderPhase.TheVariants as phase
use Rattle.event_data.specs.declared.outcomes.EmitKind.{EmitKind}
use Rattle.event_data.specs.declared.outcomes.EmitKind.TheVariants as kind
use Rattle.frag_wire.specs.Layouts.{payload_in}
use Rattle.frag_wire.specs.Spells.{reading_in}
use Rattle.frag_wire.specs.declared.message.Message.{Message}
use Rattle.lorawan_profile.specs.Ports.{sending_of, meaning_of}
use Rattle.lorawan_profile.specs.declared.ports.PortMeaning.{PortMeaning}
use Rattle.lorawan_profile.specs.declared.ports.PortMeaning.TheVariants.{Fragments, Answers, Whole}
use Rattle.lorawan_profile.specs.declared.ports.PortMeaning.TheVariants.{Unknown}
use Rattle.sessions.specs.Data.{SessionsData, port_key, out_key}
use Rattle.sessions.specs.Holds.{is_armed}
use Rattle.sessions.specs.Keys.{SessionKey, Entry, found, put_in, changed, each}
use Rattle.sessions.specs.Receivers.{receiver_due, receiver_previewed}
use Rattle.sessions.specs.Reception.{Reception, reception_taken, reception_answered}
use Rattle.sessions.specs.Reception.{reception_ticked}
use Rattle.sessions.specs.Senders.{sender_begun, sender_due, sender_phase}
use Rattle.sessions.specs.Session.{Session, session_sent, sent_report, session_heard, heard_note}
use Rattle.sessions.specs.Session.{heard_kind, reported, session_aborted, session_fired}
use Rattle.sessions.specs.Session.{session_ticked}
use Rattle.sessions.specs.declared.out.SessionOut.{SessionOut}

-- What is given.

abbrev pub given : SessionKey → List ℕ → EmitKind → Option Report → SessionOut
given key bytes kind report =
    record { frame = record { port = key.port; bytes = bytes }; kind = kind; report = report }

-- the number stays at the greatest
unfoldable pub next_number : ℕ → ℕ
next_number number = min (number + 1) (2 ^ 64 - 1)

-- the session that would begin with these bits, before its first message
unfoldable pub new_session : List Bool → SessionsData → Session
new_session bits s =
    let way : ℕ × FragParams = sending_of s.role s.params.acked in
    record {
      number = s.next;
      sender =
          sender_begun way.1.mode way.1 s.params.mtu s.params.last bits;
      left = None;
    }

abbrev pub with_session : SessionKey → Option Session → SessionsData → SessionsData
with_session key session s = record s { senders = put_in key session s.senders }

abbrev pub with_reception : SessionKey → Reception → SessionsData → SessionsData
with_reception key reception s = record s { receivers = put_in key (Some reception) s.receivers }

-- the message of a session is given
unfoldable pub sends : SessionsData → SessionKey → Session → EmitKind → Option (List ℕ)
    → SessionsData × Option SessionOut
sends s key session kind None = (s, None)
sends s key session kind (Some bytes) = (
  with_session key (Some (session_sent s.params.ticks session)) s,
  Some
      (given key bytes kind (sent_report session)),
)

-- a session begins, and its first message is given
unfoldable pub begin_step : List Bool → SessionsData → SessionsData × Option SessionOut
begin_step bits s =
    let session : Session = new_session bits s in
    sends (record s { next = next_number s.next }) (out_key s.role s.params.acked) session
    (kind.Begins s.next)
    (sender_due session.sender)

-- what is given next: the answer of the first receiver that has one due, else a Sender-Abort, else
-- the next message of a session
pub data Choice : Type 0 where
  Idle : Choice
  GivesAnswer : SessionKey → Reception → List ℕ → Choice
  GivesMessage : SessionKey → Session → Option (List ℕ) → Choice

unfoldable pub answer_or : SessionKey → Reception → Option (List ℕ) → Choice → Choice
answer_or key reception None rest = rest
answer_or key reception (Some bytes) rest = GivesAnswer key reception bytes

unfoldable pub answers_from : List (Entry Reception) → Choice → Choice
answers_from [] rest = rest
answers_from (x ∷ xs) rest =
    answer_or x.key x.it (receiver_due x.it.receiver) (answers_from xs rest)

-- a session that stands there
unfoldable pub message_if : Bool → SessionKey → Session → Choice → Choice
message_if true key session rest = GivesMessage key session (sender_due session.sender)
message_if false key session rest = rest

abbrev pub is_closing : SenderPhase → Bool
is_closing phase.Closing = true
is_closing other = false

abbrev pub is_sending : SenderPhase → Bool
is_sending phase.Sending = true
is_sending other = false

unfoldable pub messages_from : (SenderPhase → Bool) → List (Entry Session) → Choice → Choice
messages_from stands [] rest = rest
messages_from stands (x ∷ xs) rest =
    message_if (stands (sender_phase x.it.sender)) x.key x.it (messages_from stands xs rest)

-- the next message, where no answer is due
unfoldable pub message_choice : List (Entry Session) → Choice
message_choice senders = messages_from is_closing senders (messages_from is_sending senders Idle)

unfoldable pub choice : SessionsData → Choice
choice s =
    answers_from s.receivers (message_choice s.senders)

unfoldable pub next_from : SessionsData → Choice → SessionsData × Option SessionOut
next_from s Idle = (s, None)
next_from s (GivesAnswer key reception bytes) =
    (with_reception key (reception_answered reception) s, Some (given key bytes kind.Answers None))
next_from s (GivesMessage key session bytes) = sends s key session (kind.Goes session.number) bytes

unfoldable pub next_step : SessionsData → SessionsData × Option SessionOut
next_step s = next_from s (choice s)

-- What is taken. By the port comes what the other end sends as a sender or as a receiver.

-- a fragment comes to the receiver of its key
unfoldable pub fragment_taken : SessionsData → SessionKey → Message → List Bool → Option Reception
    → SessionsData × Note
fragment_taken s key message payload None = (s, note.Refused UnknownPort)
fragment_taken s key message payload (Some reception) =
    let t : Reception × Note = reception_taken s.params.ticks message payload reception in
    (with_reception key t.0 s, t.1)

unfoldable pub fragment_read : SessionsData → SessionKey → List ℕ → Result Message WireFault
    → SessionsData × Note
fragment_read s key bytes (Err fault) = (s, note.Refused (Wire fault))
fragment_read s key bytes (Ok message) =
    fragment_taken s key message (payload_in message (octets bytes)) (found key s.receivers)

-- an answer comes to the session of its key: where none is under way it is a remnant
unfoldable pub answer_taken : SessionsData → SessionKey → Message → Option Session → SessionsData
    × (Note × Option Report)
answer_taken s key message None = (s, (note.Remnant, None))
answer_taken s key message (Some session) =
    let t : Session × Heard = session_heard s.params.ticks message session in
    (with_session key (Some t.0) s, (heard_note t.1, reported session.number (heard_kind t.1)))

unfoldable pub answer_read : SessionsData → SessionKey → Result Message WireFault → SessionsData
    × (Note × Option Report)
answer_read s key (Err fault) = (s, (note.Refused (Wire fault), None))
answer_read s key (Ok message) = answer_taken s key message (found key s.senders)

abbrev pub without_report : SessionsData × Note → SessionsData × (Note × Option Report)
without_report step = (step.0, (step.1, None))

unfoldable pub take_from : SessionsData → SessionKey → List ℕ → PortMeaning → SessionsData
    × (Note × Option Report)
take_from s key bytes (Fragments params) =
    without_report (fragment_read s key bytes (reading_in params.mode side.Fragments bytes))
take_from s key bytes (Answers params) =
    answer_read s key (reading_in params.mode side.Answers bytes)
take_from s key bytes Whole = (s, (note.Refused UnknownPort, None))
take_from s key bytes Unknown = (s, (note.Refused UnknownPort, None))

unfoldable pub take_step : ℕ → List ℕ → SessionsData → SessionsData × (Note × Option Report)
take_step port bytes s = take_from s (port_key port) bytes (meaning_of s.role port)

-- the assembly that a frame would join
unfoldable pub fragment_previewed : Message → List Bool → Option Reception → Option (List Bool)
fragment_previewed message payload None = None
fragment_previewed message payload (Some reception) =
    receiver_previewed message payload reception.receiver

unfoldable pub read_previewed : SessionsData → SessionKey → List ℕ → Result Message WireFault
    → Option (List Bool)
read_previewed s key bytes (Err fault) = None
read_previewed s key bytes (Ok message) =
    fragment_previewed message (payload_in message (octets bytes)) (found key s.receivers)

unfoldable pub preview_from : SessionsData → SessionKey → List ℕ → PortMeaning → Option (List Bool)
preview_from s key bytes (Fragments params) =
    read_previewed s key bytes (reading_in params.mode side.Fragments bytes)
preview_from s key bytes (Answers params) = None
preview_from s key bytes Whole = None
preview_from s key bytes Unknown = None

unfoldable pub preview_of : ℕ → List ℕ → SessionsData → Option (List Bool)
preview_of port bytes s = preview_from s (port_key port) bytes (meaning_of s.role port)

-- A tick passes, and the end gives up.

unfoldable pub ticked_report : TimerTicks → Session → Option Report
ticked_report ticks session = reported session.number (heard_kind (session_ticked ticks session).1)

-- the timer of the session is due
abbrev pub fired_session : TimerTicks → Option Session → Option Session × Option Report
fired_session ticks None = (None, None)
fired_session ticks (Some session) = (
  (session_fired ticks session).0,
  reported session.number
      (heard_kind (session_fired ticks session).1),
)

abbrev pub or_else : Option Report → Option Report → Option Report
or_else None later = later
or_else (Some report) later = Some report

-- the first report of the sessions
unfoldable pub reports_from : TimerTicks → List (Entry Session) → Option Report
reports_from ticks [] = None
reports_from ticks (x ∷ xs) = or_else (ticked_report ticks x.it) (reports_from ticks xs)

unfoldable pub tick_step : SessionsData → SessionsData × Option Report
tick_step s = (
  record s {
    senders = changed (λ session. (session_ticked s.params.ticks session).0) s.senders;
    receivers = each reception_ticked s.receivers;
  },
  reports_from s.params.ticks s.senders,
)

-- the session of the key is given up
unfoldable pub aborted_from : SessionsData → SessionKey → Option Session → SessionsData
    × Option Report
aborted_from s key None = (s, None)
aborted_from s key (Some session) =
    let t : Session × Heard = session_aborted s.params.ticks session in
    (with_session key (Some t.0) s, reported session.number (heard_kind t.1))

unfoldable pub abort_step : SessionsData → SessionsData × Option Report
abort_step s =
    aborted_from s (out_key s.role s.params.acked) (found (out_key s.role s.params.acked) s.senders)

-- What stands.

-- a session that isn't quiet
abbrev pub is_open : SenderPhase → Bool
is_open phase.Quiet = false
is_open other = true

unfoldable pub busy_in : List (Entry Session) → Bool
busy_in [] = false
busy_in (x ∷ xs) = is_open (sender_phase x.it.sender) || busy_in xs

-- no session has the number of the key, not even one that is quiet
unfoldable pub may_begin_in : Option Session → Bool
may_begin_in None = true
may_begin_in (Some session) = false

unfoldable pub may_begin : SessionsData → Bool
may_begin s = may_begin_in (found (out_key s.role s.params.acked) s.senders)

unfoldable pub sessions_armed : List (Entry Session) → Bool
sessions_armed [] = false
sessions_armed (x ∷ xs) = is_armed x.it.left || sessions_armed xs

unfoldable pub receptions_armed : List (Entry Reception) → Bool
receptions_armed [] = false
receptions_armed (x ∷ xs) = is_armed x.it.left || receptions_armed xs

-- some timer is armed
unfoldable pub armed : SessionsData → Bool
armed s = sessions_armed s.senders || receptions_armed s.receivers
