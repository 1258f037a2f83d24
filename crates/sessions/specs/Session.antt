-- The session that an end sends by one key: its number, its sender, and its timer. What the steps
-- of the sender do to the timer.
use Rattle.std.specs.Prelude.{ℕ, Bool, true, false, if◌then◌else◌, Option, Some, None, option_map}
use Rattle.schc_ids.specs.declared.ends.TimerTicks.{TimerTicks}
use Rattle.schc_ids.specs.declared.notes.FailCause.TheVariants.{AttemptsSpent, CheckNeverPasses}
use Rattle.schc_ids.specs.declared.notes.FailCause.TheVariants as cause
use Rattle.schc_ids.specs.declared.notes.Heard.{Heard}
use Rattle.schc_ids.specs.declared.notes.Heard.TheVariants as heard
use Rattle.schc_ids.specs.declared.notes.Note.{Note}
use Rattle.schc_ids.specs.declared.notes.Note.TheVariants as note
use Rattle.schc_ids.specs.declared.notes.Report.{Report}
use Rattle.schc_ids.specs.declared.notes.ReportKind.{ReportKind}
use Rattle.schc_ids.specs.declared.notes.ReportKind.TheVariants as kind
use Rattle.schc_ids.specs.declared.phases.SenderPhase.{SenderPhase}
use Rattle.schc_ids.specs.declared.phases.SenderPhase.TheVariants.{Sending, Waiting, Closing, Quiet}
use Rattle.frag_wire.specs.declared.message.Message.{Message}
use Rattle.timers.specs.Timers.{ticked, is_due}
use Rattle.sessions.specs.Senders.{sender_phase, sender_sent, sender_heard, sender_retried}
use Rattle.sessions.specs.Senders.{sender_aborted}
use Rattle.sessions.specs.declared.senders.Sender.{Sender}

pub record Session : Type 0 where
  pub number : ℕ
  pub sender : Sender
  pub left : Option ℕ

-- which timer runs where the sender stands: that of retransmission while it waits, and then that of
-- quiet
abbrev pub sender_ticks : TimerTicks → SenderPhase → Option ℕ
sender_ticks ticks Sending = None
sender_ticks ticks Waiting = Some ticks.retransmission
sender_ticks ticks Closing = None
sender_ticks ticks Quiet = Some ticks.quiet

abbrev pub same_sender_phase : SenderPhase → SenderPhase → Bool
same_sender_phase Sending Sending = true
same_sender_phase Waiting Waiting = true
same_sender_phase Closing Closing = true
same_sender_phase Quiet Quiet = true
same_sender_phase before after = false

-- the timer goes on while the sender stays where it is, and begins anew where it comes
unfoldable pub sender_left : TimerTicks → SenderPhase → SenderPhase → Option ℕ → Option ℕ
sender_left ticks before after left =
    if same_sender_phase before after then left else sender_ticks ticks after

-- the session after a step of its sender
unfoldable pub session_moved : TimerTicks → Session → Sender → Session
session_moved ticks session sender = record {
  number = session.number;
  sender = sender;
  left = sender_left ticks (sender_phase session.sender) (sender_phase sender) session.left;
}

abbrev pub reported : ℕ → Option ReportKind → Option Report
reported number kind = option_map (λ kind. record { session = number; kind = kind }) kind

-- a session of No-ACK ends where its All-1 is given: only then a sender that was sending has ended
abbrev pub sent_kind : SenderPhase → SenderPhase → Option ReportKind
sent_kind Sending Quiet = Some kind.Sent
sent_kind before after = None

-- the message that was due was given
unfoldable pub session_sent : TimerTicks → Session → Session
session_sent ticks session = session_moved ticks session (sender_sent session.sender)

unfoldable pub sent_report : Session → Option Report
sent_report session =
    reported session.number
    (sent_kind (sender_phase session.sender) (sender_phase (sender_sent session.sender)))

-- what an answer is noted as: one that counts, the last one included
abbrev pub heard_note : Heard → Note
heard_note heard.Nothing = note.Remnant
heard_note heard.Counted = note.Acked
heard_note heard.Delivered = note.Acked
heard_note heard.NeverPasses = note.Acked
heard_note heard.PeerAborted = note.PeerAborted
heard_note heard.Spent = note.Remnant
heard_note heard.Aborted = note.Remnant

-- how the session ended
abbrev pub heard_kind : Heard → Option ReportKind
heard_kind heard.Nothing = None
heard_kind heard.Counted = None
heard_kind heard.Delivered = Some kind.Delivered
heard_kind heard.NeverPasses = Some (kind.Failed CheckNeverPasses)
heard_kind heard.PeerAborted = Some (kind.Failed cause.PeerAborted)
heard_kind heard.Spent = Some (kind.Failed AttemptsSpent)
heard_kind heard.Aborted = Some (kind.Failed cause.Aborted)

-- an answer, an abort or a timer that is due has led to this
abbrev pub session_after : TimerTicks → Session → Sender × Heard → Session × Heard
session_after ticks session step = (session_moved ticks session step.0, step.1)

unfoldable pub session_heard : TimerTicks → Message → Session → Session × Heard
session_heard ticks message session =
    session_after ticks session (sender_heard message session.sender)

unfoldable pub session_aborted : TimerTicks → Session → Session × Heard
session_aborted ticks session = session_after ticks session (sender_aborted session.sender)

abbrev pub stays : Session × Heard → Option Session × Heard
stays step = (Some step.0, step.1)

-- the timer is due, and isn't armed any more: a request that wasn't answered is made again, and a
-- session whose quiet time has passed is gone
unfoldable pub fired_in : TimerTicks → Session → SenderPhase → Option Session × Heard
fired_in ticks session Waiting = stays (session_after ticks session (sender_retried session.sender))
fired_in ticks session Quiet = (None, heard.Nothing)
fired_in ticks session Sending = (Some session, heard.Nothing)
fired_in ticks session Closing = (Some session, heard.Nothing)

unfoldable pub session_fired : TimerTicks → Session → Option Session × Heard
session_fired ticks session =
    fired_in ticks (record session { left = None }) (sender_phase session.sender)

-- one tick passes
unfoldable pub session_ticked : TimerTicks → Session → Option Session × Heard
session_ticked ticks session =
    if is_due (ticked session.left) then session_fired ticks session
    else (Some (record session { left = ticked session.left }), heard.Nothing)
