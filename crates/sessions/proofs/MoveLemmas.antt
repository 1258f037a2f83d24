-- What a session or a receiver does, with its timer.
use Rattle.std.specs.Prelude.{ℕ, ◌≡◌, Bool, true, false, List, Option, Some, None, option_map}
use Rattle.std.proofs.Common.{refl, sym, ap, subst, ◌∙◌}
use Rattle.schc_ids.specs.declared.ends.EndParams.{EndParams}
use Rattle.schc_ids.specs.declared.ends.Role.{Role}
use Rattle.schc_ids.specs.declared.ends.TimerTicks.{TimerTicks}
use Rattle.schc_ids.specs.declared.notes.Heard.{Heard}
use Rattle.schc_ids.specs.declared.notes.Note.{Note}
use Rattle.schc_ids.specs.declared.notes.Report.{Report}
use Rattle.schc_ids.specs.declared.phases.ReceiverPhase.{ReceiverPhase}
use Rattle.schc_ids.specs.declared.phases.SenderPhase.{SenderPhase}
use Rattle.schc_ids.specs.declared.phases.SenderPhase.TheVariants.{Sending, Waiting, Closing, Quiet}
use Rattle.event_data.specs.declared.outcomes.EmitKind.{EmitKind}
use Rattle.frag_wire.specs.declared.message.Message.{Message}
use Rattle.sessions.specs.Clocks.{ClocksData, left_of, set_clock}
use Rattle.sessions.specs.declared.clocks.Clock.{Clock}
use Rattle.sessions.specs.declared.clocks.Clock.TheVariants as clock
use Rattle.sessions.specs.Data.{port_key, shown}
use Rattle.sessions.specs.Holds.{is_armed, sender_timed, IsRunning, AreRunning}
use Rattle.sessions.specs.Receivers.{receiver_phase, receiver_taken}
use Rattle.sessions.specs.Reception.{receiver_left, reception_taken}
use Rattle.sessions.specs.Senders.{sender_params, sender_mtu, sender_phase, sender_due, sender_sent}
use Rattle.sessions.specs.Senders.{sender_heard, sender_retried, sender_aborted}
use Rattle.sessions.specs.Session.{Session, sender_left, session_moved, session_sent, session_heard}
use Rattle.sessions.specs.Session.{session_aborted, sent_report, sent_kind, reported}
use Rattle.sessions.specs.Steps.{given}
use Rattle.sessions.specs.declared.moves.Running.{Running}
use Rattle.sessions.specs.declared.out.SessionOut.{SessionOut}
use Rattle.sessions.specs.declared.receivers.Receiver.{Receiver}
use Rattle.sessions.specs.declared.senders.Sender.{Sender}
use Rattle.sessions.proofs.SenderLemmas.{GoesOn, sent-still, retried-goes, retried-leaves}
use Rattle.sessions.proofs.StepLemmas.{left-timed}

-- what is left of the timer follows from where the senders stand before and after the step
pub left-is : (ticks : TimerTicks) (old new : Sender) (before after : SenderPhase) (left : Option ℕ)
    → before ≡ sender_phase old → after ≡ sender_phase new
    → sender_left ticks before after left ≡ sender_left ticks (sender_phase old) (sender_phase new)
    left
left-is ticks old new before after left b a = rw (b, a) refl

same-left : (ticks : TimerTicks) (phase : SenderPhase) (left : Option ℕ)
    → sender_left ticks phase phase left ≡ left
unfolding sender_left
same-left ticks Sending left = refl
same-left ticks Waiting left = refl
same-left ticks Closing left = refl
same-left ticks Quiet left = refl

-- the session goes on, and its timer runs where it should
pub moved-keeps : (ticks : TimerTicks) (number : ℕ) (old new : Sender) (left left' : Option ℕ)
    → GoesOn old new → left' ≡ sender_left ticks (sender_phase old) (sender_phase new) left
    → (role : Role) (params : EndParams)
    → IsRunning role params (record { number = number; sender = old }) left
    → IsRunning role params (record { number = number; sender = new }) left'
moved-keeps ticks number old new left left' goes l role params h = record {
  row = goes.params ∙ h.row;
  mtu = goes.mtu ∙ h.mtu;
  timed = ap is_armed l ∙ left-timed ticks (sender_phase old) (sender_phase new) left h.timed;
}

-- a message was given
pub given-after : (ticks : TimerTicks) (number : ℕ) (old new : Sender) (left left' : Option ℕ)
    → new ≡ sender_sent old → left' ≡ sender_left ticks (sender_phase old) (sender_phase new) left
    → shown (record { number = number; sender = new }) left' ≡ session_sent ticks
    (shown (record { number = number; sender = old }) left)
unfolding session_sent session_moved
given-after ticks number old new left left' s l = rw (l, s) refl

-- where these bytes are due, what is given is a frame of them by the port, with the report that the
-- session makes as it sends
pub given-is : (port : ℕ) (kind : EmitKind) (report : Option Report) (session : Session)
    (bytes : List ℕ) (due : Option (List ℕ)) → due ≡ Some bytes → report ≡ sent_report session
    → Some (record
    { frame = record { port = port; bytes = bytes }; kind = kind; report = report }) ≡ option_map
    (λ bytes. given (port_key port) bytes kind (sent_report session)) due
given-is port kind report session bytes due d r = rw (d, r) refl

-- the report by where a sender stands before and after it gave its message is that of its session
pub report-is : (number : ℕ) (old new : Sender) (left : Option ℕ) (before after : SenderPhase)
    (report : Option Report) → before ≡ sender_phase old → after ≡ sender_phase new
    → new ≡ sender_sent old → report ≡ reported number (sent_kind before after)
    → report ≡ sent_report (shown (record { number = number; sender = old }) left)
unfolding sent_report
report-is number old new left before after report b a n r = rw (r, b, a, n) refl

-- nothing was due
pub still-same : (old new : Sender) → new ≡ sender_sent old → sender_due old ≡ None → new ≡ old
still-same old new n d = n ∙ sent-still old d

-- where nothing is due, to give a message leaves the timer of the session as it was
pub still-after : (ticks : TimerTicks) (number : ℕ) (old new : Sender) (left : Option ℕ)
    → new ≡ sender_sent old → sender_due old ≡ None
    → shown (record { number = number; sender = new }) left ≡ session_sent ticks
    (shown (record { number = number; sender = old }) left)
unfolding session_sent session_moved
still-after ticks number old new left n d =
    rw (n, sent-still old d, same-left ticks (sender_phase old) left) refl

-- where nothing is due, a session of the end is still one after giving, with the same timer
pub still-keeps : (number : ℕ) (old new : Sender) (left : Option ℕ) → new ≡ sender_sent old
    → sender_due old ≡ None → (role : Role) (params : EndParams)
    → IsRunning role params (record { number = number; sender = old }) left
    → IsRunning role params (record { number = number; sender = new }) left
still-keeps number old new left n d role params h =
    subst (λ s. IsRunning role params (record { number = number; sender = s }) left)
    (sym (still-same old new n d)) h

-- an answer was heard
pub heard-exact : (ticks : TimerTicks) (message : Message) (number : ℕ) (old new : Sender)
    (heard : Heard) (left left' : Option ℕ) → sender_heard message old ≡ (new, heard)
    → left' ≡ sender_left ticks (sender_phase old) (sender_phase new) left
    → session_heard ticks message
    (shown (record { number = number; sender = old }) left) ≡ (
      shown
          (record { number = number; sender = new }) left',
      heard,
    )
unfolding session_heard session_moved
heard-exact ticks message number old new heard left left' e l = rw (e, l) refl

-- the session was given up
pub aborted-exact : (ticks : TimerTicks) (number : ℕ) (old new : Sender) (heard : Heard)
    (left left' : Option ℕ) → sender_aborted old ≡ (new, heard)
    → left' ≡ sender_left ticks (sender_phase old) (sender_phase new) left
    → session_aborted ticks
    (shown (record { number = number; sender = old }) left) ≡ (
      shown
          (record { number = number; sender = new }) left',
      heard,
    )
unfolding session_aborted session_moved
aborted-exact ticks number old new heard left left' e l = rw (e, l) refl

-- its timer was due
row-of : (role : Role) (params : EndParams) (running : Option Running) (session : Running)
    (left : Option ℕ) → running ≡ Some session → AreRunning role params running left
    → IsRunning role params session left
row-of role params running session left e h = subst (λ o. AreRunning role params o left) e h

-- a session of the end that waited is still one when its retransmission timer was due, and a timer
-- runs then where it should
pub fired-keeps-waiting : (ticks : TimerTicks) (running : Option Running) (session : Running)
    (new : Sender) (heard : Heard) (left' : Option ℕ) → running ≡ Some session
    → sender_phase session.sender ≡ Waiting → sender_retried session.sender ≡ (new, heard)
    → left' ≡ sender_left ticks Waiting (sender_phase new) None
    → (role : Role) (params : EndParams) (left : Option ℕ) → AreRunning role params running left
    → IsRunning role params (record { number = session.number; sender = new }) left'
fired-keeps-waiting ticks running session new heard left' r w e l role params left h =
    let was = row-of role params running session left r h in
    let goes = subst (λ step. GoesOn session.sender step.0) e (retried-goes session.sender) in
    let leaves =
    subst (λ step. is_armed
    (sender_left ticks Waiting (sender_phase step.0) None) ≡ sender_timed (sender_phase step.0))
    e (retried-leaves session.sender w ticks) in
    record { row = goes.params ∙ was.row; mtu = goes.mtu ∙ was.mtu; timed = ap is_armed l ∙ leaves }

pub fired-keeps-still : (running : Option Running) (session : Running) (left' : Option ℕ)
    → running ≡ Some session → sender_timed (sender_phase session.sender) ≡ false → left' ≡ None
    → (role : Role) (params : EndParams) (left : Option ℕ) → AreRunning role params running left
    → IsRunning role params session left'
fired-keeps-still running session left' r p l role params left h =
    let was = row-of role params running session left r h in
    record { row = was.row; mtu = was.mtu; timed = ap is_armed l ∙ sym p }

-- a message was taken
pub left_of-set : (c : Clock) (left : Option ℕ) (clocks : ClocksData)
    → left_of c (set_clock c left clocks) ≡ left
left_of-set clock.Sending left clocks = refl
left_of-set clock.Answering left clocks = refl
left_of-set clock.Silent left clocks = refl

-- what an end keeps of a receiver that took a message is the receiver after it, with the timer that
-- follows from where it stood, where it stands and what the message meant
pub taken-exact : (ticks : TimerTicks) (message : Message) (payload : List Bool)
    (old new : Receiver) (note : Note) (before after : ReceiverPhase) (c : Clock)
    (clocks clocks' : ClocksData) → receiver_taken message payload old ≡ (new, note)
    → before ≡ receiver_phase old → after ≡ receiver_phase new
    → clocks' ≡ set_clock c (receiver_left ticks before after note (left_of c clocks)) clocks
    → reception_taken ticks message payload
    (record { receiver = old; left = left_of c clocks }) ≡ (
      record
          { receiver = new; left = left_of c clocks' },
      note,
    )
unfolding reception_taken
taken-exact ticks message payload old new note before after c clocks clocks' e b a l =
    rw (
      e,
      l,
      b,
      a,
      left_of-set c
          (receiver_left ticks (receiver_phase old) (receiver_phase new) note (left_of c clocks))
          clocks,
    ) refl
