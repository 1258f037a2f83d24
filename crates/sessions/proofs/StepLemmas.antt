-- What the steps of one key keep.
use Rattle.std.specs.Prelude.{ℕ, ◌≡◌, Bool, true, false, Option, Some, None}
use Rattle.std.proofs.Common.{refl}
use Rattle.schc_ids.specs.Ends.{other_role}
use Rattle.schc_ids.specs.declared.ends.Role.{Role}
use Rattle.schc_ids.specs.declared.ends.Role.TheVariants.{Device, Gateway}
use Rattle.schc_ids.specs.declared.ends.TimerTicks.{TimerTicks}
use Rattle.schc_ids.specs.declared.fragments.FragParams.{FragParams}
use Rattle.schc_ids.specs.declared.notes.Heard.{Heard}
use Rattle.schc_ids.specs.declared.notes.Report.{Report}
use Rattle.schc_ids.specs.declared.phases.SenderPhase.{SenderPhase}
use Rattle.schc_ids.specs.declared.phases.SenderPhase.TheVariants.{Sending, Waiting, Closing, Quiet}
use Rattle.lorawan_profile.specs.Ports.{sending_of}
use Rattle.aoe_receiver.specs.State.{receiver_phase as aoe_phase, empty_receiver as aoe_empty}
use Rattle.sessions.specs.Holds.{is_armed, sender_timed, IsReceiving}
use Rattle.sessions.specs.Receivers.{new_receiver, receiver_phase}
use Rattle.sessions.specs.Data.{session_of}
use Rattle.sessions.specs.Senders.{sender_phase, sender_retried}
use Rattle.sessions.specs.Session.{sender_left, session_moved, session_fired, fired_in, heard_kind}
use Rattle.sessions.specs.Session.{reported}
use Rattle.sessions.specs.Steps.{fired_session}
use Rattle.sessions.specs.declared.receivers.Receiver.{Receiver}
use Rattle.sessions.specs.declared.senders.Sender.{Sender}
use Rattle.sessions.specs.declared.moves.Running.{Running}

-- the timer runs where it should, after a step as before
pub left-timed : (ticks : TimerTicks) (before after : SenderPhase) (left : Option ℕ)
    → is_armed left ≡ sender_timed before
    → is_armed (sender_left ticks before after left) ≡ sender_timed after
unfolding sender_left
left-timed ticks Sending Sending left h = h
left-timed ticks Sending Waiting left h = refl
left-timed ticks Sending Closing left h = refl
left-timed ticks Sending Quiet left h = refl
left-timed ticks Waiting Sending left h = refl
left-timed ticks Waiting Waiting left h = h
left-timed ticks Waiting Closing left h = refl
left-timed ticks Waiting Quiet left h = refl
left-timed ticks Closing Sending left h = refl
left-timed ticks Closing Waiting left h = refl
left-timed ticks Closing Closing left h = h
left-timed ticks Closing Quiet left h = refl
left-timed ticks Quiet Sending left h = refl
left-timed ticks Quiet Waiting left h = refl
left-timed ticks Quiet Closing left h = refl
left-timed ticks Quiet Quiet left h = h

-- a new receiver has the mode in which the other end sends, and no timer
pub new-receives : (role : Role) (acked : Bool)
    → IsReceiving role acked (new_receiver (sending_of (other_role role) acked).1.mode) None
unfolding new_receiver receiver_phase aoe_phase aoe_empty
new-receives Device true = record { row = refl; timed = refl }
new-receives Device false = record { row = refl; timed = refl }
new-receives Gateway true = record { row = refl; timed = refl }
new-receives Gateway false = record { row = refl; timed = refl }

-- a new receiver of the mode in which the other end sends, with no timer armed, is one of this end
pub new-is : (role other : Role) (acked : Bool) (way : ℕ × FragParams) (receiver : Receiver)
    (left : Option ℕ) → other ≡ other_role role → way ≡ sending_of other acked
    → receiver ≡ new_receiver way.1.mode → left ≡ None → IsReceiving role acked receiver left
new-is role other acked way receiver left o w r l = rw (l, r, w, o) (new-receives role acked)

-- the timer of the session is due, by where it stands
pub fired-quiet : (ticks : TimerTicks) (running : Option Running) (session : Running)
    → running ≡ Some session → sender_phase session.sender ≡ Quiet
    → fired_session ticks (session_of running None) ≡ (None, None)
unfolding session_fired fired_in
fired-quiet ticks running session e p = rw (e, p) refl

-- a timer that is due changes nothing of a session that is sending, and reports nothing
pub fired-sending : (ticks : TimerTicks) (running : Option Running) (session : Running)
    (left : Option ℕ) → running ≡ Some session → sender_phase session.sender ≡ Sending → left ≡ None
    → fired_session ticks
    (session_of running None) ≡ (
      Some
          (record { number = session.number; sender = session.sender; left = left }),
      None,
    )
unfolding session_fired fired_in
fired-sending ticks running session left e p l = rw (e, p, l) refl

-- a timer that is due changes nothing of a session that is closing, and reports nothing
pub fired-closing : (ticks : TimerTicks) (running : Option Running) (session : Running)
    (left : Option ℕ) → running ≡ Some session → sender_phase session.sender ≡ Closing → left ≡ None
    → fired_session ticks
    (session_of running None) ≡ (
      Some
          (record { number = session.number; sender = session.sender; left = left }),
      None,
    )
unfolding session_fired fired_in
fired-closing ticks running session left e p l = rw (e, p, l) refl

-- where the timer of a session that waits is due, its sender retries, and a failure is reported
pub fired-waiting : (ticks : TimerTicks) (running : Option Running) (session : Running)
    (sender : Sender) (heard : Heard) (left : Option ℕ) (report : Option Report)
    → running ≡ Some session → sender_phase session.sender ≡ Waiting
    → sender_retried session.sender ≡ (sender, heard)
    → report ≡ reported session.number (heard_kind heard)
    → left ≡ sender_left ticks Waiting (sender_phase sender) None
    → fired_session ticks
    (session_of running None) ≡ (
      Some
          (record { number = session.number; sender = sender; left = left }),
      report,
    )
unfolding session_fired fired_in session_moved
fired-waiting ticks running session sender heard left report e p h r l = rw (e, p, h, r, l, p) refl
