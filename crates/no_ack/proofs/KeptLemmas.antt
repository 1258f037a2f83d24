-- Each step of a sender leads to a sender of the same session.
use Rattle.std.specs.Prelude.{ℕ, ◌≡◌, ◌↔◌, ◌≤◌, ◌==◌, suc, Bool, true, false}
use Rattle.std.specs.Prelude.{None, if◌then◌else◌, option_map}
use Rattle.std.proofs.Common.{arith, inr, refl}
use Rattle.std.proofs.lemmas.Bool.{eqb-false}
use Rattle.frag_wire.proofs.DueLemmas.{IsStill, sending-moves, closing-moves}
use Rattle.no_ack.specs.Laws.{BeginsOne, StaysOne, KeepsSession, NoneDue}
use Rattle.no_ack.specs.SenderState.{NoAckSenderData, StandsIn, phase_in, last_index}
use Rattle.no_ack.specs.SenderSteps.{bytes_due, due_in, due_message, sent_in, sent, aborted_in}
use Rattle.no_ack.specs.SenderSteps.{aborted}
use Rattle.no_ack.specs.declared.states.NoAckSenderState.{NoAckSenderState}
use Rattle.no_ack.specs.declared.states.NoAckSenderState.TheVariants.{Sending, Closing, Quiet}
use Rattle.no_ack.proofs.SenderLemmas.{moved}

-- a session of the mode that begins, with MTU and packet length in range, has all that holds of a
-- sender
pub begins_one : BeginsOne
begins_one params mtu last bits row range least most =
    record { row = row; in_range = range; least = least; most = most; stands = omega arith }

next-stands : (last i : ℕ) (is_last : Bool) → i == last ≡ is_last → i ≤ last
    → StandsIn last (if is_last then Quiet else Sending (suc i))
next-stands last i true e h = tt
next-stands last i false e h = let other = eqb-false i last e in omega (arith, h, other)

sent-stands : (last : ℕ) (state : NoAckSenderState) → StandsIn last state
    → StandsIn last (sent_in last state)
unfolding sent_in
sent-stands last (Sending i) h = next-stands last i (i == last) refl h
sent-stands last Closing h = tt
sent-stands last Quiet h = tt

aborted-stands : (last : ℕ) (state : NoAckSenderState) → StandsIn last (aborted_in state).0
unfolding aborted_in
aborted-stands last (Sending i) = tt
aborted-stands last Closing = tt
aborted-stands last Quiet = tt

-- after its message was given, and after an abort, a sender has all that holds of every sender
pub stays_one : StaysOne
unfolding sent aborted
stays_one sender is =
    record {
      sends = moved sender (sent_in (last_index sender) sender.state) is
          (sent-stands (last_index sender) sender.state is.stands);
      aborts =
          moved sender (aborted_in sender.state).0 is
          (aborted-stands (last_index sender) sender.state);
    }

-- neither giving a message nor an abort changes the parameters, the MTU or the SCHC packet
pub keeps_session : KeepsSession
unfolding sent aborted
keeps_session sender = (
  record { params = refl; mtu = refl; bits = refl },
  record { params = refl; mtu = refl; bits = refl },
)

none-in : (sender : NoAckSenderData) (state : NoAckSenderState)
    → (option_map (bytes_due sender.params) (due_in sender state) ≡ None) ↔ IsStill (phase_in state)
unfolding due_in
none-in sender (Sending i) = (λ h. absurd (cc h), λ h. absurd (sending-moves h))
none-in sender Closing = (λ h. absurd (cc h), λ h. absurd (closing-moves h))
none-in sender Quiet = (λ h. inr refl, λ h. refl)

-- nothing is due exactly where the sender waits, which it never does here, or the session has ended
pub none_due : NoneDue
unfolding due_message
none_due sender = none-in sender sender.state
