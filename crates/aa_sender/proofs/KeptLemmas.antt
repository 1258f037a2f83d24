-- Each step of a sender leads to a sender.
use Rattle.std.specs.Prelude.{ℕ, ◌≡◌, ◌<◌, ◌≤◌, ◌==◌, suc, not, Bool, true, false, nat_le}
use Rattle.std.specs.Prelude.{if◌then◌else◌}
use Rattle.std.proofs.Common.{arith, refl}
use Rattle.std.proofs.lemmas.Bool.{eqb-false, leb-false}
use Rattle.schc_ids.specs.Limits.{max_ack_requests}
use Rattle.schc_ids.specs.declared.notes.Heard.{Heard}
use Rattle.frag_wire.specs.declared.message.Message.{Message}
use Rattle.frag_wire.specs.declared.message.Message.TheVariants as form
use Rattle.aa_sender.specs.Laws.{BeginsOne, StaysOne}
use Rattle.aa_sender.specs.State.{StandsIn, last_index}
use Rattle.aa_sender.specs.Steps.{window_of, sent_in, sent, acked, acked_window, heard_waiting}
use Rattle.aa_sender.specs.Steps.{heard_sending, heard_in, heard, retried_waiting, retried_in}
use Rattle.aa_sender.specs.Steps.{retried, aborted_in, aborted}
use Rattle.aa_sender.specs.declared.states.AaSenderState.{AaSenderState}
use Rattle.aa_sender.specs.declared.states.AaSenderState.TheVariants.{Sending, Waiting, Closing}
use Rattle.aa_sender.specs.declared.states.AaSenderState.TheVariants.{Quiet}
use Rattle.aa_sender.proofs.SenderLemmas.{stands-there}

-- a session that begins with ACK-Always parameters, and an MTU and bits in range, has a sender
pub begins_one : BeginsOne
begins_one params mtu last bits row range least most =
    record {
      row = row;
      in_range = range;
      least = least;
      most = most;
      stands = (omega arith, omega arith, λ e. absurd (cc));
    }

sent-stands : (last : ℕ) (state : AaSenderState) → StandsIn last state
    → StandsIn last (sent_in state)
unfolding sent_in
sent-stands last (Sending i ack_req attempts) (inside, few, other) =
    (inside, omega arith, omega (arith, few))
sent-stands last (Waiting i attempts) h = h
sent-stands last Closing h = tt
sent-stands last Quiet h = tt

sending-stands : (last i : ℕ) → i ≤ last → StandsIn last (Sending i false 0)
sending-stands last i h = (h, omega arith, λ e. absurd (cc))

acked-stands : (last i attempts : ℕ) (is_last c came : Bool) → i == last ≡ is_last
    → StandsIn last (Waiting i attempts) → StandsIn last (acked i attempts is_last c came).0
unfolding acked
acked-stands last i attempts true true came e h = tt
acked-stands last i attempts true false true e h = tt
acked-stands last i attempts true false false e (inside, some, few) = sending-stands last i inside
acked-stands last i attempts false true came e h = h
acked-stands last i attempts false false true e (inside, some, few) =
    let other = eqb-false i last e in
    sending-stands last (suc i) (omega (arith, inside, other))
acked-stands last i attempts false false false e (inside, some, few) = sending-stands last i inside

either-stands : (last : ℕ) (b : Bool) (x y : AaSenderState × Heard) → StandsIn last x.0
    → StandsIn last y.0 → StandsIn last (if b then x else y).0
either-stands last true x y f g = f
either-stands last false x y f g = g

waiting-stands : (last i attempts : ℕ) (message : Message) → StandsIn last (Waiting i attempts)
    → StandsIn last (heard_waiting last i attempts message).0
unfolding heard_waiting acked_window
waiting-stands last i attempts (form.Ack w c bitmap) h =
    either-stands last (w == window_of i) _ _
    (acked-stands last i attempts (i == last) c (bitmap == 1) refl h) h
waiting-stands last i attempts form.ReceiverAbort h = tt
waiting-stands last i attempts (form.Regular w fcn from) h = h
waiting-stands last i attempts (form.All1 w rcs from) h = h
waiting-stands last i attempts (form.AckReq w) h = h
waiting-stands last i attempts form.SenderAbort h = h

heard_sending-stands : (last : ℕ) (state : AaSenderState) (message : Message) → StandsIn last state
    → StandsIn last (heard_sending state message).0
unfolding heard_sending
heard_sending-stands last state (form.Ack w c bitmap) h = h
heard_sending-stands last state form.ReceiverAbort h = tt
heard_sending-stands last state (form.Regular w fcn from) h = h
heard_sending-stands last state (form.All1 w rcs from) h = h
heard_sending-stands last state (form.AckReq w) h = h
heard_sending-stands last state form.SenderAbort h = h

heard-stands : (last : ℕ) (message : Message) (state : AaSenderState) → StandsIn last state
    → StandsIn last (heard_in last message state).0
unfolding heard_in
heard-stands last message (Sending i ack_req attempts) h =
    heard_sending-stands last (Sending i ack_req attempts) message h
heard-stands last message (Waiting i attempts) h = waiting-stands last i attempts message h
heard-stands last message Closing h = tt
heard-stands last message Quiet h = tt

other-than-last : (i last : ℕ) (is_last : Bool) → i == last ≡ is_last → i ≤ last
    → not is_last ≡ true → i < last
other-than-last i last true e h k = absurd (cc)
other-than-last i last false e h k = let other = eqb-false i last e in omega (arith, h, other)

retried_waiting-stands : (last i attempts : ℕ) (spent : Bool)
    → nat_le max_ack_requests attempts ≡ spent → StandsIn last (Waiting i attempts)
    → StandsIn last (retried_waiting last i attempts spent).0
unfolding retried_waiting
retried_waiting-stands last i attempts true e h = tt
retried_waiting-stands last i attempts false e (inside, some, few) =
    (inside, leb-false max_ack_requests attempts e, other-than-last i last (i == last) refl inside)

retried-stands : (last : ℕ) (state : AaSenderState) → StandsIn last state
    → StandsIn last (retried_in last state).0
unfolding retried_in
retried-stands last (Sending i ack_req attempts) h = h
retried-stands last (Waiting i attempts) h =
    retried_waiting-stands last i attempts (nat_le max_ack_requests attempts) refl h
retried-stands last Closing h = tt
retried-stands last Quiet h = tt

aborted-stands : (last : ℕ) (state : AaSenderState) → StandsIn last (aborted_in state).0
unfolding aborted_in
aborted-stands last (Sending i ack_req attempts) = tt
aborted-stands last (Waiting i attempts) = tt
aborted-stands last Closing = tt
aborted-stands last Quiet = tt

-- a sender is still one after it sent, heard a message, had its timer due, or was told to abort
pub stays_one : StaysOne
unfolding sent heard retried aborted
stays_one sender is =
    record {
      sends = stands-there sender (sent_in sender.state) is
          (sent-stands (last_index sender) sender.state is.stands);
      hears = λ message. stands-there sender (heard_in (last_index sender) message sender.state).0
          is (heard-stands (last_index sender) message sender.state is.stands);
      retries =
          stands-there sender (retried_in (last_index sender) sender.state).0 is
          (retried-stands (last_index sender) sender.state is.stands);
      aborts =
          stands-there sender (aborted_in sender.state).0 is
          (aborted-stands (last_index sender) sender.state);
    }
