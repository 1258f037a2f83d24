-- What the steps of a receiver keep: its mode, and that its timer runs where it should.
use Rattle.std.specs.Prelude.{ℕ, ◌≡◌, Bool, true, false, if◌then◌else◌, List, Option, Some, None}
use Rattle.std.specs.Prelude.{option_map}
use Rattle.std.proofs.Common.{refl, sym, ap, ◌∙◌, subst}
use Rattle.schc_ids.specs.Fragments.{params_of}
use Rattle.schc_ids.specs.declared.ends.Role.{Role}
use Rattle.schc_ids.specs.declared.ends.TimerTicks.{TimerTicks}
use Rattle.schc_ids.specs.declared.fragments.FragMode.TheVariants as mode
use Rattle.schc_ids.specs.declared.notes.Note.{Note}
use Rattle.schc_ids.specs.declared.phases.ReceiverPhase.{ReceiverPhase}
use Rattle.schc_ids.specs.declared.phases.ReceiverPhase.TheVariants as phase
use Rattle.frag_wire.specs.Layouts.{written}
use Rattle.frag_wire.specs.declared.message.Message.{Message}
use Rattle.no_ack.specs.ReceiverState as no_ack
use Rattle.no_ack.specs.ReceiverSteps as no_ack_step
use Rattle.aa_receiver.specs.State as aa
use Rattle.aa_receiver.specs.Steps as aa_step
use Rattle.aoe_receiver.specs.State as aoe
use Rattle.aoe_receiver.specs.Steps as aoe_step
use Rattle.lorawan_profile.specs.Ports.{sending_of}
use Rattle.schc_ids.specs.Ends.{other_role}
use Rattle.timers.specs.Timers.{ticked, is_due}
use Rattle.sessions.specs.Clocks.{unless_due}
use Rattle.sessions.specs.Holds.{is_armed, receiver_timed, IsReceiving}
use Rattle.sessions.specs.Receivers.{receiver_mode, receiver_phase, receiver_taken, receiver_idled}
use Rattle.sessions.specs.Receivers.{receiver_lapsed, receiver_due, receiver_answered}
use Rattle.sessions.specs.Reception.{Reception, receiver_left, receiver_ticks, same_receiver_phase}
use Rattle.sessions.specs.Reception.{is_remnant, receiver_fired, reception_taken}
use Rattle.sessions.specs.declared.receivers.Receiver.{Receiver}
use Rattle.sessions.specs.declared.receivers.Receiver.TheVariants.{NoAck, AckAlways, AckOnError}

pub taken-mode : (message : Message) (payload : List Bool) (r : Receiver)
    → receiver_mode (receiver_taken message payload r).0 ≡ receiver_mode r
unfolding receiver_taken
taken-mode message payload (NoAck r) = refl
taken-mode message payload (AckAlways r) = refl
taken-mode message payload (AckOnError r) = refl

armed-ticks : (ticks : TimerTicks) (after : ReceiverPhase)
    → is_armed (receiver_ticks ticks after) ≡ receiver_timed after
armed-ticks ticks phase.Empty = refl
armed-ticks ticks phase.Gathering = refl
armed-ticks ticks phase.Finished = refl

left-if : (ticks : TimerTicks) (before after : ReceiverPhase) (left : Option ℕ) (same : Bool)
    → same_receiver_phase before after ≡ same → is_armed left ≡ receiver_timed before
    → is_armed (if same then left else receiver_ticks ticks after) ≡ receiver_timed after
left-if ticks before after left false s h = armed-ticks ticks after
left-if ticks phase.Empty phase.Empty left true s h = h
left-if ticks phase.Empty phase.Gathering left true s h = absurd cc
left-if ticks phase.Empty phase.Finished left true s h = absurd cc
left-if ticks phase.Gathering phase.Empty left true s h = absurd cc
left-if ticks phase.Gathering phase.Gathering left true s h = h
left-if ticks phase.Gathering phase.Finished left true s h = absurd cc
left-if ticks phase.Finished phase.Empty left true s h = absurd cc
left-if ticks phase.Finished phase.Gathering left true s h = absurd cc
left-if ticks phase.Finished phase.Finished left true s h = h

left-remnant : (ticks : TimerTicks) (before after : ReceiverPhase) (note : Note) (left : Option ℕ)
    (remnant : Bool) → is_remnant note ≡ remnant → is_armed left ≡ receiver_timed before
    → is_armed (receiver_left ticks before after note left) ≡ receiver_timed after
unfolding receiver_left
left-remnant ticks before after note left true r h =
    rw r (left-if ticks before after left (same_receiver_phase before after) refl h)
left-remnant ticks before after note left false r h = rw r (armed-ticks ticks after)

pub received-timed : (ticks : TimerTicks) (before after : ReceiverPhase) (note : Note)
    (left : Option ℕ) → is_armed left ≡ receiver_timed before
    → is_armed (receiver_left ticks before after note left) ≡ receiver_timed after
received-timed ticks before after note left h =
    left-remnant ticks before after note left (is_remnant note) refl h

-- a message was taken
pub taken-keeps : (ticks : TimerTicks) (message : Message) (payload : List Bool)
    (old new : Receiver) (left left' : Option ℕ) (note : Note)
    → reception_taken ticks message payload
    (record { receiver = old; left = left }) ≡ (record { receiver = new; left = left' }, note)
    → (role : Role) (acked : Bool) → IsReceiving role acked old left
    → IsReceiving role acked new left'
unfolding reception_taken
taken-keeps ticks message payload old new left left' note e role acked h =
    let r = ap (λ step. step.0.receiver) e in
    let l = ap (λ step. step.0.left) e in record {
      row = ap receiver_mode (sym r) ∙ taken-mode message payload old ∙ h.row;
      timed =
          ap is_armed (sym l)
          ∙ received-timed ticks (receiver_phase old)
          (receiver_phase (receiver_taken message payload old).0)
          (receiver_taken message payload old).1 left h.timed
          ∙ ap (λ x. receiver_timed (receiver_phase x)) r;
    }

-- an answer was given
answered-phase : (r : Receiver) → receiver_phase (receiver_answered r) ≡ receiver_phase r
unfolding receiver_phase receiver_answered aa_step.answered aoe_step.answered aoe.receiver_phase
answered-phase (NoAck r) = refl
answered-phase (AckAlways (aa.Empty abort)) = refl
answered-phase (AckAlways (aa.Gathering bits count answer)) = refl
answered-phase (AckAlways (aa.Finished w answer)) = refl
answered-phase (AckOnError (aoe.Empty abort)) = refl
answered-phase (AckOnError (aoe.Gathering tiles kept answer)) = refl
answered-phase (AckOnError (aoe.Finished tiles last answer)) = refl

answered-mode : (r : Receiver) → receiver_mode (receiver_answered r) ≡ receiver_mode r
unfolding receiver_answered
answered-mode (NoAck r) = refl
answered-mode (AckAlways r) = refl
answered-mode (AckOnError r) = refl

-- a receiver that gave an answer still has its mode, and its timer runs where it should
pub answered-keeps : (role : Role) (acked : Bool) (r : Receiver) (left : Option ℕ)
    → IsReceiving role acked r left → IsReceiving role acked (receiver_answered r) left
answered-keeps role acked r left h =
    record {
      row = answered-mode r ∙ h.row;
      timed = h.timed
          ∙ ap receiver_timed (sym (answered-phase r));
    }

-- the timer was due
fired-phase : (r : Receiver) → receiver_phase (receiver_fired (receiver_phase r) r) ≡ phase.Empty
unfolding receiver_phase receiver_fired receiver_idled receiver_lapsed no_ack_step.idled
    no_ack_step.lapsed aa_step.idled aa_step.lapsed aoe_step.idled aoe_step.lapsed
    aoe.receiver_phase
fired-phase (NoAck no_ack.Empty) = refl
fired-phase (NoAck (no_ack.Gathering kept)) = refl
fired-phase (AckAlways (aa.Empty abort)) = refl
fired-phase (AckAlways (aa.Gathering bits count answer)) = refl
fired-phase (AckAlways (aa.Finished w answer)) = refl
fired-phase (AckOnError (aoe.Empty abort)) = refl
fired-phase (AckOnError (aoe.Gathering tiles kept answer)) = refl
fired-phase (AckOnError (aoe.Finished tiles last answer)) = refl

fired-mode : (p : ReceiverPhase) (r : Receiver)
    → receiver_mode (receiver_fired p r) ≡ receiver_mode r
unfolding receiver_fired receiver_idled receiver_lapsed
fired-mode phase.Empty r = refl
fired-mode phase.Gathering (NoAck r) = refl
fired-mode phase.Gathering (AckAlways r) = refl
fired-mode phase.Gathering (AckOnError r) = refl
fired-mode phase.Finished (NoAck r) = refl
fired-mode phase.Finished (AckAlways r) = refl
fired-mode phase.Finished (AckOnError r) = refl

-- a tick neither arms nor disarms a timer
pub ticked-armed : (left : Option ℕ) → is_armed (ticked left) ≡ is_armed left
ticked-armed None = refl
ticked-armed (Some left) = refl

fired-if : (role : Role) (acked : Bool) (r : Receiver) (left : Option ℕ) (due : Bool)
    → is_armed left ≡ receiver_timed (receiver_phase r)
    → receiver_mode r ≡ (sending_of (other_role role) acked).1.mode
    → IsReceiving role acked (if due then receiver_fired (receiver_phase r) r else r)
    (if due then None else left)
fired-if role acked r left true t m =
    record {
      row = fired-mode (receiver_phase r) r ∙ m;
      timed =
          ap receiver_timed (sym (fired-phase r));
    }
fired-if role acked r left false t m = record { row = m; timed = t }

-- a receiver still has its mode after a tick, and its timer runs where it should, due or not
pub ticked-keeps : (role : Role) (acked : Bool) (old new : Receiver) (left left' : Option ℕ)
    (due : Bool) → new ≡ (if due then receiver_fired (receiver_phase old) old else old)
    → due ≡ is_due (ticked left) → left' ≡ unless_due (ticked left)
    → IsReceiving role acked old left → IsReceiving role acked new left'
unfolding unless_due
ticked-keeps role acked old new left left' due n d l h =
    rw (n, l, d)
    (fired-if role acked old (ticked left) (is_due (ticked left)) (ticked-armed left ∙ h.timed)
    h.row)

-- where nothing is due, nothing changes
still-aa : (r : aa.AaReceiverData) → aa_step.due_bytes r ≡ None → aa_step.answered r ≡ r
unfolding aa_step.due_answer aa_step.answered
still-aa (aa.Empty true) e = absurd cc
still-aa (aa.Empty false) e = refl
still-aa (aa.Gathering bits count (Some answer)) e = absurd cc
still-aa (aa.Gathering bits count None) e = refl
still-aa (aa.Finished w true) e = absurd cc
still-aa (aa.Finished w false) e = refl

still-aoe : (r : aoe.AoeReceiverData) → aoe_step.due_bytes r ≡ None → aoe_step.answered r ≡ r
unfolding aoe_step.due_bytes aoe_step.due_answer aoe_step.answered
still-aoe (aoe.Empty true) e = absurd cc
still-aoe (aoe.Empty false) e = refl
still-aoe (aoe.Gathering tiles kept true) e = absurd cc
still-aoe (aoe.Gathering tiles kept false) e = refl
still-aoe (aoe.Finished tiles last true) e = absurd cc
still-aoe (aoe.Finished tiles last false) e = refl

-- a receiver of which no answer is due is the same after giving one
pub answered-still : (r : Receiver) → receiver_due r ≡ None → receiver_answered r ≡ r
unfolding receiver_due receiver_answered
answered-still (NoAck r) e = refl
answered-still (AckAlways r) e = ap AckAlways (still-aa r e)
answered-still (AckOnError r) e = ap AckOnError (still-aoe r e)
