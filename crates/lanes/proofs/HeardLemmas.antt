-- Only an ACK with a C of 1 leads to a report of delivery.
use Rattle.std.specs.Prelude.{ℕ, ◌≡◌, ◌==◌, nat_le, Bool, true, false, if◌then◌else◌, List, [], ◌∷◌}
use Rattle.std.specs.Prelude.{Option, Some, None, Result, Ok, Err}
use Rattle.std.proofs.Common.{refl}
use Rattle.schc_ids.specs.declared.ends.TimerTicks.{TimerTicks}
use Rattle.schc_ids.specs.declared.faults.WireFault.{WireFault}
use Rattle.schc_ids.specs.declared.notes.Heard.{Heard}
use Rattle.schc_ids.specs.declared.notes.Heard.TheVariants as heard
use Rattle.schc_ids.specs.declared.notes.ReportKind.{ReportKind}
use Rattle.schc_ids.specs.declared.notes.ReportKind.TheVariants.{Delivered}
use Rattle.schc_ids.specs.declared.phases.SenderPhase.{SenderPhase}
use Rattle.schc_ids.specs.declared.phases.SenderPhase.TheVariants as phase
use Rattle.schc_ids.specs.Limits.{max_ack_requests}
use Rattle.frag_wire.specs.declared.message.Message.{Message}
use Rattle.frag_wire.specs.declared.message.Message.TheVariants as form
use Rattle.timers.specs.Timers.{ticked, is_due}
use Rattle.no_ack.specs.SenderSteps as no_ack_step
use Rattle.no_ack.specs.declared.states.NoAckSenderState.{NoAckSenderState}
use Rattle.no_ack.specs.declared.states.NoAckSenderState.TheVariants as no_ack_state
use Rattle.aa_sender.specs.State as aa
use Rattle.aa_sender.specs.Steps as aa_step
use Rattle.aa_sender.specs.declared.states.AaSenderState.{AaSenderState}
use Rattle.aa_sender.specs.declared.states.AaSenderState.TheVariants as aa_state
use Rattle.aoe_sender.specs.State as aoe
use Rattle.aoe_sender.specs.Steps as aoe_step
use Rattle.sessions.specs.Senders.{sender_phase, sender_sent, sender_heard, sender_retried}
use Rattle.sessions.specs.Senders.{sender_aborted}
use Rattle.sessions.specs.Session.{Session, sent_kind, heard_kind, session_heard, session_aborted}
use Rattle.sessions.specs.Session.{fired_in, session_fired, session_ticked}
use Rattle.sessions.specs.declared.senders.Sender.{Sender}
use Rattle.sessions.specs.declared.senders.Sender.TheVariants.{NoAck, AckAlways, AckOnError}
use Rattle.lanes.specs.Step.{kind_sent, heard_by, aborted_by, ticked_by}

abbrev IsDelivered : Option ReportKind → Type 0
IsDelivered kind = kind ≡ Some Delivered

-- the message is an ACK with a C of 1
abbrev IsDone : Message → Type 0
IsDone (form.Ack w true bitmap) = Unit {0}
IsDone (form.Ack w false bitmap) = ⊥
IsDone form.ReceiverAbort = ⊥
IsDone (form.Regular w fcn from) = ⊥
IsDone (form.All1 w rcs from) = ⊥
IsDone (form.AckReq w) = ⊥
IsDone form.SenderAbort = ⊥

-- what was heard isn't a delivery, but where this holds
abbrev Tells : Type 0 → Heard → Type 0
Tells P h = IsDelivered (heard_kind h) → P

-- ACK-Always.

aa_acked-tells : (i attempts w bitmap : ℕ) (is_last c came : Bool)
    → Tells (IsDone (form.Ack w c bitmap)) (aa_step.acked i attempts is_last c came).1
unfolding aa_step.acked
aa_acked-tells i attempts w bitmap is_last true came e = tt
aa_acked-tells i attempts w bitmap true false true e = absurd cc
aa_acked-tells i attempts w bitmap true false false e = absurd cc
aa_acked-tells i attempts w bitmap false false true e = absurd cc
aa_acked-tells i attempts w bitmap false false false e = absurd cc

either-tells : (P : Type 0) (b : Bool) (x y : AaSenderState × Heard) → Tells P x.1 → Tells P y.1
    → Tells P (if b then x else y).1
either-tells P true x y f g = f
either-tells P false x y f g = g

none-tells : (P : Type 0) → Tells P heard.Nothing
none-tells P e = absurd cc

waiting-tells : (last i attempts : ℕ) (message : Message)
    → Tells (IsDone message) (aa_step.heard_waiting last i attempts message).1
unfolding aa_step.heard_waiting aa_step.acked_window
waiting-tells last i attempts (form.Ack w c bitmap) =
    either-tells (IsDone (form.Ack w c bitmap)) (w == aa_step.window_of i) _ _
    (aa_acked-tells i attempts w bitmap (i == last) c (bitmap == 1))
    (none-tells (IsDone (form.Ack w c bitmap)))
waiting-tells last i attempts form.ReceiverAbort = λ e. absurd cc
waiting-tells last i attempts (form.Regular w fcn from) = λ e. absurd cc
waiting-tells last i attempts (form.All1 w rcs from) = λ e. absurd cc
waiting-tells last i attempts (form.AckReq w) = λ e. absurd cc
waiting-tells last i attempts form.SenderAbort = λ e. absurd cc

sending-tells : (state : AaSenderState) (message : Message)
    → Tells (IsDone message) (aa_step.heard_sending state message).1
unfolding aa_step.heard_sending
sending-tells state (form.Ack w c bitmap) = none-tells (IsDone (form.Ack w c bitmap))
sending-tells state form.ReceiverAbort = λ e. absurd cc
sending-tells state (form.Regular w fcn from) = λ e. absurd cc
sending-tells state (form.All1 w rcs from) = λ e. absurd cc
sending-tells state (form.AckReq w) = λ e. absurd cc
sending-tells state form.SenderAbort = λ e. absurd cc

aa-tells : (last : ℕ) (message : Message) (state : AaSenderState)
    → Tells (IsDone message) (aa_step.heard_in last message state).1
unfolding aa_step.heard_in
aa-tells last message (aa_state.Sending i ack_req attempts) =
    sending-tells (aa_state.Sending i ack_req attempts) message
aa-tells last message (aa_state.Waiting i attempts) = waiting-tells last i attempts message
aa-tells last message aa_state.Closing = none-tells (IsDone message)
aa-tells last message aa_state.Quiet = none-tells (IsDone message)

spent-tells : (last i attempts : ℕ) (spent : Bool)
    → Tells ⊥ (aa_step.retried_waiting last i attempts spent).1
unfolding aa_step.retried_waiting
spent-tells last i attempts true e = cc
spent-tells last i attempts false e = cc

aa_retried-tells : (last : ℕ) (state : AaSenderState) → Tells ⊥ (aa_step.retried_in last state).1
unfolding aa_step.retried_in
aa_retried-tells last (aa_state.Sending i ack_req attempts) = none-tells ⊥
aa_retried-tells last (aa_state.Waiting i attempts) =
    spent-tells last i attempts (nat_le max_ack_requests attempts)
aa_retried-tells last aa_state.Closing = none-tells ⊥
aa_retried-tells last aa_state.Quiet = none-tells ⊥

aa_aborted-tells : (state : AaSenderState) → Tells ⊥ (aa_step.aborted_in state).1
unfolding aa_step.aborted_in
aa_aborted-tells (aa_state.Sending i ack_req attempts) e = cc
aa_aborted-tells (aa_state.Waiting i attempts) e = cc
aa_aborted-tells aa_state.Closing e = cc
aa_aborted-tells aa_state.Quiet e = cc

-- No-ACK.

no_ack_aborted-tells : (state : NoAckSenderState) → Tells ⊥ (no_ack_step.aborted_in state).1
unfolding no_ack_step.aborted_in
no_ack_aborted-tells (no_ack_state.Sending i) e = cc
no_ack_aborted-tells no_ack_state.Closing e = cc
no_ack_aborted-tells no_ack_state.Quiet e = cc

-- ACK-on-Error.

asked_last-tells : (s : aoe.AoeSenderData) (numbers : List ℕ) (came : Bool)
    → Tells ⊥ (aoe_step.asked_last s numbers came).1
unfolding aoe_step.asked_last aoe_step.moves
asked_last-tells s [] true e = cc
asked_last-tells s [] false e = cc
asked_last-tells s (number ∷ numbers) came e = cc

asked-tells : (s : aoe.AoeSenderData) (window : ℕ) (bits : List Bool) (is_last below : Bool)
    → Tells ⊥ (aoe_step.asked s window bits is_last below).1
unfolding aoe_step.asked aoe_step.moves aoe_step.stays
asked-tells s window bits true below =
    asked_last-tells s (aoe_step.missing_of s window bits) (aoe_step.all1_came s.last bits)
asked-tells s window bits false true = λ e. cc
asked-tells s window bits false false = λ e. cc

aoe_acked-tells : (s : aoe.AoeSenderData) (window : ℕ) (c : Bool) (bitmap : ℕ)
    → Tells (IsDone (form.Ack window c bitmap)) (aoe_step.acked s window c bitmap).1
unfolding aoe_step.acked
aoe_acked-tells s window true bitmap e = tt
aoe_acked-tells s window false bitmap e = asked-tells s window _ _ _ e

aoe-tells : (message : Message) (s : aoe.AoeSenderData) (state : aoe.AoeSenderState)
    → Tells (IsDone message) (aoe_step.heard_in message s state).1
unfolding aoe_step.heard_in aoe_step.moves aoe_step.stays
aoe-tells (form.Ack window c bitmap) s (aoe.Waiting attempts) = aoe_acked-tells s window c bitmap
aoe-tells (form.Ack window c bitmap) s (aoe.Sending numbers attempts) =
    none-tells (IsDone (form.Ack window c bitmap))
aoe-tells (form.Ack window c bitmap) s aoe.Closing = none-tells (IsDone (form.Ack window c bitmap))
aoe-tells (form.Ack window c bitmap) s aoe.Quiet = none-tells (IsDone (form.Ack window c bitmap))
aoe-tells form.ReceiverAbort s (aoe.Sending numbers attempts) = λ e. absurd cc
aoe-tells form.ReceiverAbort s (aoe.Waiting attempts) = λ e. absurd cc
aoe-tells form.ReceiverAbort s aoe.Closing = λ e. absurd cc
aoe-tells form.ReceiverAbort s aoe.Quiet = λ e. absurd cc
aoe-tells (form.Regular w fcn from) s state = λ e. absurd cc
aoe-tells (form.All1 w rcs from) s state = λ e. absurd cc
aoe-tells (form.AckReq w) s state = λ e. absurd cc
aoe-tells form.SenderAbort s state = λ e. absurd cc

repeated-tells : (s : aoe.AoeSenderData) (attempts : ℕ) (more : Bool)
    → Tells ⊥ (aoe_step.repeated s attempts more).1
unfolding aoe_step.repeated aoe_step.moves
repeated-tells s attempts true e = cc
repeated-tells s attempts false e = cc

aoe_retried-tells : (s : aoe.AoeSenderData) (state : aoe.AoeSenderState)
    → Tells ⊥ (aoe_step.retried_in s state).1
unfolding aoe_step.retried_in aoe_step.stays
aoe_retried-tells s (aoe.Waiting attempts) = repeated-tells s attempts _
aoe_retried-tells s (aoe.Sending numbers attempts) = λ e. cc
aoe_retried-tells s aoe.Closing = λ e. cc
aoe_retried-tells s aoe.Quiet = λ e. cc

aoe_aborted-tells : (s : aoe.AoeSenderData) (state : aoe.AoeSenderState)
    → Tells ⊥ (aoe_step.aborted_in s state).1
unfolding aoe_step.aborted_in aoe_step.moves aoe_step.stays
aoe_aborted-tells s (aoe.Sending numbers attempts) e = cc
aoe_aborted-tells s (aoe.Waiting attempts) e = cc
aoe_aborted-tells s aoe.Closing e = cc
aoe_aborted-tells s aoe.Quiet e = cc

-- Every sender.

heard-tells : (message : Message) (sender : Sender)
    → Tells (IsDone message) (sender_heard message sender).1
unfolding sender_heard aa_step.heard aoe_step.heard
heard-tells message (NoAck s) = none-tells (IsDone message)
heard-tells message (AckAlways s) = aa-tells (aa.last_index s) message s.state
heard-tells message (AckOnError s) = aoe-tells message s s.state

retried-tells : (sender : Sender) → Tells ⊥ (sender_retried sender).1
unfolding sender_retried aa_step.retried aoe_step.retried
retried-tells (NoAck s) = none-tells ⊥
retried-tells (AckAlways s) = aa_retried-tells (aa.last_index s) s.state
retried-tells (AckOnError s) = aoe_retried-tells s s.state

aborted-tells : (sender : Sender) → Tells ⊥ (sender_aborted sender).1
unfolding sender_aborted no_ack_step.aborted aa_step.aborted aoe_step.aborted
aborted-tells (NoAck s) = no_ack_aborted-tells s.state
aborted-tells (AckAlways s) = aa_aborted-tells s.state
aborted-tells (AckOnError s) = aoe_aborted-tells s s.state

-- The session of a lane.

-- the answer that was read is an ACK with a C of 1
pub record IsAckOfAll (reading : Result Message WireFault) : Type 0 where
  pub w : ℕ
  pub bitmap : ℕ
  pub read : reading ≡ Ok (form.Ack w true bitmap)

done-ack : (message : Message) → IsDone message → IsAckOfAll (Ok message)
done-ack (form.Ack w true bitmap) h = record { w = w; bitmap = bitmap; read = refl }
done-ack (form.Ack w false bitmap) h = absurd h
done-ack form.ReceiverAbort h = absurd h
done-ack (form.Regular w fcn from) h = absurd h
done-ack (form.All1 w rcs from) h = absurd h
done-ack (form.AckReq w) h = absurd h
done-ack form.SenderAbort h = absurd h

-- where a session is reported delivered at an answer, that is an ACK with a C of 1
pub heard_by-tells : (ticks : TimerTicks) (session : Option Session)
    (reading : Result Message WireFault) → (heard_by ticks session reading).1 ≡ Some Delivered
    → IsAckOfAll reading
unfolding heard_by session_heard
heard_by-tells ticks None reading e = absurd cc
heard_by-tells ticks (Some session) (Err fault) e = absurd cc
heard_by-tells ticks (Some session) (Ok message) e =
    done-ack message (heard-tells message session.sender e)

-- a session that is given up is not reported delivered
pub aborted_by-tells : (ticks : TimerTicks) (session : Option Session)
    → (aborted_by ticks session).1 ≡ Some Delivered → ⊥
unfolding aborted_by session_aborted
aborted_by-tells ticks None e = cc
aborted_by-tells ticks (Some session) e = aborted-tells session.sender e

fired-tells : (ticks : TimerTicks) (session : Session) (at : SenderPhase)
    → Tells ⊥ (fired_in ticks session at).1
unfolding fired_in
fired-tells ticks session phase.Waiting e = retried-tells session.sender e
fired-tells ticks session phase.Quiet e = cc
fired-tells ticks session phase.Sending e = cc
fired-tells ticks session phase.Closing e = cc

ticked_if-tells : (ticks : TimerTicks) (session : Session) (b : Bool)
    → Tells ⊥
    (if b then session_fired ticks session
    else (Some (record session { left = ticked session.left }), heard.Nothing)).1
unfolding session_fired
ticked_if-tells ticks session true e =
    fired-tells ticks (record session { left = None }) (sender_phase session.sender) e
ticked_if-tells ticks session false e = cc

-- at a tick of the sender's end no session is reported delivered
pub ticked_by-tells : (ticks : TimerTicks) (session : Option Session)
    → (ticked_by ticks session).1 ≡ Some Delivered → ⊥
unfolding ticked_by session_ticked
ticked_by-tells ticks None e = cc
ticked_by-tells ticks (Some session) e =
    ticked_if-tells ticks session (is_due (ticked session.left)) e

sent_kind-tells : (before after : SenderPhase) → sent_kind before after ≡ Some Delivered → ⊥
sent_kind-tells phase.Sending phase.Quiet e = cc
sent_kind-tells phase.Sending phase.Sending e = cc
sent_kind-tells phase.Sending phase.Waiting e = cc
sent_kind-tells phase.Sending phase.Closing e = cc
sent_kind-tells phase.Waiting after e = cc
sent_kind-tells phase.Closing after e = cc
sent_kind-tells phase.Quiet after e = cc

-- a session that gives a message is not reported delivered by that
pub kind_sent-tells : (session : Session) → kind_sent session ≡ Some Delivered → ⊥
unfolding kind_sent
kind_sent-tells session e =
    sent_kind-tells (sender_phase session.sender) (sender_phase (sender_sent session.sender)) e
