-- A sender that waits has nothing to send.
use Rattle.std.specs.Prelude.{◌≡◌, List, Option, Some, None}
use Rattle.std.proofs.Common.{refl}
use Rattle.schc_ids.specs.declared.phases.SenderPhase.TheVariants as phase
use Rattle.no_ack.specs.SenderState as no_ack
use Rattle.no_ack.specs.declared.states.NoAckSenderState.{NoAckSenderState}
use Rattle.no_ack.specs.declared.states.NoAckSenderState.TheVariants as no_ack_state
use Rattle.aa_sender.specs.State as aa
use Rattle.aa_sender.specs.Steps as aa_step
use Rattle.aa_sender.specs.declared.states.AaSenderState.{AaSenderState}
use Rattle.aa_sender.specs.declared.states.AaSenderState.TheVariants as aa_state
use Rattle.aoe_sender.specs.State as aoe
use Rattle.aoe_sender.specs.Steps as aoe_step
use Rattle.aoe_sender.specs.Tiles.{regular_count}
use Rattle.sessions.specs.Senders.{sender_phase, sender_due}
use Rattle.sessions.specs.Session.{Session}
use Rattle.sessions.specs.declared.senders.Sender.{Sender}
use Rattle.sessions.specs.declared.senders.Sender.TheVariants.{NoAck, AckAlways, AckOnError}
use Rattle.lanes.specs.Lane.{LaneParams, Begun, Lane}
use Rattle.lanes.specs.Laws.{WaitsWell}
use Rattle.lanes.specs.Runs.{lane_after}
use Rattle.lanes.specs.Waiting.{WaitsAfter, IsWaitingWell}
use Rattle.lanes.proofs.CheckedLemmas.{run-checked}
use Rattle.lanes.proofs.SenderKept.{SenderIs}
use Rattle.lanes.proofs.SenderLemmas.{IsSender}

no_ack-waits : (state : NoAckSenderState) → no_ack.phase_in state ≡ phase.Waiting → ⊥
no_ack-waits (no_ack_state.Sending i) e = cc
no_ack-waits no_ack_state.Closing e = cc
no_ack-waits no_ack_state.Quiet e = cc

aa-waits : (s : aa.AaSenderData) (state : AaSenderState) → s.state ≡ state
    → aa.phase_in state ≡ phase.Waiting → aa.StandsIn (aa.last_index s) state
    → WaitsAfter (AckAlways s)
unfolding sender_due aa_step.due_message aa_step.due_in
aa-waits s (aa_state.Waiting i attempts) e w h =
    record { nothing = rw e refl; attempts = attempts; counted = rw e refl; some = h.1; few = h.2 }
aa-waits s (aa_state.Sending i ack_req attempts) e w h = absurd cc
aa-waits s aa_state.Closing e w h = absurd cc
aa-waits s aa_state.Quiet e w h = absurd cc

aoe-waits : (s : aoe.AoeSenderData) (state : aoe.AoeSenderState) → s.state ≡ state
    → aoe_step.phase_in state ≡ phase.Waiting → aoe_step.IsStateOf (regular_count s) state
    → WaitsAfter (AckOnError s)
unfolding sender_due aoe_step.due_bytes aoe_step.due_message aoe_step.due_in aoe_step.phase_in
aoe-waits s (aoe.Waiting attempts) e w h =
    record { nothing = rw e refl; attempts = attempts; counted = rw e refl; some = h.0; few = h.1 }
aoe-waits s (aoe.Sending numbers attempts) e w h = absurd cc
aoe-waits s aoe.Closing e w h = absurd cc
aoe-waits s aoe.Quiet e w h = absurd cc

sender-waits : (sender : Sender) → IsSender sender → sender_phase sender ≡ phase.Waiting
    → WaitsAfter sender
unfolding sender_phase aoe_step.sender_phase
sender-waits (NoAck s) sound e = absurd (no_ack-waits s.state e)
sender-waits (AckAlways s) sound e = aa-waits s s.state refl e sound.stands
sender-waits (AckOnError s) sound e = aoe-waits s s.state refl e sound.state

session-waits : (params : LaneParams) (begins : List Begun) (session : Option Session)
    → SenderIs params begins session → IsWaitingWell session
session-waits params begins None k = tt
session-waits params begins (Some session) k = λ e. sender-waits session.sender k.of_it.sound e

-- a sender that waits for an answer has nothing to send, and has made one request to eight since
-- an answer counted
pub waits-well : WaitsWell
waits-well params events are possible =
    let l : Lane = lane_after params events in
    session-waits l.params l.begins l.sender (run-checked params events are possible).sender.1
