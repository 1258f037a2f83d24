-- The parameters of a lane stay.
use Rattle.std.specs.Prelude.{ℕ, ◌≡◌}
use Rattle.std.proofs.Common.{refl}
use Rattle.schc_ids.specs.declared.fragments.Side.TheVariants as side
use Rattle.frag_wire.specs.Spells.{reading_in}
use Rattle.sessions.specs.Receivers.{receiver_due}
use Rattle.sessions.specs.Senders.{sender_due}
use Rattle.sessions.specs.Session.{Session}
use Rattle.lanes.specs.Events.{LaneEvent, Begin, Send, Answer, Fragment, Ack, SenderTick}
use Rattle.lanes.specs.Events.{ReceiverTick, Abort}
use Rattle.lanes.specs.Lane.{LaneParams, Lane}
use Rattle.lanes.specs.Step.{lane_session, lane_begins, lane_told, lane_step}
use Rattle.lanes.proofs.StepLemmas.{send-keeps, begin-keeps, take-keeps, answer-keeps}

abbrev HasParams : LaneParams → Lane → Type 0
HasParams params l = l.params ≡ params

-- no event changes the parameters of a lane
pub params-step : (time : ℕ) (l : Lane) (event : LaneEvent)
    → (lane_step time l event).params ≡ l.params
unfolding lane_step lane_begins lane_told
params-step time l (Begin place number bits) =
    let session : Session = lane_session l.params number bits in
    begin-keeps (HasParams l.params) time l
    (record { time = time; place = place; number = number; bits = bits }) session
    (sender_due session.sender) refl (λ sender out reports. refl)
params-step time l Send =
    send-keeps (HasParams l.params) time l l.sender (λ sender out reports. refl)
params-step time l Answer =
    answer-keeps (HasParams l.params) l (receiver_due l.reception.receiver)
    (λ reception back. refl)
params-step time l (Fragment m) =
    take-keeps (HasParams l.params) time l m
    (reading_in l.params.frag.mode side.Fragments m.bytes)
    (λ reception label kept_label checks joins. refl)
params-step time l (Ack m) = refl
params-step time l SenderTick = refl
params-step time l ReceiverTick = refl
params-step time l Abort = refl
