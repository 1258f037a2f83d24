-- The receiver of a key has the key's mode: so it is on a lane, and in every world that events lead
-- to.
use Rattle.std.specs.List.{AllByRecursion}
use Rattle.std.proofs.Common.{◌≡◌, ℕ, List, Option, Some, None, Result, Ok, Err, refl, sym, subst}
use Rattle.std.proofs.Common.{◌∙◌}
use Rattle.schc_bits.specs.Bits.{octets}
use Rattle.schc_ids.specs.Params.{IsParams}
use Rattle.schc_ids.specs.declared.ends.EndParams.{EndParams}
use Rattle.schc_ids.specs.declared.faults.WireFault.{WireFault}
use Rattle.schc_ids.specs.declared.fragments.FragMode.{FragMode}
use Rattle.schc_ids.specs.declared.fragments.FragMode.TheVariants as mode
use Rattle.schc_ids.specs.declared.fragments.Side.TheVariants as side
use Rattle.frag_wire.specs.Layouts.{payload_in}
use Rattle.frag_wire.specs.Spells.{reading_in}
use Rattle.frag_wire.specs.declared.message.Message.{Message}
use Rattle.event_data.specs.Events.{Event, HandsBytes}
use Rattle.sessions.specs.Receivers.{new_receiver, receiver_mode, receiver_idled, receiver_lapsed}
use Rattle.sessions.specs.Receivers.{receiver_due, receiver_answered}
use Rattle.sessions.specs.Reception.{reception_taken, reception_answered}
use Rattle.sessions.specs.Senders.{sender_due}
use Rattle.sessions.specs.Session.{Session}
use Rattle.sessions.specs.declared.receivers.Receiver.{Receiver}
use Rattle.sessions.specs.declared.receivers.Receiver.TheVariants.{NoAck, AckAlways, AckOnError}
use Rattle.lanes.specs.Events.{LaneEvent, Begin, Send, Answer, Fragment, Ack, SenderTick}
use Rattle.lanes.specs.Events.{ReceiverTick, Abort, Possible}
use Rattle.lanes.specs.Lane.{Begun, Lane, LaneParams, Msg, new_lane}
use Rattle.lanes.specs.Runs.{ArePossible, lane_after}
use Rattle.lanes.specs.Step.{lane_session, lane_sent, lane_sends, lane_begun, lane_begins}
use Rattle.lanes.specs.Step.{lane_told, lane_taken, lane_took, lane_answered, lane_step}
use Rattle.lanes.proofs.LeadsLemmas.{taken-mode}
use Rattle.lanes.proofs.RunLemmas.{IsKept, run-keeps}
use Rattle.lanes.proofs.TickedLemmas.{OutlastsTimers, ticked-keeps}
use Rattle.two_ends.specs.History.{reception_at, start, run}
use Rattle.two_ends.specs.Keys.{Key, mode_of, lane_params}
use Rattle.two_ends.specs.Lanes.{lane_of, lane_run}
use Rattle.two_ends.proofs.KeepsLemmas.{run-lanes}
use Rattle.two_ends.proofs.PortLemmas.{mode-params}

-- the receiver of the lane has its mode
abbrev HasMode : Lane → Type 0
HasMode l = receiver_mode l.reception.receiver ≡ l.params.frag.mode

sent-mode : (time : ℕ) (l : Lane) (session : Session) (bytes : Option (List ℕ)) → HasMode l →
    HasMode (lane_sent time l session bytes)
unfolding lane_sent
sent-mode time l session None k = k
sent-mode time l session (Some bytes) k = k

sends-mode : (time : ℕ) (l : Lane) (session : Option Session) → HasMode l →
    HasMode (lane_sends time l session)
unfolding lane_sends
sends-mode time l None k = k
sends-mode time l (Some session) k = sent-mode time l session (sender_due session.sender) k

begun-mode : (time : ℕ) (l : Lane) (begun : Begun) (session : Session) (bytes : Option (List ℕ)) →
    HasMode l → HasMode (lane_begun time l begun session bytes)
unfolding lane_begun
begun-mode time l begun session None k = k
begun-mode time l begun session (Some bytes) k = k

took-mode : (time : ℕ) (l : Lane) (m : Msg) (reading : Result Message WireFault) → HasMode l →
    HasMode (lane_took time l m reading)
unfolding lane_took lane_taken reception_taken
took-mode time l m (Err fault) k = k
took-mode time l m (Ok message) k =
    taken-mode l.params.frag.mode message (payload_in message (octets m.bytes)) l.reception.receiver
    k

answered-mode : (m : FragMode) (r : Receiver) → receiver_mode r ≡ m →
    receiver_mode (receiver_answered r) ≡ m
unfolding receiver_answered
answered-mode m (NoAck r) e = e
answered-mode m (AckAlways r) e = e
answered-mode m (AckOnError r) e = e

answer-mode : (l : Lane) (bytes : Option (List ℕ)) → HasMode l → HasMode (lane_answered l bytes)
unfolding lane_answered reception_answered
answer-mode l None k = k
answer-mode l (Some bytes) k = answered-mode l.params.frag.mode l.reception.receiver k

idled-mode : (m : FragMode) (r : Receiver) → receiver_mode r ≡ m →
    receiver_mode (receiver_idled r) ≡ m
unfolding receiver_idled
idled-mode m (NoAck r) e = e
idled-mode m (AckAlways r) e = e
idled-mode m (AckOnError r) e = e

lapsed-mode : (m : FragMode) (r : Receiver) → receiver_mode r ≡ m →
    receiver_mode (receiver_lapsed r) ≡ m
unfolding receiver_lapsed
lapsed-mode m (NoAck r) e = e
lapsed-mode m (AckAlways r) e = e
lapsed-mode m (AckOnError r) e = e

mode-outlasts : (m : FragMode) → OutlastsTimers (λ r. receiver_mode r ≡ m)
mode-outlasts m = record { idles = idled-mode m; lapses = lapsed-mode m }

mode-step : IsKept Possible HasMode
unfolding lane_step lane_begins lane_told
mode-step time l (Begin place number bits) p k =
    let session : Session = lane_session l.params number bits in
    begun-mode time l (record { time = time; place = place; number = number; bits = bits }) session
    (sender_due session.sender) k
mode-step time l Send p k = sends-mode time l l.sender k
mode-step time l Answer p k = answer-mode l (receiver_due l.reception.receiver) k
mode-step time l (Fragment m) p k =
    took-mode time l m (reading_in l.params.frag.mode side.Fragments m.bytes) k
mode-step time l (Ack m) p k = k
mode-step time l SenderTick p k = k
mode-step time l ReceiverTick p k =
    ticked-keeps (λ r. receiver_mode r ≡ l.params.frag.mode) (mode-outlasts l.params.frag.mode)
    l.reception k
mode-step time l Abort p k = k

-- the receiver that is made for a mode, and keeps nothing, has that mode
pub new-mode : (m : FragMode) → receiver_mode (new_receiver m) ≡ m
unfolding new_receiver
new-mode mode.NoAck = refl
new-mode mode.AckAlways = refl
new-mode mode.AckOnError = refl

run-mode : (params : LaneParams) (events : List (ℕ × LaneEvent)) → ArePossible params events →
    HasMode (lane_after params events)
unfolding new_lane
run-mode params events possible =
    run-keeps Possible HasMode mode-step events (new_lane params) possible
    (new-mode params.frag.mode)

-- so it is in the world
pub world-mode : (params : EndParams) (key : Key) (events : List Event) → IsParams params →
    AllByRecursion HandsBytes events →
    receiver_mode (reception_at (run events (start params)).world key).receiver ≡ mode_of key
unfolding lane_of
world-mode params key events range bytes =
    let r = run-lanes params key events range bytes in
    subst HasMode (sym r.same)
    (run-mode (lane_params params key) (lane_run key (start params) events) r.possible)
    ∙ mode-params (mode_of key)
