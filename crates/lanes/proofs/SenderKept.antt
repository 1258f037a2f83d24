-- The sender's session is the last that began.
use Rattle.std.specs.Prelude.{ℕ, ◌≡◌, Bool, true, false, if◌then◌else◌, List, [], ◌∷◌, ◌++◌, Option}
use Rattle.std.specs.Prelude.{Some, None, Result, Ok, Err}
use Rattle.schc_ids.specs.declared.ends.TimerTicks.{TimerTicks}
use Rattle.schc_ids.specs.declared.faults.WireFault.{WireFault}
use Rattle.schc_ids.specs.declared.fragments.Side.TheVariants as side
use Rattle.schc_ids.specs.declared.notes.Heard.TheVariants as heard
use Rattle.schc_ids.specs.declared.phases.SenderPhase.{SenderPhase}
use Rattle.schc_ids.specs.declared.phases.SenderPhase.TheVariants as phase
use Rattle.frag_wire.specs.Spells.{reading_in}
use Rattle.frag_wire.specs.declared.message.Message.{Message}
use Rattle.timers.specs.Timers.{ticked, is_due}
use Rattle.sessions.specs.Receivers.{receiver_due}
use Rattle.sessions.specs.Senders.{sender_phase, sender_due}
use Rattle.sessions.specs.Session.{Session, session_moved, session_sent, session_heard}
use Rattle.sessions.specs.Session.{session_aborted, fired_in, session_fired, session_ticked}
use Rattle.sessions.specs.declared.senders.Sender.{Sender}
use Rattle.lanes.specs.Events.{LaneEvent, Begin, Send, Answer, Fragment, Ack, SenderTick}
use Rattle.lanes.specs.Events.{ReceiverTick, Abort, Possible, CanBegin}
use Rattle.lanes.specs.Lane.{LaneParams, AreLaneParams, Begun, Lane, last_item}
use Rattle.lanes.specs.Step.{lane_session, lane_sent, lane_sends, lane_begun, lane_begins, heard_by}
use Rattle.lanes.specs.Step.{aborted_by, ticked_by, lane_told, lane_step}
use Rattle.lanes.proofs.ListLemmas.{last-push}
use Rattle.lanes.proofs.SenderLemmas.{IsSenderOf, begun-is, sent-is, heard-is, retried-is}
use Rattle.lanes.proofs.SenderLemmas.{aborted-is}
use Rattle.lanes.proofs.StepLemmas.{take-keeps, answer-keeps}

-- the sender is that of the last session that began
pub record IsLast (params : LaneParams) (begins : List Begun) (sender : Sender) : Type 0 where
  pub begun : Begun
  pub is_last : last_item begins ≡ Some begun
  pub of_it : IsSenderOf params begun.bits sender

-- where a session is under way, its sender is that of the last session that began
abbrev pub SenderIs : LaneParams → List Begun → Option Session → Type 0
SenderIs params begins None = Unit {0}
SenderIs params begins (Some session) = IsLast params begins session.sender

-- the parameters are those of a mode and in range, and the sender is that of the last session
abbrev pub SenderKeeps : Lane → Type 0
SenderKeeps l = AreLaneParams l.params × SenderIs l.params l.begins l.sender

-- the sender after a step of it
then-last : (params : LaneParams) (begins : List Begun) (before after : Sender)
    (k : IsLast params begins before) → IsSenderOf params k.begun.bits after
    → IsLast params begins after
then-last params begins before after k of_it =
    record { begun = k.begun; is_last = k.is_last; of_it = of_it }

session_sent-is : (params : LaneParams) (begins : List Begun) (ticks : TimerTicks)
    (session : Session) → IsLast params begins session.sender
    → SenderIs params begins (Some (session_sent ticks session))
unfolding session_sent session_moved
session_sent-is params begins ticks session k =
    then-last params begins session.sender _ k (sent-is params k.begun.bits session.sender k.of_it)

heard_by-is : (params : LaneParams) (begins : List Begun) (ticks : TimerTicks)
    (session : Option Session) (reading : Result Message WireFault) → SenderIs params begins session
    → SenderIs params begins (heard_by ticks session reading).0
unfolding heard_by session_heard session_moved
heard_by-is params begins ticks None reading k = tt
heard_by-is params begins ticks (Some session) (Err fault) k = k
heard_by-is params begins ticks (Some session) (Ok message) k =
    then-last params begins session.sender _ k
    (heard-is params k.begun.bits message session.sender k.of_it)

aborted_by-is : (params : LaneParams) (begins : List Begun) (ticks : TimerTicks)
    (session : Option Session) → SenderIs params begins session
    → SenderIs params begins (aborted_by ticks session).0
unfolding aborted_by session_aborted session_moved
aborted_by-is params begins ticks None k = tt
aborted_by-is params begins ticks (Some session) k =
    then-last params begins session.sender _ k
    (aborted-is params k.begun.bits session.sender k.of_it)

fired-is : (params : LaneParams) (begins : List Begun) (ticks : TimerTicks) (session : Session)
    (at : SenderPhase) → IsLast params begins session.sender
    → SenderIs params begins (fired_in ticks session at).0
unfolding fired_in session_moved
fired-is params begins ticks session phase.Waiting k =
    then-last params begins session.sender _ k
    (retried-is params k.begun.bits session.sender k.of_it)
fired-is params begins ticks session phase.Quiet k = tt
fired-is params begins ticks session phase.Sending k = k
fired-is params begins ticks session phase.Closing k = k

ticked_if-is : (params : LaneParams) (begins : List Begun) (ticks : TimerTicks) (session : Session)
    (b : Bool) → IsLast params begins session.sender
    → SenderIs params begins
    (if b then session_fired ticks session
    else (Some (record session { left = ticked session.left }), heard.Nothing)).0
unfolding session_fired
ticked_if-is params begins ticks session true k =
    fired-is params begins ticks (record session { left = None }) (sender_phase session.sender) k
ticked_if-is params begins ticks session false k = k

ticked_by-is : (params : LaneParams) (begins : List Begun) (ticks : TimerTicks)
    (session : Option Session) → SenderIs params begins session
    → SenderIs params begins (ticked_by ticks session).0
unfolding ticked_by session_ticked
ticked_by-is params begins ticks None k = tt
ticked_by-is params begins ticks (Some session) k =
    ticked_if-is params begins ticks session (is_due (ticked session.left)) k

sent_due-is : (time : ℕ) (l : Lane) (session : Session) (bytes : Option (List ℕ))
    → IsLast l.params l.begins session.sender → SenderKeeps l
    → SenderKeeps (lane_sent time l session bytes)
unfolding lane_sent
sent_due-is time l session None is k = k
sent_due-is time l session (Some bytes) is k =
    (k.0, session_sent-is l.params l.begins l.params.ends.ticks session is)

sends-is : (time : ℕ) (l : Lane) (session : Option Session) → SenderIs l.params l.begins session
    → SenderKeeps l → SenderKeeps (lane_sends time l session)
unfolding lane_sends
sends-is time l None is k = k
sends-is time l (Some session) is k = sent_due-is time l session (sender_due session.sender) is k

-- the session that begins is the last
pub begins-last : (l : Lane) (begun : Begun) → AreLaneParams l.params → CanBegin begun.bits
    → IsLast l.params (l.begins ++ begun ∷ [])
    (lane_session l.params begun.number begun.bits).sender
unfolding lane_session
begins-last l begun are can =
    record {
      begun = begun;
      is_last = last-push l.begins begun;
      of_it =
          begun-is l.params begun.bits are can;
    }

begun_due-is : (time : ℕ) (l : Lane) (begun : Begun) (session : Session) (bytes : Option (List ℕ))
    → IsLast l.params (l.begins ++ begun ∷ []) session.sender → SenderKeeps l
    → SenderKeeps (lane_begun time l begun session bytes)
unfolding lane_begun
begun_due-is time l begun session None is k = k
begun_due-is time l begun session (Some bytes) is k =
    (k.0, session_sent-is l.params (l.begins ++ begun ∷ []) l.params.ends.ticks session is)

-- after a possible event, too, the sender is that of the last session that began
pub sender-step : (time : ℕ) (l : Lane) (event : LaneEvent) → Possible time l event → SenderKeeps l
    → SenderKeeps (lane_step time l event)
unfolding lane_step lane_begins lane_told
sender-step time l (Begin place number bits) p k =
    let begun : Begun = record { time = time; place = place; number = number; bits = bits } in
    let session : Session = lane_session l.params number bits in
    begun_due-is time l begun session (sender_due session.sender) (begins-last l begun k.0 p.2) k
sender-step time l Send p k = sends-is time l l.sender k.1 k
sender-step time l Answer p k =
    answer-keeps SenderKeeps l (receiver_due l.reception.receiver) (λ reception back. k)
sender-step time l (Fragment m) p k =
    take-keeps SenderKeeps time l m (reading_in l.params.frag.mode side.Fragments m.bytes)
    (λ reception label kept_label checks joins. k)
sender-step time l (Ack m) p k = (
  k.0,
  heard_by-is l.params l.begins l.params.ends.ticks l.sender
      (reading_in l.params.frag.mode side.Answers m.bytes) k.1,
)
sender-step time l SenderTick p k =
    (k.0, ticked_by-is l.params l.begins l.params.ends.ticks l.sender k.1)
sender-step time l ReceiverTick p k = k
sender-step time l Abort p k =
    (k.0, aborted_by-is l.params l.begins l.params.ends.ticks l.sender k.1)
