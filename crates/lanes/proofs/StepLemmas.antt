-- What holds of a lane whatever the parts that a step changes are holds after the step.
use Rattle.std.specs.Prelude.{ℕ, List, [], ◌∷◌, ◌++◌, Option, Some, None, Result, Ok, Err}
use Rattle.schc_ids.specs.declared.faults.WireFault.{WireFault}
use Rattle.frag_wire.specs.declared.message.Message.{Message}
use Rattle.sessions.specs.Reception.{Reception}
use Rattle.sessions.specs.Senders.{sender_due}
use Rattle.sessions.specs.Session.{Session}
use Rattle.lanes.specs.Lane.{Begun, Check, LaneReport, Lane, Msg}
use Rattle.lanes.specs.Step.{lane_sent, lane_sends, lane_begun, lane_taken, lane_took}
use Rattle.lanes.specs.Step.{lane_answered}

-- this holds of the lane whatever its sender, the messages that it sent and the reports are
abbrev pub AfterSend : (Lane → Type 0) → Lane → Type 0
AfterSend P l =
    (sender : Option Session) (out : List Msg) (reports : List LaneReport)
    → P (record l { sender = sender; out = out; reports = reports })

sent-keeps : (P : Lane → Type 0) (time : ℕ) (l : Lane) (session : Session)
    (bytes : Option (List ℕ)) → AfterSend P l → P (lane_sent time l session bytes)
unfolding lane_sent
sent-keeps P time l session None k = k l.sender l.out l.reports
sent-keeps P time l session (Some bytes) k = k _ _ _

-- what holds whatever these are holds after the session under way gave a message
pub send-keeps : (P : Lane → Type 0) (time : ℕ) (l : Lane) (session : Option Session)
    → AfterSend P l → P (lane_sends time l session)
unfolding lane_sends
send-keeps P time l None k = k l.sender l.out l.reports
send-keeps P time l (Some session) k =
    sent-keeps P time l session (sender_due session.sender) k

-- this holds whatever these are, where one more session has begun
abbrev pub AfterBegin : (Lane → Type 0) → Lane → Begun → Type 0
AfterBegin P l begun =
    (sender : Option Session) (out : List Msg) (reports : List LaneReport) →
    P (record l {
      sender = sender;
      out = out;
      begins = l.begins ++ begun ∷ [];
      reports = reports;
    })

-- what holds before a session begins, and whatever these are when it has, holds after it began
pub begin-keeps : (P : Lane → Type 0) (time : ℕ) (l : Lane) (begun : Begun) (session : Session)
    (bytes : Option (List ℕ)) → P l → AfterBegin P l begun
    → P (lane_begun time l begun session bytes)
unfolding lane_begun
begin-keeps P time l begun session None k after = k
begin-keeps P time l begun session (Some bytes) k after = after _ _ _

-- this holds of the lane whatever its receiver, its labels, the checks and the joins are
abbrev pub AfterTake : (Lane → Type 0) → Lane → Type 0
AfterTake P l =
    (reception : Reception) (label kept_label : Option ℕ) (checks joins : List Check) →
    P (record l {
      reception = reception;
      label = label;
      kept_label = kept_label;
      checks = checks;
      joins = joins;
    })

-- what holds whatever these are holds after the receiver took a message
pub take-keeps : (P : Lane → Type 0) (time : ℕ) (l : Lane) (m : Msg)
    (reading : Result Message WireFault) → AfterTake P l → P (lane_took time l m reading)
unfolding lane_took lane_taken
take-keeps P time l m (Err fault) k = k l.reception l.label l.kept_label l.checks l.joins
take-keeps P time l m (Ok message) k = k _ _ _ _ _

-- this holds of the lane whatever its receiver and the answers that it gave are
abbrev pub AfterAnswer : (Lane → Type 0) → Lane → Type 0
AfterAnswer P l =
    (reception : Reception) (back : List Msg)
    → P (record l { reception = reception; back = back })

-- what holds whatever these are holds after the receiver gave an answer
pub answer-keeps : (P : Lane → Type 0) (l : Lane) (bytes : Option (List ℕ)) → AfterAnswer P l
    → P (lane_answered l bytes)
unfolding lane_answered
answer-keeps P l None k = k l.reception l.back
answer-keeps P l (Some bytes) k = k _ _
