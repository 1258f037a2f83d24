-- A report of delivery comes after a join, where the events are fresh.
use Rattle.std.specs.Prelude.{ℕ, ◌≡◌, ◌+◌, ◌<◌, Bool, true, false, if◌then◌else◌, List, [], ◌∷◌}
use Rattle.std.specs.Prelude.{◌++◌, Option, Some, None, Result, Ok, Err}
use Rattle.std.proofs.Common.{refl, sym, ap, subst, ◌∙◌, inl, inr}
use Rattle.std.specs.List.{AllByRecursion}
use Rattle.schc_bits.specs.Bits.{octets}
use Rattle.schc_ids.specs.declared.faults.WireFault.{WireFault}
use Rattle.schc_ids.specs.declared.fragments.FragMode.{FragMode}
use Rattle.schc_ids.specs.declared.fragments.Side.TheVariants as side
use Rattle.schc_ids.specs.declared.notes.Note.{Note}
use Rattle.schc_ids.specs.declared.notes.ReportKind.{ReportKind}
use Rattle.schc_ids.specs.declared.notes.ReportKind.TheVariants.{Delivered}
use Rattle.schc_ids.specs.declared.phases.ReceiverPhase.{ReceiverPhase}
use Rattle.schc_ids.specs.declared.phases.ReceiverPhase.TheVariants.{Empty, Gathering, Finished}
use Rattle.frag_wire.specs.Layouts.{payload_in}
use Rattle.frag_wire.specs.Spells.{reading_in}
use Rattle.frag_wire.specs.declared.message.Message.{Message}
use Rattle.frag_wire.specs.declared.message.Message.TheVariants as form
use Rattle.tiles_bitmap.specs.Places.{Among}
use Rattle.no_ack.specs.ReceiverState as no_ack
use Rattle.no_ack.specs.ReceiverSteps as no_ack_step
use Rattle.aa_receiver.specs.State as aa
use Rattle.aa_receiver.specs.Steps as aa_step
use Rattle.aoe_receiver.specs.State as aoe
use Rattle.aoe_receiver.specs.Steps as aoe_step
use Rattle.sessions.specs.Receivers.{receiver_mode, receiver_phase, receiver_previewed}
use Rattle.sessions.specs.Receivers.{receiver_idled, receiver_lapsed, receiver_due}
use Rattle.sessions.specs.Receivers.{receiver_answered}
use Rattle.sessions.specs.Reception.{is_remnant, reception_taken, reception_answered}
use Rattle.sessions.specs.Reception.{reception_ticked}
use Rattle.sessions.specs.Senders.{sender_due}
use Rattle.sessions.specs.Session.{Session}
use Rattle.sessions.specs.declared.receivers.Receiver.{Receiver}
use Rattle.sessions.specs.declared.receivers.Receiver.TheVariants.{NoAck, AckAlways, AckOnError}
use Rattle.lanes.specs.Earned.{IsJoinedBefore, IsEarned}
use Rattle.lanes.specs.Events.{LaneEvent, Begin, Send, Answer, Fragment, Ack, SenderTick}
use Rattle.lanes.specs.Events.{ReceiverTick, Abort, Possible}
use Rattle.lanes.specs.Fresh.{IsOfLast, IsFreshAnswer, IsFresh}
use Rattle.lanes.specs.Lane.{LaneParams, Begun, Check, LaneReport, Lane, Msg, session_place}
use Rattle.lanes.specs.Step.{msg, told, kind_sent, label_after, checked_label, checks_of}
use Rattle.lanes.specs.Step.{lane_session, lane_sent, lane_sends, lane_begun, lane_begins, heard_by}
use Rattle.lanes.specs.Step.{aborted_by, ticked_by, lane_told, lane_taken, lane_took, lane_answered}
use Rattle.lanes.specs.Step.{lane_step}
use Rattle.lanes.proofs.AnswerLemmas.{due-finished}
use Rattle.lanes.proofs.HeardLemmas.{IsAckOfAll, heard_by-tells, aborted_by-tells, ticked_by-tells}
use Rattle.lanes.proofs.HeardLemmas.{kind_sent-tells}
use Rattle.lanes.proofs.JoinsKept.{among-made}
use Rattle.lanes.proofs.LeadsLemmas.{IsSeen, Comes, taken-comes, taken-mode}
use Rattle.lanes.proofs.ListLemmas.{all-weaken, all-append, all-among, among-more, among-after}
use Rattle.lanes.proofs.PassedLemmas.{CameIs, KeptIs, passed-is, taken-kept, answered-kept}
use Rattle.lanes.proofs.PassedLemmas.{idled-kept, lapsed-kept}
use Rattle.lanes.proofs.StepLemmas.{AfterSend, send-keeps, begin-keeps, answer-keeps}
use Rattle.lanes.proofs.TickedLemmas.{ticked-keeps}

-- this session was joined
pub record IsJoined (joins : List Check) (label : Option ℕ) : Type 0 where
  pub join : Check
  pub there : Among join joins
  pub of_it : join.session ≡ label

pub joined-more : (joins more : List Check) (label : Option ℕ) → IsJoined joins label
    → IsJoined (joins ++ more) label
joined-more joins more label k =
    record { join = k.join; there = among-more k.join joins more k.there; of_it = k.of_it }

-- The receiver.

-- what a receiver that isn't empty keeps is of the last session; one that has finished has joined
-- it
abbrev pub PhaseIs : List Begun → List Check → Option ℕ → ReceiverPhase → Type 0
PhaseIs begins joins label Empty = Unit {0}
PhaseIs begins joins label Gathering = label ≡ session_place begins
PhaseIs begins joins label Finished = (label ≡ session_place begins) × IsJoined joins label

-- the label is that of the last session
abbrev pub IsLastLabel : List Begun → Option ℕ → ℕ → Type 0
IsLastLabel begins label rcs = label ≡ session_place begins

-- the receiver is of the lane's mode, and what it keeps is of the last session; where it has
-- finished, that session was joined
pub record ReceiverKeeps (l : Lane) : Type 0 where
  pub mode_is : receiver_mode l.reception.receiver ≡ l.params.frag.mode
  pub phase_is : PhaseIs l.begins l.joins l.label (receiver_phase l.reception.receiver)
  pub kept_is : KeptIs (IsLastLabel l.begins l.kept_label) l.reception.receiver

-- the label after a message of the last session
if-label : (b : Bool) (label before place : Option ℕ) → before ≡ place → label ≡ place
    → (if b then before else label) ≡ place
if-label true label before place e f = e
if-label false label before place e f = f

label-either : (meaning : Note) (label before place : Option ℕ) → before ≡ place → label ≡ place
    → label_after meaning label before ≡ place
unfolding label_after
label-either meaning label before place e f = if-label (is_remnant meaning) label before place e f

label-new : (meaning : Note) (label before : Option ℕ) → is_remnant meaning ≡ false
    → label_after meaning label before ≡ label
unfolding label_after
label-new meaning label before e = rw e refl

taken-joined : (joins : List Check) (time : ℕ) (session label : Option ℕ)
    (seen : Option (List Bool)) → IsSeen seen → session ≡ label
    → IsJoined (joins ++ checks_of time session seen) label
taken-joined joins time session label seen (assembly, e) same =
    record {
      join = record { time = time; assembly = assembly; session = session };
      there = among-after _ joins (checks_of time session seen)
          (among-made time session seen assembly e);
      of_it = same;
    }

-- what came of a message of the last session
phase-after : (begins : List Begun) (joins : List Check) (time : ℕ) (old label session : Option ℕ)
    (seen : Option (List Bool)) (meaning : Note) (before after : ReceiverPhase) →
    Comes before seen meaning after → label ≡ session_place begins
    → (IsSeen seen → session ≡ session_place begins) → PhaseIs begins joins old before →
    PhaseIs begins (joins ++ checks_of time session seen) (label_after meaning label old) after
phase-after begins joins time old label session seen meaning before Empty c e f k = tt
phase-after begins joins time old label session seen meaning before Gathering (inl new) e f k =
    label-new meaning label old new ∙ e
phase-after begins joins time old label session seen meaning before Gathering (inr same) e f k =
    label-either meaning label old (session_place begins) (subst (PhaseIs begins joins old) same k)
    e
phase-after begins joins time old label session seen meaning before Finished (inl (new, some)) e f
    k =
    let last : label_after meaning label old ≡ session_place begins =
    label-new meaning label old new ∙ e in (
      last,
      taken-joined joins time session (label_after meaning label old) seen some
          (f some ∙ sym last),
    )
phase-after begins joins time old label session seen meaning before Finished (inr same) e f k =
    let old_is : PhaseIs begins joins old Finished = subst (PhaseIs begins joins old) same k in
    let last : label_after meaning label old ≡ session_place begins =
    label-either meaning label old (session_place begins) old_is.0 e in (
      last,
      joined-more joins (checks_of time session seen) (label_after meaning label old)
          (subst (IsJoined joins) (old_is.0 ∙ sym last) old_is.1),
    )

came-last : (begins : List Begun) (label : Option ℕ) (message : Message)
    → label ≡ session_place begins → CameIs (IsLastLabel begins label) message
came-last begins label (form.All1 w rcs from) e = e
came-last begins label (form.Regular w fcn from) e = tt
came-last begins label (form.Ack w c bitmap) e = tt
came-last begins label (form.AckReq w) e = tt
came-last begins label form.SenderAbort e = tt
came-last begins label form.ReceiverAbort e = tt

-- the session whose All-1 passed a check is the last
seen-last : (begins : List Begun) (label kept : Option ℕ) (message : Message) (payload : List Bool)
    (r : Receiver) → label ≡ session_place begins → KeptIs (IsLastLabel begins kept) r
    → IsSeen (receiver_previewed message payload r)
    → checked_label message label kept ≡ session_place begins
seen-last begins label kept message payload r e k (assembly, seen) =
    (passed-is (IsLastLabel begins) label kept message payload r assembly
    (came-last begins label message e) k seen).rcs_is

taken-is : (time : ℕ) (l : Lane) (label : Option ℕ) (message : Message) (payload : List Bool)
    → label ≡ session_place l.begins → ReceiverKeeps l
    → ReceiverKeeps (lane_taken time l label message payload)
unfolding lane_taken reception_taken
taken-is time l label message payload e k =
    let r : Receiver = l.reception.receiver in
    record {
      mode_is = taken-mode l.params.frag.mode message payload r k.mode_is;
      phase_is =
          phase-after l.begins l.joins time l.label label (checked_label message label l.kept_label)
          (receiver_previewed message payload r) _ (receiver_phase r) _
          (taken-comes message payload r) e
          (seen-last l.begins label l.kept_label message payload r e k.kept_is) k.phase_is;
      kept_is =
          taken-kept (IsLastLabel l.begins) label l.kept_label message payload r
          (came-last l.begins label message e) k.kept_is;
    }

took-is : (time : ℕ) (l : Lane) (m : Msg) (reading : Result Message WireFault) → IsOfLast l m
    → ReceiverKeeps l → ReceiverKeeps (lane_took time l m reading)
unfolding lane_took
took-is time l m (Err fault) e k = k
took-is time l m (Ok message) e k =
    taken-is time l m.label message (payload_in message (octets m.bytes)) e k

-- what the sender does leaves the receiver as it was
receiver-unmoved : (l : Lane) → ReceiverKeeps l → AfterSend ReceiverKeeps l
receiver-unmoved l k sender out reports =
    record { mode_is = k.mode_is; phase_is = k.phase_is; kept_is = k.kept_is }

-- an empty receiver keeps nothing
kept-empty : (P : ℕ → Type 0) (r : Receiver) → receiver_phase r ≡ Empty → KeptIs P r
unfolding receiver_phase aoe.receiver_phase
kept-empty P (NoAck r) e = tt
kept-empty P (AckAlways r) e = tt
kept-empty P (AckOnError (aoe.Empty abort)) e = tt
kept-empty P (AckOnError (aoe.Gathering tiles kept answer)) e = absurd cc
kept-empty P (AckOnError (aoe.Finished tiles last answer)) e = absurd cc

begun-is : (time : ℕ) (l : Lane) (begun : Begun) (session : Session) (bytes : Option (List ℕ))
    → receiver_phase l.reception.receiver ≡ Empty → ReceiverKeeps l
    → ReceiverKeeps (lane_begun time l begun session bytes)
begun-is time l begun session bytes e k =
    begin-keeps ReceiverKeeps time l begun session bytes k (λ sender out reports.
    record {
      mode_is = k.mode_is;
      phase_is = subst (PhaseIs (l.begins ++ begun ∷ []) l.joins l.label) (sym e) tt;
      kept_is =
          kept-empty (IsLastLabel (l.begins ++ begun ∷ []) l.kept_label) l.reception.receiver e;
    })

told-is : (time : ℕ) (l : Lane) (step : Option Session × Option ReportKind) → ReceiverKeeps l
    → ReceiverKeeps (lane_told time l step)
unfolding lane_told
told-is time l step k = receiver-unmoved l k _ _ _

-- a receiver that gives its answer stays in its phase
pub answered-phase : (P : ReceiverPhase → Type 0) (r : Receiver) → P (receiver_phase r)
    → P (receiver_phase (receiver_answered r))
unfolding receiver_answered receiver_phase aa_step.answered aoe_step.answered aoe.receiver_phase
answered-phase P (NoAck r) k = k
answered-phase P (AckAlways (aa.Empty abort)) k = k
answered-phase P (AckAlways (aa.Gathering bits count answer)) k = k
answered-phase P (AckAlways (aa.Finished last answer)) k = k
answered-phase P (AckOnError (aoe.Empty abort)) k = k
answered-phase P (AckOnError (aoe.Gathering tiles kept answer)) k = k
answered-phase P (AckOnError (aoe.Finished tiles last answer)) k = k

answered-mode : (m : FragMode) (r : Receiver) → receiver_mode r ≡ m
    → receiver_mode (receiver_answered r) ≡ m
unfolding receiver_answered
answered-mode m (NoAck r) e = e
answered-mode m (AckAlways r) e = e
answered-mode m (AckOnError r) e = e

answered-is : (l : Lane) (bytes : Option (List ℕ)) → ReceiverKeeps l
    → ReceiverKeeps (lane_answered l bytes)
unfolding lane_answered reception_answered
answered-is l None k = k
answered-is l (Some bytes) k =
    record {
      mode_is = answered-mode l.params.frag.mode l.reception.receiver k.mode_is;
      phase_is = answered-phase (PhaseIs l.begins l.joins l.label) l.reception.receiver k.phase_is;
      kept_is = answered-kept (IsLastLabel l.begins l.kept_label) l.reception.receiver k.kept_is;
    }

-- what holds also of an empty receiver outlasts the timers
pub idled-phase : (P : ReceiverPhase → Type 0) → P Empty → (r : Receiver) → P (receiver_phase r)
    → P (receiver_phase (receiver_idled r))
unfolding receiver_idled receiver_phase no_ack_step.idled aa_step.idled aoe_step.idled
    aoe.receiver_phase
idled-phase P empty (NoAck no_ack.Empty) k = k
idled-phase P empty (NoAck (no_ack.Gathering kept)) k = empty
idled-phase P empty (AckAlways (aa.Empty abort)) k = k
idled-phase P empty (AckAlways (aa.Gathering bits count answer)) k = empty
idled-phase P empty (AckAlways (aa.Finished last answer)) k = k
idled-phase P empty (AckOnError (aoe.Empty abort)) k = k
idled-phase P empty (AckOnError (aoe.Gathering tiles kept answer)) k = empty
idled-phase P empty (AckOnError (aoe.Finished tiles last answer)) k = k

-- what holds of a receiver's phase, and of Empty, still holds when the receiver has lingered
pub lapsed-phase : (P : ReceiverPhase → Type 0) → P Empty → (r : Receiver) → P (receiver_phase r)
    → P (receiver_phase (receiver_lapsed r))
unfolding receiver_lapsed receiver_phase no_ack_step.lapsed aa_step.lapsed aoe_step.lapsed
    aoe.receiver_phase
lapsed-phase P empty (NoAck r) k = k
lapsed-phase P empty (AckAlways (aa.Empty abort)) k = k
lapsed-phase P empty (AckAlways (aa.Gathering bits count answer)) k = k
lapsed-phase P empty (AckAlways (aa.Finished last answer)) k = empty
lapsed-phase P empty (AckOnError (aoe.Empty abort)) k = k
lapsed-phase P empty (AckOnError (aoe.Gathering tiles kept answer)) k = k
lapsed-phase P empty (AckOnError (aoe.Finished tiles last answer)) k = empty

idled-mode : (m : FragMode) (r : Receiver) → receiver_mode r ≡ m
    → receiver_mode (receiver_idled r) ≡ m
unfolding receiver_idled
idled-mode m (NoAck r) e = e
idled-mode m (AckAlways r) e = e
idled-mode m (AckOnError r) e = e

lapsed-mode : (m : FragMode) (r : Receiver) → receiver_mode r ≡ m
    → receiver_mode (receiver_lapsed r) ≡ m
unfolding receiver_lapsed
lapsed-mode m (NoAck r) e = e
lapsed-mode m (AckAlways r) e = e
lapsed-mode m (AckOnError r) e = e

ticked-is : (l : Lane) → ReceiverKeeps l
    → ReceiverKeeps
    (record l { reception = reception_ticked l.reception; receiver_time = l.receiver_time + 1 })
ticked-is l k =
    let phase : ReceiverPhase → Type 0 = PhaseIs l.begins l.joins l.label in
    let kept : ℕ → Type 0 = IsLastLabel l.begins l.kept_label in
    record {
      mode_is =
          ticked-keeps (λ r. receiver_mode r ≡ l.params.frag.mode)
          (record {
            idles = idled-mode l.params.frag.mode;
            lapses =
                lapsed-mode l.params.frag.mode;
          }) l.reception k.mode_is;
      phase_is =
          ticked-keeps (λ r. phase (receiver_phase r))
          (record { idles = idled-phase phase tt; lapses = lapsed-phase phase tt }) l.reception
          k.phase_is;
      kept_is =
          ticked-keeps (KeptIs kept) (record { idles = idled-kept kept; lapses = lapsed-kept kept })
          l.reception k.kept_is;
    }

-- after a fresh event, too, the receiver keeps what is of the last session alone, and where it has
-- finished, that session was joined
pub receiver-step : (time : ℕ) (l : Lane) (event : LaneEvent) → IsFresh time l event
    → ReceiverKeeps l → ReceiverKeeps (lane_step time l event)
unfolding lane_step lane_begins
receiver-step time l (Begin place number bits) f k =
    let session : Session = lane_session l.params number bits in
    begun-is time l (record { time = time; place = place; number = number; bits = bits }) session
    (sender_due session.sender) f k
receiver-step time l Send f k = send-keeps ReceiverKeeps time l l.sender (receiver-unmoved l k)
receiver-step time l Answer f k = answered-is l (receiver_due l.reception.receiver) k
receiver-step time l (Fragment m) f k =
    took-is time l m (reading_in l.params.frag.mode side.Fragments m.bytes) f k
receiver-step time l (Ack m) f k =
    told-is time l
    (heard_by l.params.ends.ticks l.sender (reading_in l.params.frag.mode side.Answers m.bytes)) k
receiver-step time l SenderTick f k =
    told-is time (record l { sender_time = l.sender_time + 1 })
    (ticked_by l.params.ends.ticks l.sender)
    (record { mode_is = k.mode_is; phase_is = k.phase_is; kept_is = k.kept_is })
receiver-step time l ReceiverTick f k = ticked-is l k
receiver-step time l Abort f k = told-is time l (aborted_by l.params.ends.ticks l.sender) k

-- The answers.

-- where the message is an ACK with a C of 1, its session was joined
abbrev pub IsRightAnswer : LaneParams → List Check → Msg → Type 0
IsRightAnswer params joins m =
    (w bitmap : ℕ) → reading_in params.frag.mode side.Answers m.bytes ≡ Ok (form.Ack w true bitmap)
    → IsJoined joins m.label

-- each ACK with a C of 1 that was given belongs to a session that was joined
abbrev pub BackKeeps : Lane → Type 0
BackKeeps l = AllByRecursion (IsRightAnswer l.params l.joins) l.back

back-more : (params : LaneParams) (joins more : List Check) (back : List Msg)
    → AllByRecursion (IsRightAnswer params joins) back
    → AllByRecursion (IsRightAnswer params (joins ++ more)) back
back-more params joins more back k =
    all-weaken (IsRightAnswer params joins) (IsRightAnswer params (joins ++ more)) back
    (λ m right w bitmap e. joined-more joins more m.label (right w bitmap e)) k

finished-joined : (begins : List Begun) (joins : List Check) (label : Option ℕ) (at : ReceiverPhase)
    → at ≡ Finished → PhaseIs begins joins label at → IsJoined joins label
finished-joined begins joins label at e k =
    let here : PhaseIs begins joins label Finished = subst (PhaseIs begins joins label) e k in
    here.1

answer-back : (l : Lane) (bytes : Option (List ℕ)) → receiver_due l.reception.receiver ≡ bytes
    → ReceiverKeeps l → BackKeeps l → BackKeeps (lane_answered l bytes)
unfolding lane_answered
answer-back l None e r k = k
answer-back l (Some bytes) e r k =
    all-append (IsRightAnswer l.params l.joins) l.back (msg l.label l.receiver_time bytes ∷ []) k (
      λ w bitmap read. finished-joined l.begins l.joins l.label
          (receiver_phase l.reception.receiver)
          (due-finished l.params.frag.mode l.reception.receiver bytes w bitmap r.mode_is e read)
          r.phase_is,
      tt,
    )

took-back : (time : ℕ) (l : Lane) (m : Msg) (reading : Result Message WireFault) → BackKeeps l
    → BackKeeps (lane_took time l m reading)
unfolding lane_took lane_taken
took-back time l m (Err fault) k = k
took-back time l m (Ok message) k =
    back-more l.params l.joins
    (checks_of time (checked_label message m.label l.kept_label)
    (receiver_previewed message (payload_in message (octets m.bytes)) l.reception.receiver))
    l.back k

-- after one more event, too, each ACK with a C of 1 belongs to a joined session, where that of a
-- receiver that has finished was joined
pub back-step : (time : ℕ) (l : Lane) (event : LaneEvent) → ReceiverKeeps l → BackKeeps l
    → BackKeeps (lane_step time l event)
unfolding lane_step lane_begins lane_told
back-step time l (Begin place number bits) r k =
    let session : Session = lane_session l.params number bits in
    begin-keeps BackKeeps time l
    (record { time = time; place = place; number = number; bits = bits }) session
    (sender_due session.sender) k (λ sender out reports. k)
back-step time l Send r k = send-keeps BackKeeps time l l.sender (λ sender out reports. k)
back-step time l Answer r k = answer-back l (receiver_due l.reception.receiver) refl r k
back-step time l (Fragment m) r k =
    took-back time l m (reading_in l.params.frag.mode side.Fragments m.bytes) k
back-step time l (Ack m) r k = k
back-step time l SenderTick r k = k
back-step time l ReceiverTick r k = k
back-step time l Abort r k = k

-- The reports.

-- each session that is reported delivered was joined before it was reported
abbrev pub ReportsKeep : Lane → Type 0
ReportsKeep l = AllByRecursion (IsEarned l.joins) l.reports

told-earned : (joins : List Check) (time : ℕ) (label : Option ℕ) (kind : Option ReportKind)
    → (kind ≡ Some Delivered → IsJoinedBefore joins label time)
    → AllByRecursion (IsEarned joins) (told time label kind)
unfolding told
told-earned joins time label None f = tt
told-earned joins time label (Some kind) f = (λ e. f (ap (λ kind. Some kind) e), tt)

more-earned : (joins : List Check) (reports : List LaneReport) (time : ℕ) (label : Option ℕ)
    (kind : Option ReportKind) → (kind ≡ Some Delivered → IsJoinedBefore joins label time)
    → AllByRecursion (IsEarned joins) reports
    → AllByRecursion (IsEarned joins) (reports ++ told time label kind)
more-earned joins reports time label kind f k =
    all-append (IsEarned joins) reports (told time label kind) k
    (told-earned joins time label kind f)

sent-reports : (time : ℕ) (l : Lane) (session : Session) (bytes : Option (List ℕ)) → ReportsKeep l
    → ReportsKeep (lane_sent time l session bytes)
unfolding lane_sent
sent-reports time l session None k = k
sent-reports time l session (Some bytes) k =
    more-earned l.joins l.reports time (session_place l.begins) (kind_sent session)
    (λ e. absurd (kind_sent-tells session e)) k

sends-reports : (time : ℕ) (l : Lane) (session : Option Session) → ReportsKeep l
    → ReportsKeep (lane_sends time l session)
unfolding lane_sends
sends-reports time l None k = k
sends-reports time l (Some session) k = sent-reports time l session (sender_due session.sender) k

begun-reports : (time : ℕ) (l : Lane) (begun : Begun) (session : Session) (bytes : Option (List ℕ))
    → ReportsKeep l → ReportsKeep (lane_begun time l begun session bytes)
unfolding lane_begun
begun-reports time l begun session None k = k
begun-reports time l begun session (Some bytes) k =
    more-earned l.joins l.reports time (Some begun.place) (kind_sent session)
    (λ e. absurd (kind_sent-tells session e)) k

earned-more : (joins more : List Check) (report : LaneReport) → IsEarned joins report
    → IsEarned (joins ++ more) report
earned-more joins more report earned e =
    let k = earned e in
    record {
      join = k.join;
      there = among-more k.join joins more k.there;
      of_it = k.of_it;
      earlier =
          k.earlier;
    }

took-reports : (time : ℕ) (l : Lane) (m : Msg) (reading : Result Message WireFault) → ReportsKeep l
    → ReportsKeep (lane_took time l m reading)
unfolding lane_took lane_taken
took-reports time l m (Err fault) k = k
took-reports time l m (Ok message) k =
    let more : List Check =
    checks_of time (checked_label message m.label l.kept_label)
    (receiver_previewed message (payload_in message (octets m.bytes)) l.reception.receiver) in
    all-weaken (IsEarned l.joins) (IsEarned (l.joins ++ more)) l.reports (earned-more l.joins more)
    k

-- a fresh answer that is an ACK belongs to the last session
fresh-label : (l : Lane) (m : Msg) (reading : Result Message WireFault) (w bitmap : ℕ)
    → reading ≡ Ok (form.Ack w true bitmap) → IsFreshAnswer l m reading
    → m.label ≡ session_place l.begins
fresh-label l m reading w bitmap e f =
    let here : IsFreshAnswer l m (Ok (form.Ack w true bitmap)) = subst (IsFreshAnswer l m) e f in
    here

before : (joins : List Check) (time : ℕ) (label : Option ℕ)
    → AllByRecursion (λ join. join.time < time) joins → IsJoined joins label
    → IsJoinedBefore joins label time
before joins time label below k =
    record {
      join = k.join;
      there = k.there;
      of_it = k.of_it;
      earlier =
          all-among (λ (join : Check). join.time < time) joins k.join k.there below;
    }

acked-earned : (time : ℕ) (l : Lane) (m : Msg) → Possible time l (Ack m) → IsFresh time l (Ack m)
    → BackKeeps l
    → (heard_by l.params.ends.ticks l.sender
    (reading_in l.params.frag.mode side.Answers m.bytes)).1 ≡ Some Delivered
    → IsJoinedBefore l.joins (session_place l.begins) time
acked-earned time l m p f b e =
    let ack : IsAckOfAll (reading_in l.params.frag.mode side.Answers m.bytes) =
    heard_by-tells l.params.ends.ticks l.sender
    (reading_in l.params.frag.mode side.Answers m.bytes) e in
    let joined : IsJoined l.joins m.label =
    all-among (IsRightAnswer l.params l.joins) l.back m p.0 b ack.w ack.bitmap ack.read in
    before l.joins time (session_place l.begins) p.1
    (subst (IsJoined l.joins)
    (fresh-label l m (reading_in l.params.frag.mode side.Answers m.bytes) ack.w ack.bitmap
    ack.read f) joined)

-- after a fresh and possible event, too, each session reported delivered was joined earlier, where
-- each ACK with a C of 1 belongs to a joined one
pub reports-step : (time : ℕ) (l : Lane) (event : LaneEvent) → Possible time l event
    → IsFresh time l event → BackKeeps l → ReportsKeep l → ReportsKeep (lane_step time l event)
unfolding lane_step lane_begins lane_told
reports-step time l (Begin place number bits) p f b k =
    let session : Session = lane_session l.params number bits in
    begun-reports time l (record { time = time; place = place; number = number; bits = bits })
    session (sender_due session.sender) k
reports-step time l Send p f b k = sends-reports time l l.sender k
reports-step time l Answer p f b k =
    answer-keeps ReportsKeep l (receiver_due l.reception.receiver) (λ reception back. k)
reports-step time l (Fragment m) p f b k =
    took-reports time l m (reading_in l.params.frag.mode side.Fragments m.bytes) k
reports-step time l (Ack m) p f b k =
    more-earned l.joins l.reports time (session_place l.begins)
    (heard_by l.params.ends.ticks l.sender
    (reading_in l.params.frag.mode side.Answers m.bytes)).1 (acked-earned time l m p f b) k
reports-step time l SenderTick p f b k =
    more-earned l.joins l.reports time (session_place l.begins)
    (ticked_by l.params.ends.ticks l.sender).1
    (λ e. absurd (ticked_by-tells l.params.ends.ticks l.sender e)) k
reports-step time l ReceiverTick p f b k = k
reports-step time l Abort p f b k =
    more-earned l.joins l.reports time (session_place l.begins)
    (aborted_by l.params.ends.ticks l.sender).1
    (λ e. absurd (aborted_by-tells l.params.ends.ticks l.sender e)) k
