-- What passed a check has the RCS of its session.
use Rattle.std.specs.Prelude.{ℕ, ◌≡◌, ◌<◌, Bool, List, [], ◌∷◌, ◌++◌, Option, Some, None, Result}
use Rattle.std.specs.Prelude.{Ok, Err}
use Rattle.std.proofs.Common.{refl, sym, subst, inl}
use Rattle.std.specs.List.{AllByRecursion}
use Rattle.schc_bits.specs.Bits.{octets}
use Rattle.schc_ids.specs.declared.faults.WireFault.{WireFault}
use Rattle.schc_ids.specs.declared.fragments.FragMode.{FragMode}
use Rattle.schc_ids.specs.declared.fragments.FragMode.TheVariants as mode
use Rattle.schc_ids.specs.declared.fragments.Side.TheVariants as side
use Rattle.frag_wire.specs.Layouts.{payload_in}
use Rattle.frag_wire.specs.Spells.{reading_in}
use Rattle.frag_wire.specs.declared.message.Message.{Message}
use Rattle.frag_wire.specs.declared.message.Message.TheVariants as form
use Rattle.rcs.specs.Division.{rcs_of}
use Rattle.tiles_bitmap.specs.Places.{Among}
use Rattle.aoe_receiver.specs.State as aoe
use Rattle.sessions.specs.Receivers.{new_receiver, receiver_due, receiver_checked}
use Rattle.sessions.specs.Receivers.{receiver_previewed}
use Rattle.sessions.specs.Reception.{reception_answered, reception_taken}
use Rattle.sessions.specs.Senders.{sender_due}
use Rattle.sessions.specs.Session.{Session}
use Rattle.sessions.specs.declared.receivers.Receiver.{Receiver}
use Rattle.sessions.specs.declared.receivers.Receiver.TheVariants.{NoAck, AckAlways, AckOnError}
use Rattle.lanes.specs.Events.{LaneEvent, Begin, Send, Answer, Fragment, Ack, SenderTick}
use Rattle.lanes.specs.Events.{ReceiverTick, Abort, Possible}
use Rattle.lanes.specs.Honest.{IsRcsOf}
use Rattle.lanes.specs.Lane.{LaneParams, Begun, Check, Lane, Msg}
use Rattle.lanes.specs.Laws.{IsRightMsg, IsRightJoin}
use Rattle.lanes.specs.Step.{lane_session, lane_begun, lane_begins, lane_told, checked_label}
use Rattle.lanes.specs.Step.{checks_of, lane_taken, lane_took, lane_answered, lane_step}
use Rattle.lanes.proofs.ListLemmas.{all-weaken, all-append, all-among, among-more, among-after}
use Rattle.lanes.proofs.OutKept.{OutKeeps, rcs-more}
use Rattle.lanes.proofs.PassedLemmas.{CameIs, LastIs, KeptIs, IsPassed, passed-is, taken-kept}
use Rattle.lanes.proofs.PassedLemmas.{answered-kept, idled-kept, lapsed-kept}
use Rattle.lanes.proofs.StepLemmas.{send-keeps, begin-keeps, answer-keeps}
use Rattle.lanes.proofs.TickedLemmas.{OutlastsTimers, ticked-keeps}

-- the All-1 that is kept carries the RCS of the session with the kept label
abbrev pub KeptKeeps : Lane → Type 0
KeptKeeps l = KeptIs (IsRcsOf l.params l.begins l.kept_label) l.reception.receiver

-- each check that passed is one of those made; its session had begun earlier, and the assembly has
-- its RCS
abbrev pub JoinsKeep : Lane → Type 0
JoinsKeep l = AllByRecursion (IsRightJoin l.params l.begins l.checks) l.joins

-- A message that came.

pub came-of : (P : ℕ → Type 0) (reading : Result Message WireFault) (message : Message)
    → ((w rcs from : ℕ) → reading ≡ Ok (form.All1 w rcs from) → P rcs) → reading ≡ Ok message
    → CameIs P message
came-of P reading (form.All1 w rcs from) right e = right w rcs from e
came-of P reading (form.Regular w fcn from) right e = tt
came-of P reading (form.Ack w c bitmap) right e = tt
came-of P reading (form.AckReq w) right e = tt
came-of P reading form.SenderAbort right e = tt
came-of P reading form.ReceiverAbort right e = tt

-- a message that was sent is right
pub sent-came : (l : Lane) (m : Msg) (message : Message) → OutKeeps l → Among m l.out
    → reading_in l.params.frag.mode side.Fragments m.bytes ≡ Ok message
    → CameIs (IsRcsOf l.params l.begins m.label) message
sent-came l m message o there e =
    came-of (IsRcsOf l.params l.begins m.label)
    (reading_in l.params.frag.mode side.Fragments m.bytes) message
    (all-among (IsRightMsg l.params l.begins) l.out m there o) e

-- The kept All-1.

last-weaken : (P Q : ℕ → Type 0) (r : aoe.AoeReceiverData) → ((rcs : ℕ) → P rcs → Q rcs)
    → LastIs P r → LastIs Q r
last-weaken P Q (aoe.Empty abort) f k = tt
last-weaken P Q (aoe.Gathering tiles None answer) f k = tt
last-weaken P Q (aoe.Gathering tiles (Some last) answer) f k = f last.rcs k
last-weaken P Q (aoe.Finished tiles last answer) f k = f last.rcs k

kept-weaken : (P Q : ℕ → Type 0) (r : Receiver) → ((rcs : ℕ) → P rcs → Q rcs) → KeptIs P r
    → KeptIs Q r
kept-weaken P Q (NoAck r) f k = tt
kept-weaken P Q (AckAlways r) f k = tt
kept-weaken P Q (AckOnError r) f k = last-weaken P Q r f k

new-kept : (P : ℕ → Type 0) (m : FragMode) → KeptIs P (new_receiver m)
unfolding new_receiver aoe.empty_receiver
new-kept P mode.NoAck = tt
new-kept P mode.AckAlways = tt
new-kept P mode.AckOnError = tt

-- a new receiver keeps no All-1, so all that is asked of the kept one's RCS holds
pub kept-begins : (P : ℕ → Type 0) (m : FragMode) → KeptIs P (new_receiver m)
kept-begins P m = new-kept P m

begun-kept : (time : ℕ) (l : Lane) (begun : Begun) (session : Session) (bytes : Option (List ℕ))
    → KeptKeeps l → KeptKeeps (lane_begun time l begun session bytes)
begun-kept time l begun session bytes k =
    begin-keeps KeptKeeps time l begun session bytes k (λ sender out reports.
    kept-weaken (IsRcsOf l.params l.begins l.kept_label)
    (IsRcsOf l.params (l.begins ++ begun ∷ []) l.kept_label) l.reception.receiver
    (λ rcs. rcs-more l.params l.begins (begun ∷ []) l.kept_label rcs) k)

took-kept : (time : ℕ) (l : Lane) (m : Msg) (reading : Result Message WireFault)
    → reading_in l.params.frag.mode side.Fragments m.bytes ≡ reading → Among m l.out → OutKeeps l
    → KeptKeeps l → KeptKeeps (lane_took time l m reading)
unfolding lane_took lane_taken reception_taken
took-kept time l m (Err fault) e there o k = k
took-kept time l m (Ok message) e there o k =
    taken-kept (IsRcsOf l.params l.begins) m.label l.kept_label message
    (payload_in message (octets m.bytes)) l.reception.receiver (sent-came l m message o there e)
    k

answer-kept : (l : Lane) (bytes : Option (List ℕ)) → KeptKeeps l → KeptKeeps (lane_answered l bytes)
unfolding lane_answered reception_answered
answer-kept l None k = k
answer-kept l (Some bytes) k =
    answered-kept (IsRcsOf l.params l.begins l.kept_label) l.reception.receiver k

outlasts : (P : ℕ → Type 0) → OutlastsTimers (KeptIs P)
outlasts P = record { idles = idled-kept P; lapses = lapsed-kept P }

-- after a possible event, too, the All-1 that is kept carries the RCS of its session, where each
-- that was sent does
pub kept-step : (time : ℕ) (l : Lane) (event : LaneEvent) → Possible time l event → OutKeeps l
    → KeptKeeps l → KeptKeeps (lane_step time l event)
unfolding lane_step lane_begins lane_told
kept-step time l (Begin place number bits) p o k =
    let session : Session = lane_session l.params number bits in
    begun-kept time l (record { time = time; place = place; number = number; bits = bits }) session
    (sender_due session.sender) k
kept-step time l Send p o k = send-keeps KeptKeeps time l l.sender (λ sender out reports. k)
kept-step time l Answer p o k = answer-kept l (receiver_due l.reception.receiver) k
kept-step time l (Fragment m) p o k =
    took-kept time l m (reading_in l.params.frag.mode side.Fragments m.bytes) refl p.0 o k
kept-step time l (Ack m) p o k = k
kept-step time l SenderTick p o k = k
kept-step time l ReceiverTick p o k =
    ticked-keeps (KeptIs (IsRcsOf l.params l.begins l.kept_label))
    (outlasts (IsRcsOf l.params l.begins l.kept_label)) l.reception k
kept-step time l Abort p o k = k

-- The joins.

join-checked : (params : LaneParams) (begins : List Begun) (checks other : List Check)
    (join : Check) → IsRightJoin params begins checks join
    → IsRightJoin params begins (checks ++ other) join
join-checked params begins checks other join k =
    record { made = among-more join checks other k.made; session = k.session; earlier = k.earlier }

join-begun : (params : LaneParams) (begins more : List Begun) (checks : List Check) (join : Check)
    → IsRightJoin params begins checks join → IsRightJoin params (begins ++ more) checks join
unfolding rcs-more
join-begun params begins more checks join k =
    record {
      made = k.made;
      session =
          rcs-more params begins more join.session (rcs_of join.assembly) k.session;
      earlier =
          k.earlier;
    }

-- where a check is made over an assembly, it is noted with its time and its session
pub among-made : (time : ℕ) (session : Option ℕ) (made : Option (List Bool)) (assembly : List Bool)
    → made ≡ Some assembly
    → Among (record { time = time; assembly = assembly; session = session })
    (checks_of time session made)
unfolding checks_of
among-made time session made assembly e =
    subst (λ (o : Option (List Bool)). Among
    (record { time = time; assembly = assembly; session = session }) (checks_of time session o))
    (sym e) (first-made time session assembly)
  where
    first-made : (time : ℕ) (session : Option ℕ) (assembly : List Bool)
        → Among (record { time = time; assembly = assembly; session = session })
        (checks_of time session (Some assembly))
    first-made time session assembly = inl refl

new-joins : (params : LaneParams) (begins : List Begun) (checks : List Check) (time : ℕ)
    (session : Option ℕ) (made seen : Option (List Bool)) →
    ((assembly : List Bool) → seen ≡ Some assembly
    → IsPassed made assembly (IsRcsOf params begins session))
    → AllByRecursion (λ begun. begun.time < time) begins →
    AllByRecursion (IsRightJoin params begins (checks ++ checks_of time session made))
    (checks_of time session seen)
unfolding checks_of
new-joins params begins checks time session made None passed earlier = tt
new-joins params begins checks time session made (Some assembly) passed earlier =
    let p = passed assembly refl in (
      record {
        made = among-after _ checks (checks_of time session made)
            (among-made time session made assembly p.made_is);
        session = p.rcs_is;
        earlier =
            all-among (λ (begun : Begun). begun.time < time) begins p.rcs_is.begun p.rcs_is.there
            earlier;
      },
      tt,
    )

begun-joins : (time : ℕ) (l : Lane) (begun : Begun) (session : Session) (bytes : Option (List ℕ))
    → JoinsKeep l → JoinsKeep (lane_begun time l begun session bytes)
begun-joins time l begun session bytes k =
    begin-keeps JoinsKeep time l begun session bytes k (λ sender out reports.
    all-weaken (IsRightJoin l.params l.begins l.checks)
    (IsRightJoin l.params (l.begins ++ begun ∷ []) l.checks) l.joins
    (join-begun l.params l.begins (begun ∷ []) l.checks) k)

taken-joins : (time : ℕ) (l : Lane) (label : Option ℕ) (message : Message) (payload : List Bool)
    → CameIs (IsRcsOf l.params l.begins label) message
    → AllByRecursion (λ begun. begun.time < time) l.begins → KeptKeeps l → JoinsKeep l
    → JoinsKeep (lane_taken time l label message payload)
unfolding lane_taken
taken-joins time l label message payload came earlier kept k =
    let session : Option ℕ = checked_label message label l.kept_label in
    let made : Option (List Bool) = receiver_checked message payload l.reception.receiver in
    let seen : Option (List Bool) = receiver_previewed message payload l.reception.receiver in
    all-append (IsRightJoin l.params l.begins (l.checks ++ checks_of time session made)) l.joins
    (checks_of time session seen)
    (all-weaken (IsRightJoin l.params l.begins l.checks)
    (IsRightJoin l.params l.begins (l.checks ++ checks_of time session made)) l.joins
    (join-checked l.params l.begins l.checks (checks_of time session made)) k)
    (new-joins l.params l.begins l.checks time session made seen
    (λ assembly e. passed-is (IsRcsOf l.params l.begins) label l.kept_label message payload
    l.reception.receiver assembly came kept e) earlier)

took-joins : (time : ℕ) (l : Lane) (m : Msg) (reading : Result Message WireFault)
    → reading_in l.params.frag.mode side.Fragments m.bytes ≡ reading → Possible time l (Fragment m)
    → OutKeeps l → KeptKeeps l → JoinsKeep l → JoinsKeep (lane_took time l m reading)
unfolding lane_took
took-joins time l m (Err fault) e p o kept k = k
took-joins time l m (Ok message) e p o kept k =
    taken-joins time l m.label message (payload_in message (octets m.bytes))
    (sent-came l m message o p.0 e) p.1 kept k

-- after a possible event, too, each assembly that passed has the RCS of its session, where each
-- All-1 that was sent or is kept carries its session's
pub joins-step : (time : ℕ) (l : Lane) (event : LaneEvent) → Possible time l event → OutKeeps l
    → KeptKeeps l → JoinsKeep l → JoinsKeep (lane_step time l event)
unfolding lane_step lane_begins lane_told
joins-step time l (Begin place number bits) p o kept k =
    let session : Session = lane_session l.params number bits in
    begun-joins time l (record { time = time; place = place; number = number; bits = bits }) session
    (sender_due session.sender) k
joins-step time l Send p o kept k =
    send-keeps JoinsKeep time l l.sender (λ sender out reports. k)
joins-step time l Answer p o kept k =
    answer-keeps JoinsKeep l (receiver_due l.reception.receiver) (λ reception back. k)
joins-step time l (Fragment m) p o kept k =
    took-joins time l m (reading_in l.params.frag.mode side.Fragments m.bytes) refl p o kept k
joins-step time l (Ack m) p o kept k = k
joins-step time l SenderTick p o kept k = k
joins-step time l ReceiverTick p o kept k = k
joins-step time l Abort p o kept k = k
