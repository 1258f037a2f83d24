-- What a receiver of ACK-on-Error holds is of the last session, where the events are fresh.
use Rattle.std.specs.Prelude.{ℕ, ◌≡◌, ◌<◌, ◌≤◌, Bool, true, false, List, [], ◌∷◌, ◌++◌, length}
use Rattle.std.specs.Prelude.{take, drop, replicate, Option, Some, None, Result, Ok, Err}
use Rattle.std.proofs.Common.{arith, refl, sym, ap, subst, ◌∙◌, inl, inr}
use Rattle.std.proofs.lemmas.List.{length-take}
use Rattle.std.specs.List.{AllByRecursion}
use Rattle.schc_bits.specs.Bits.{octets}
use Rattle.schc_ids.specs.Fragments.{params_of}
use Rattle.schc_ids.specs.declared.ends.LastTile.{LastTile}
use Rattle.schc_ids.specs.declared.faults.WireFault.{WireFault}
use Rattle.schc_ids.specs.declared.fragments.FragMode.{FragMode}
use Rattle.schc_ids.specs.declared.fragments.FragMode.TheVariants as mode
use Rattle.schc_ids.specs.declared.fragments.FragParams.{FragParams}
use Rattle.schc_ids.specs.declared.fragments.Side.TheVariants as side
use Rattle.schc_ids.specs.declared.phases.ReceiverPhase.TheVariants as phase
use Rattle.frag_wire.specs.Layouts.{payload_in}
use Rattle.frag_wire.specs.Spells.{reading_in}
use Rattle.frag_wire.specs.declared.message.Message.{Message}
use Rattle.frag_wire.specs.declared.message.Message.TheVariants as form
use Rattle.tiles_bitmap.specs.Numbers.{tile_index}
use Rattle.tiles_bitmap.specs.Places.{Among, keep}
use Rattle.tiles_bitmap.proofs.PlacesLemmas.{AreOf, are_of-nothing, keep-are_of}
use Rattle.aoe_receiver.specs.State as aoe
use Rattle.aoe_receiver.specs.Steps as aoe_step
use Rattle.aoe_sender.specs.State.{AoeSenderData}
use Rattle.aoe_sender.specs.Steps as sender_step
use Rattle.aoe_sender.specs.Tiles.{padded_packet, all_tiles, regular_count, regular_tiles}
use Rattle.aoe_sender.proofs.KeepsLemmas.{begun-keeps}
use Rattle.aoe_sender.proofs.MessageLemmas.{count-bound}
use Rattle.sessions.specs.Receivers.{receiver_mode, receiver_phase, receiver_taken, receiver_idled}
use Rattle.sessions.specs.Receivers.{receiver_lapsed, receiver_due, receiver_answered}
use Rattle.sessions.specs.Reception.{reception_taken, reception_answered}
use Rattle.sessions.specs.Senders.{sender_due}
use Rattle.sessions.specs.Session.{Session}
use Rattle.sessions.specs.declared.receivers.Receiver.{Receiver}
use Rattle.sessions.specs.declared.receivers.Receiver.TheVariants.{NoAck, AckAlways, AckOnError}
use Rattle.sessions.specs.declared.senders.Sender.{Sender}
use Rattle.sessions.specs.declared.senders.Sender.TheVariants as sender
use Rattle.lanes.specs.Events.{LaneEvent, Begin, Send, Answer, Fragment, Ack, SenderTick}
use Rattle.lanes.specs.Events.{ReceiverTick, Abort, Possible, CanBegin}
use Rattle.lanes.specs.Fresh.{IsOfLast, IsFresh}
use Rattle.lanes.specs.Held.{AreHeldOf, session_tiles, HoldsIn, HoldsOnly, HoldsOf}
use Rattle.lanes.specs.Lane.{LaneParams, AreLaneParams, Begun, Lane, Msg, last_item, place_of}
use Rattle.lanes.specs.Lane.{session_place}
use Rattle.lanes.specs.Step.{msg, lane_session, lane_begun, lane_begins, lane_told, lane_taken}
use Rattle.lanes.specs.Step.{lane_took, lane_answered, lane_step}
use Rattle.lanes.proofs.EarnedKept.{ReceiverKeeps, answered-phase, idled-phase, lapsed-phase}
use Rattle.lanes.proofs.ListLemmas.{all-append, all-among, among-more, among-last, last-push}
use Rattle.lanes.proofs.SenderKept.{IsLast, SenderKeeps}
use Rattle.lanes.proofs.SenderLemmas.{IsSenderOf}
use Rattle.lanes.proofs.SentLemmas.{SentKeeps, sent-step}
use Rattle.lanes.proofs.StepLemmas.{send-keeps, begin-keeps, take-keeps, answer-keeps}
use Rattle.lanes.proofs.TickedLemmas.{OutlastsTimers, ticked-keeps}
use Rattle.lanes.proofs.TileLemmas.{HasRun, due-run}

-- Sessions have places of their own, and bits that may go as one.

abbrev pub Ascends : List Begun → Type 0
Ascends [] = Unit {0}
Ascends (begun ∷ begins) = AllByRecursion (λ later. begun.place < later.place) begins
    × Ascends begins

-- the places of the sessions that began ascend, and the bits of each may go as a session
abbrev pub BeginsKeep : Lane → Type 0
BeginsKeep l = Ascends l.begins × AllByRecursion (λ begun. CanBegin begun.bits) l.begins

ascends-push : (begins : List Begun) (begun : Begun)
    → AllByRecursion (λ earlier. earlier.place < begun.place) begins → Ascends begins
    → Ascends (begins ++ begun ∷ [])
ascends-push [] begun below k = (tt, tt)
ascends-push (first ∷ begins) begun below k = (
  all-append (λ (later : Begun). first.place < later.place) begins (begun ∷ []) k.0
      (below.0, tt),
  ascends-push begins begun below.1 k.1,
)

same-place : (begins : List Begun) (x y : Begun) → Ascends begins → Among x begins → Among y begins
    → x.place ≡ y.place → x ≡ y
same-place [] x y k there other e = absurd there
same-place (first ∷ begins) x y k (inl a) (inl b) e = a ∙ sym b
same-place (first ∷ begins) x y k (inl a) (inr b) e =
    let later : first.place < y.place =
    all-among (λ (later : Begun). first.place < later.place) begins y b k.0 in
    let same : x.place ≡ first.place = ap (λ (begun : Begun). begun.place) a in
    absurd (omega (arith, later, same, e))
same-place (first ∷ begins) x y k (inr a) (inl b) e =
    let later : first.place < x.place =
    all-among (λ (later : Begun). first.place < later.place) begins x a k.0 in
    let same : y.place ≡ first.place = ap (λ (begun : Begun). begun.place) b in
    absurd (omega (arith, later, same, e))
same-place (first ∷ begins) x y k (inr a) (inr b) e = same-place begins x y k.1 a b e

some-last : (next : Begun) (begins : List Begun) → last_item (next ∷ begins) ≡ None → ⊥
some-last next [] e = cc
some-last next (other ∷ begins) e = some-last other begins e

last-none : (begins : List Begun) (x : Begun) → last_item begins ≡ None → Among x begins → ⊥
last-none [] x e there = there
last-none (first ∷ []) x e there = absurd cc
last-none (first ∷ next ∷ begins) x e there = absurd (some-last next begins e)

begun-begins : (time : ℕ) (l : Lane) (begun : Begun) (session : Session) (bytes : Option (List ℕ))
    → AllByRecursion (λ earlier. earlier.place < begun.place) l.begins → CanBegin begun.bits
    → BeginsKeep l → BeginsKeep (lane_begun time l begun session bytes)
begun-begins time l begun session bytes below can k =
    begin-keeps BeginsKeep time l begun session bytes k (λ sender out reports. (
      ascends-push l.begins begun below k.0,
      all-append (λ (begun : Begun). CanBegin begun.bits)
          l.begins (begun ∷ []) k.1 (can, tt),
    ))

-- after a possible event, too, the places of the sessions ascend, and their bits may go as such
pub begins-step : (time : ℕ) (l : Lane) (event : LaneEvent) → Possible time l event → BeginsKeep l
    → BeginsKeep (lane_step time l event)
unfolding lane_step lane_begins lane_told
begins-step time l (Begin place number bits) p k =
    let session : Session = lane_session l.params number bits in
    begun-begins time l (record { time = time; place = place; number = number; bits = bits })
    session (sender_due session.sender) p.1 p.2 k
begins-step time l Send p k = send-keeps BeginsKeep time l l.sender (λ sender out reports. k)
begins-step time l Answer p k =
    answer-keeps BeginsKeep l (receiver_due l.reception.receiver) (λ reception back. k)
begins-step time l (Fragment m) p k =
    take-keeps BeginsKeep time l m (reading_in l.params.frag.mode side.Fragments m.bytes)
    (λ reception label kept_label checks joins. k)
begins-step time l (Ack m) p k = k
begins-step time l SenderTick p k = k
begins-step time l ReceiverTick p k = k
begins-step time l Abort p k = k

-- The messages.

-- the message belongs to a session that began, and in ACK-on-Error a Regular has a run of its tiles
pub record IsRunMsg (params : LaneParams) (begins : List Begun) (m : Msg) : Type 0 where
  pub begun : Begun
  pub there : Among begun begins
  pub labelled : m.label ≡ Some begun.place
  pub runs : params.frag.mode ≡ mode.AckOnError → (message : Message)
      → reading_in params.frag.mode side.Fragments m.bytes ≡ Ok message
      → HasRun (session_tiles params begun.bits) message (payload_in message (octets m.bytes))

-- each message that was sent is of a session that began; in ACK-on-Error each Regular has a run of
-- its tiles
abbrev pub RunsKeep : Lane → Type 0
RunsKeep l = SentKeeps IsRunMsg l

runs-more : (params : LaneParams) (begins : List Begun) (begun : Begun) (m : Msg)
    → IsRunMsg params begins m → IsRunMsg params (begins ++ begun ∷ []) m
runs-more params begins begun m run =
    record {
      begun = run.begun;
      there = among-more run.begun begins (begun ∷ []) run.there;
      labelled =
          run.labelled;
      runs = run.runs;
    }

-- the tiles of a sender are those of its session
tiles_in : FragParams → ℕ → LastTile → List Bool → List (List Bool)
tiles_in frag mtu last bits = regular_tiles (sender_step.begun frag mtu last bits)

tiles-of : (s : AoeSenderData) → regular_tiles s ≡ tiles_in s.params s.mtu s.last s.bits
unfolding tiles_in regular_tiles regular_count all_tiles padded_packet sender_step.begun
tiles-of s = refl

tiles-session : (params : LaneParams) (bits : List Bool) (s : AoeSenderData)
    → IsSenderOf params bits (sender.AckOnError s) → regular_tiles s ≡ session_tiles params bits
unfolding tiles_in
tiles-session params bits s is =
    tiles-of s
    ∙ ap (λ (frag : FragParams). tiles_in frag s.mtu s.last s.bits) is.row
    ∙ ap (λ (mtu : ℕ). tiles_in params.frag mtu s.last s.bits) is.mtu
    ∙ ap (λ (last : LastTile). tiles_in params.frag params.ends.mtu last s.bits) is.last
    ∙ ap (λ (b : List Bool). tiles_in params.frag params.ends.mtu params.ends.last b) is.same

wrong-mode : (m : FragMode) (frag own : FragParams) → own ≡ params_of m → own ≡ frag
    → frag.mode ≡ mode.AckOnError → m ≡ mode.AckOnError
wrong-mode mode.NoAck frag own row same e = sym (ap (λ (p : FragParams). p.mode) row)
    ∙ ap (λ (p : FragParams). p.mode) same ∙ e
wrong-mode mode.AckAlways frag own row same e = sym (ap (λ (p : FragParams). p.mode) row)
    ∙ ap (λ (p : FragParams). p.mode) same ∙ e
wrong-mode mode.AckOnError frag own row same e = refl

not-no_ack : mode.NoAck ≡ mode.AckOnError → ⊥
not-no_ack e = cc

not-always : mode.AckAlways ≡ mode.AckOnError → ⊥
not-always e = cc

sender-run : (params : LaneParams) (bits : List Bool) (s : Sender) (bytes : List ℕ)
    → IsSenderOf params bits s → sender_due s ≡ Some bytes → params.frag.mode ≡ mode.AckOnError
    → (message : Message) → reading_in params.frag.mode side.Fragments bytes ≡ Ok message
    → HasRun (session_tiles params bits) message (payload_in message (octets bytes))
unfolding sender_due
sender-run params bits (sender.NoAck s) bytes is e m message read =
    absurd (not-no_ack (wrong-mode mode.NoAck params.frag s.params is.sound.row is.row m))
sender-run params bits (sender.AckAlways s) bytes is e m message read =
    absurd (not-always (wrong-mode mode.AckAlways params.frag s.params is.sound.row is.row m))
sender-run params bits (sender.AckOnError s) bytes is e m message read =
    subst (λ (tiles : List (List Bool)). HasRun tiles message (payload_in message (octets bytes)))
    (tiles-session params bits s is)
    (due-run s bytes message is.sound e
    (subst (λ (frag : FragParams). reading_in frag.mode side.Fragments bytes ≡ Ok message)
    (sym is.row) read))

due-runs : (params : LaneParams) (begins : List Begun) (s : Sender) (at : ℕ) (bytes : List ℕ)
    → IsLast params begins s → sender_due s ≡ Some bytes
    → IsRunMsg params begins (msg (session_place begins) at bytes)
due-runs params begins s at bytes k e =
    record {
      begun = k.begun;
      there = among-last begins k.begun k.is_last;
      labelled = ap place_of k.is_last;
      runs = sender-run params k.begun.bits s bytes k.of_it e;
    }

-- after a possible event, too, each Regular of ACK-on-Error has a run of the tiles of its session,
-- where the sender is that of the last session
pub runs-step : (time : ℕ) (l : Lane) (event : LaneEvent) → Possible time l event → SenderKeeps l
    → RunsKeep l → RunsKeep (lane_step time l event)
runs-step = sent-step IsRunMsg (record { stays = runs-more; given = due-runs })

-- The receiver.

-- a receiver of ACK-on-Error that gathers holds tiles of the last session alone; where none has
-- begun, the receiver is empty
abbrev pub HeldKeeps : Lane → Type 0
HeldKeeps l = HoldsOf l.params (last_item l.begins) l.reception.receiver

held-are : (tiles : List (List Bool)) (places : List (Option (List Bool))) → AreOf tiles places
    → AreHeldOf tiles places
held-are [] [] k = tt
held-are [] (None ∷ places) k = held-are [] places k
held-are [] (Some held ∷ places) k = absurd k
held-are (tile ∷ tiles) [] k = absurd k
held-are (tile ∷ tiles) (None ∷ places) k = held-are tiles places k
held-are (tile ∷ tiles) (Some held ∷ places) k = (k.0, held-are tiles places k.1)

are-held : (tiles : List (List Bool)) (places : List (Option (List Bool))) → AreHeldOf tiles places
    → AreOf tiles places
are-held [] [] k = tt
are-held [] (None ∷ places) k = are-held [] places k
are-held [] (Some held ∷ places) k = absurd k
are-held (tile ∷ tiles) [] k = absurd k
are-held (tile ∷ tiles) (None ∷ places) k = are-held tiles places k
are-held (tile ∷ tiles) (Some held ∷ places) k = (k.0, are-held tiles places k.1)

none-held : (tiles : List (List Bool)) → length tiles ≤ 252 → AreHeldOf tiles aoe.no_tiles
unfolding aoe.no_tiles
none-held tiles few = held-are tiles (replicate 252 None) (are_of-nothing tiles 252 few)

keep-held : (k c : ℕ) (tiles new : List (List Bool)) (places : List (Option (List Bool)))
    → new ≡ take c (drop k tiles) → AreHeldOf tiles places → AreHeldOf tiles (keep k new places)
keep-held k c tiles new places e h =
    subst (λ (list : List (List Bool)). AreHeldOf tiles (keep k list places)) (sym e)
    (held-are tiles (keep k (take c (drop k tiles)) places)
    (keep-are_of k c tiles places (are-held tiles places h)))

regular-holds : (tiles new : List (List Bool)) (place c : ℕ) (r : aoe.AoeReceiverData)
    → length tiles ≤ 252 → new ≡ take c (drop place tiles) → HoldsIn tiles r
    → HoldsIn tiles (aoe_step.regular_step place new (aoe_step.begun r)).0
unfolding aoe_step.regular_step aoe_step.begun
regular-holds tiles new place c (aoe.Empty abort) few e h =
    keep-held place c tiles new aoe.no_tiles e (none-held tiles few)
regular-holds tiles new place c (aoe.Gathering places kept answer) few e h =
    keep-held place c tiles new places e h
regular-holds tiles new place c (aoe.Finished places last answer) few e h = tt

check-holds : (tiles : List (List Bool)) (places : List (Option (List Bool))) (last : aoe.LastData)
    (pass : Bool) → AreHeldOf tiles places → HoldsIn tiles (aoe_step.check_step places last pass).0
unfolding aoe_step.check_step
check-holds tiles places last true h = tt
check-holds tiles places last false h = h

all1-holds : (tiles : List (List Bool)) (last : aoe.LastData) (r : aoe.AoeReceiverData)
    → length tiles ≤ 252 → HoldsIn tiles r
    → HoldsIn tiles (aoe_step.all1_step last (aoe_step.begun r)).0
unfolding aoe_step.all1_step aoe_step.begun
all1-holds tiles last (aoe.Empty abort) few h =
    check-holds tiles aoe.no_tiles last (aoe_step.passes aoe.no_tiles last) (none-held tiles few)
all1-holds tiles last (aoe.Gathering places kept answer) few h =
    check-holds tiles places last (aoe_step.passes places last) h
all1-holds tiles last (aoe.Finished places old answer) few h = tt

ack_req-holds : (tiles : List (List Bool)) (r : aoe.AoeReceiverData) → length tiles ≤ 252
    → HoldsIn tiles r → HoldsIn tiles (aoe_step.ack_req_step (aoe_step.begun r)).0
unfolding aoe_step.ack_req_step aoe_step.begun
ack_req-holds tiles (aoe.Empty abort) few h = none-held tiles few
ack_req-holds tiles (aoe.Gathering places None answer) few h = h
ack_req-holds tiles (aoe.Gathering places (Some last) answer) few h =
    check-holds tiles places last (aoe_step.passes places last) h
ack_req-holds tiles (aoe.Finished places last answer) few h = tt

abort-holds : (tiles : List (List Bool)) (r : aoe.AoeReceiverData)
    → HoldsIn tiles (aoe_step.abort_step r).0
unfolding aoe_step.abort_step
abort-holds tiles (aoe.Empty abort) = tt
abort-holds tiles (aoe.Gathering places kept answer) = tt
abort-holds tiles (aoe.Finished places last answer) = tt

other-holds : (tiles : List (List Bool)) (r : aoe.AoeReceiverData) → HoldsIn tiles r
    → HoldsIn tiles (aoe_step.other_step r).0
unfolding aoe_step.other_step
other-holds tiles (aoe.Empty abort) h = tt
other-holds tiles (aoe.Gathering places kept answer) h = h
other-holds tiles (aoe.Finished places last answer) h = tt

aoe-holds : (tiles : List (List Bool)) (message : Message) (payload : List Bool)
    (r : aoe.AoeReceiverData) → length tiles ≤ 252 → HasRun tiles message payload → HoldsIn tiles r
    → HoldsIn tiles (aoe_step.taken message payload r).0
unfolding aoe_step.taken
aoe-holds tiles (form.Regular w fcn from) payload r few run h =
    regular-holds tiles (aoe.payload_tiles payload) (tile_index (record { w = w; fcn = fcn })) run.0
    r few run.1 h
aoe-holds tiles (form.All1 w rcs from) payload r few run h =
    all1-holds tiles (aoe_step.last_of w rcs payload) r few h
aoe-holds tiles (form.AckReq w) payload r few run h = ack_req-holds tiles r few h
aoe-holds tiles form.SenderAbort payload r few run h = abort-holds tiles r
aoe-holds tiles (form.Ack w c bitmap) payload r few run h = other-holds tiles r h
aoe-holds tiles form.ReceiverAbort payload r few run h = other-holds tiles r h

-- a message of the session whose tiles these are
taken-holds : (m : FragMode) (tiles : List (List Bool)) (message : Message) (payload : List Bool)
    (r : Receiver) → receiver_mode r ≡ m
    → (m ≡ mode.AckOnError → (length tiles ≤ 252) × HasRun tiles message payload)
    → HoldsOnly tiles r → HoldsOnly tiles (receiver_taken message payload r).0
unfolding receiver_taken
taken-holds m tiles message payload (NoAck r) e run h = tt
taken-holds m tiles message payload (AckAlways r) e run h = tt
taken-holds m tiles message payload (AckOnError r) e run h =
    let both = run (sym e) in aoe-holds tiles message payload r both.0 both.1 h

-- there are places for all tiles of a session
few-tiles : (params : LaneParams) (bits : List Bool) → AreLaneParams params → CanBegin bits
    → params.frag.mode ≡ mode.AckOnError → length (session_tiles params bits) ≤ 252
unfolding regular_tiles
few-tiles params bits are can e =
    let row : params.frag ≡ params_of mode.AckOnError = are.row ∙ ap params_of e in
    let s : AoeSenderData = sender_step.begun params.frag params.ends.mtu params.ends.last bits in
    let sound =
    begun-keeps params.frag params.ends.mtu params.ends.last bits row are.in_range.mtu can.least
    can.most in
    let few = (count-bound s sound).0 in
    omega (arith, length-take (regular_count s) (all_tiles s), few)

some-place : (x y : ℕ) → Some x ≡ Some y → x ≡ y
some-place x y e = cc

-- what a message of the session that began last has
last-run : (l : Lane) (m : Msg) (last : Begun) → BeginsKeep l → IsRunMsg l.params l.begins m
    → IsOfLast l m → last_item l.begins ≡ Some last → l.params.frag.mode ≡ mode.AckOnError
    → (message : Message) → reading_in l.params.frag.mode side.Fragments m.bytes ≡ Ok message
    → HasRun (session_tiles l.params last.bits) message (payload_in message (octets m.bytes))
last-run l m last k run fresh e aoe_mode message read =
    let place : Some run.begun.place ≡ Some last.place = sym run.labelled ∙ fresh ∙ ap place_of e in
    let same : run.begun ≡ last =
    same-place l.begins run.begun last k.0 run.there (among-last l.begins last e)
    (some-place run.begun.place last.place place) in
    subst (λ (begun : Begun). HasRun (session_tiles l.params begun.bits) message
    (payload_in message (octets m.bytes))) same (run.runs aoe_mode message read)

taken-held : (l : Lane) (m : Msg) (message : Message) (last : Option Begun)
    → last_item l.begins ≡ last → AreLaneParams l.params → BeginsKeep l → ReceiverKeeps l
    → IsRunMsg l.params l.begins m → IsOfLast l m
    → reading_in l.params.frag.mode side.Fragments m.bytes ≡ Ok message →
    HoldsOf l.params last l.reception.receiver
    → HoldsOf l.params last
    (receiver_taken message (payload_in message (octets m.bytes)) l.reception.receiver).0
taken-held l m message None e are k r run fresh read h =
    absurd (last-none l.begins run.begun e run.there)
taken-held l m message (Some last) e are k r run fresh read h =
    let can : CanBegin last.bits =
    all-among (λ (begun : Begun). CanBegin begun.bits) l.begins last
    (among-last l.begins last e) k.1 in
    taken-holds l.params.frag.mode (session_tiles l.params last.bits) message
    (payload_in message (octets m.bytes)) l.reception.receiver r.mode_is
    (λ aoe_mode. (
      few-tiles l.params last.bits are can aoe_mode,
      last-run l m last k run fresh e aoe_mode
          message read,
    )) h

took-held : (time : ℕ) (l : Lane) (m : Msg) (reading : Result Message WireFault)
    → reading_in l.params.frag.mode side.Fragments m.bytes ≡ reading → AreLaneParams l.params
    → BeginsKeep l → ReceiverKeeps l → IsRunMsg l.params l.begins m → IsOfLast l m → HeldKeeps l
    → HeldKeeps (lane_took time l m reading)
unfolding lane_took lane_taken reception_taken
took-held time l m (Err fault) e are k r run fresh h = h
took-held time l m (Ok message) e are k r run fresh h =
    taken-held l m message (last_item l.begins) refl are k r run fresh e h

empty-holds : (tiles : List (List Bool)) (r : Receiver) → receiver_phase r ≡ phase.Empty
    → HoldsOnly tiles r
unfolding receiver_phase aoe.receiver_phase
empty-holds tiles (NoAck r) e = tt
empty-holds tiles (AckAlways r) e = tt
empty-holds tiles (AckOnError (aoe.Empty abort)) e = tt
empty-holds tiles (AckOnError (aoe.Gathering places kept answer)) e = absurd cc
empty-holds tiles (AckOnError (aoe.Finished places last answer)) e = absurd cc

begun-held : (time : ℕ) (l : Lane) (begun : Begun) (session : Session) (bytes : Option (List ℕ))
    → receiver_phase l.reception.receiver ≡ phase.Empty → HeldKeeps l
    → HeldKeeps (lane_begun time l begun session bytes)
begun-held time l begun session bytes e h =
    begin-keeps HeldKeeps time l begun session bytes h (λ sender out reports.
    subst (λ (last : Option Begun). HoldsOf l.params last l.reception.receiver)
    (sym (last-push l.begins begun))
    (empty-holds (session_tiles l.params begun.bits) l.reception.receiver e))

answered-holds : (tiles : List (List Bool)) (r : Receiver) → HoldsOnly tiles r
    → HoldsOnly tiles (receiver_answered r)
unfolding receiver_answered aoe_step.answered
answered-holds tiles (NoAck r) h = tt
answered-holds tiles (AckAlways r) h = tt
answered-holds tiles (AckOnError (aoe.Empty abort)) h = tt
answered-holds tiles (AckOnError (aoe.Gathering places kept answer)) h = h
answered-holds tiles (AckOnError (aoe.Finished places last answer)) h = tt

answered-of : (params : LaneParams) (last : Option Begun) (r : Receiver) → HoldsOf params last r
    → HoldsOf params last (receiver_answered r)
answered-of params None r h = answered-phase (λ at. at ≡ phase.Empty) r h
answered-of params (Some last) r h = answered-holds (session_tiles params last.bits) r h

answered-held : (l : Lane) (bytes : Option (List ℕ)) → HeldKeeps l
    → HeldKeeps (lane_answered l bytes)
unfolding lane_answered reception_answered
answered-held l None h = h
answered-held l (Some bytes) h = answered-of l.params (last_item l.begins) l.reception.receiver h

idled-holds : (tiles : List (List Bool)) (r : Receiver) → HoldsOnly tiles r
    → HoldsOnly tiles (receiver_idled r)
unfolding receiver_idled aoe_step.idled
idled-holds tiles (NoAck r) h = tt
idled-holds tiles (AckAlways r) h = tt
idled-holds tiles (AckOnError (aoe.Empty abort)) h = tt
idled-holds tiles (AckOnError (aoe.Gathering places kept answer)) h = tt
idled-holds tiles (AckOnError (aoe.Finished places last answer)) h = tt

lapsed-holds : (tiles : List (List Bool)) (r : Receiver) → HoldsOnly tiles r
    → HoldsOnly tiles (receiver_lapsed r)
unfolding receiver_lapsed aoe_step.lapsed
lapsed-holds tiles (NoAck r) h = tt
lapsed-holds tiles (AckAlways r) h = tt
lapsed-holds tiles (AckOnError (aoe.Empty abort)) h = tt
lapsed-holds tiles (AckOnError (aoe.Gathering places kept answer)) h = h
lapsed-holds tiles (AckOnError (aoe.Finished places last answer)) h = tt

outlasts-of : (params : LaneParams) (last : Option Begun) → OutlastsTimers (HoldsOf params last)
outlasts-of params None =
    record {
      idles = idled-phase (λ at. at ≡ phase.Empty) refl;
      lapses =
          lapsed-phase (λ at. at ≡ phase.Empty) refl;
    }
outlasts-of params (Some last) =
    record {
      idles = idled-holds (session_tiles params last.bits);
      lapses =
          lapsed-holds (session_tiles params last.bits);
    }

-- after a fresh and possible event, too, what a receiver of ACK-on-Error holds while it gathers is
-- of the last session, where each Regular that was sent has a run of its session's tiles
pub held-step : (time : ℕ) (l : Lane) (event : LaneEvent) → Possible time l event
    → IsFresh time l event → AreLaneParams l.params → BeginsKeep l → ReceiverKeeps l → RunsKeep l
    → HeldKeeps l → HeldKeeps (lane_step time l event)
unfolding lane_step lane_begins lane_told
held-step time l (Begin place number bits) p f are k r runs h =
    let session : Session = lane_session l.params number bits in
    begun-held time l (record { time = time; place = place; number = number; bits = bits }) session
    (sender_due session.sender) f h
held-step time l Send p f are k r runs h =
    send-keeps HeldKeeps time l l.sender (λ sender out reports. h)
held-step time l Answer p f are k r runs h = answered-held l (receiver_due l.reception.receiver) h
held-step time l (Fragment m) p f are k r runs h =
    took-held time l m (reading_in l.params.frag.mode side.Fragments m.bytes) refl are k r
    (all-among (IsRunMsg l.params l.begins) l.out m p.0 runs) f h
held-step time l (Ack m) p f are k r runs h = h
held-step time l SenderTick p f are k r runs h = h
held-step time l ReceiverTick p f are k r runs h =
    ticked-keeps (HoldsOf l.params (last_item l.begins)) (outlasts-of l.params (last_item l.begins))
    l.reception h
held-step time l Abort p f are k r runs h = h
