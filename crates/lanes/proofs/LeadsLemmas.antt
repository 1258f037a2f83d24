-- Where a message leads a receiver.
use Rattle.std.specs.Prelude.{ℕ, ◌≡◌, ◌⊎◌, ◌==◌, Bool, true, false, if◌then◌else◌, List, [], length}
use Rattle.std.specs.Prelude.{Option, Some, None}
use Rattle.std.proofs.Common.{refl, sym, ap, subst, inl, inr}
use Rattle.std.proofs.lemmas.Bool.{eqb-true}
use Rattle.schc_ids.specs.declared.fragments.FragMode.{FragMode}
use Rattle.schc_ids.specs.declared.notes.Note.{Note}
use Rattle.schc_ids.specs.declared.notes.Note.TheVariants as note
use Rattle.schc_ids.specs.declared.phases.ReceiverPhase.{ReceiverPhase}
use Rattle.schc_ids.specs.declared.phases.ReceiverPhase.TheVariants.{Empty, Gathering, Finished}
use Rattle.frag_wire.specs.declared.message.Message.{Message}
use Rattle.frag_wire.specs.declared.message.Message.TheVariants as form
use Rattle.reassembly.specs.Joining.{has_room, passes}
use Rattle.tiles_bitmap.specs.Numbers.{tile_index}
use Rattle.no_ack.specs.ReceiverState as no_ack
use Rattle.no_ack.specs.ReceiverSteps as no_ack_step
use Rattle.aa_receiver.specs.State as aa
use Rattle.aa_receiver.specs.Steps as aa_step
use Rattle.aa_receiver.specs.declared.states.TileAnswer.{TileAnswer}
use Rattle.aa_receiver.proofs.LawsLemmas.{preview_joins}
use Rattle.aoe_receiver.specs.State as aoe
use Rattle.aoe_receiver.specs.Steps as aoe_step
use Rattle.aoe_receiver.proofs.StepsLemmas.{preview-joins}
use Rattle.sessions.specs.Receivers.{receiver_mode, receiver_phase, receiver_taken}
use Rattle.sessions.specs.Receivers.{receiver_previewed}
use Rattle.sessions.specs.Reception.{is_remnant}
use Rattle.sessions.specs.declared.receivers.Receiver.{Receiver}
use Rattle.sessions.specs.declared.receivers.Receiver.TheVariants.{NoAck, AckAlways, AckOnError}

-- a receiver that gathers has gathered before, or took the message; one that has finished had
-- finished, or joined
abbrev Leads : ReceiverPhase → Note → ReceiverPhase → Type 0
Leads before meaning Empty = Unit {0}
Leads before meaning Gathering = (is_remnant meaning ≡ false) ⊎ (before ≡ Gathering)
Leads before meaning Finished = (meaning ≡ note.Joined) ⊎ (before ≡ Finished)

-- some assembly was seen to pass the check
abbrev pub IsSeen : Option (List Bool) → Type 0
IsSeen seen = (assembly : List Bool) × (seen ≡ Some assembly)

-- the same, with what passed the check
abbrev pub Comes : ReceiverPhase → Option (List Bool) → Note → ReceiverPhase → Type 0
Comes before seen meaning Empty = Unit {0}
Comes before seen meaning Gathering = (is_remnant meaning ≡ false) ⊎ (before ≡ Gathering)
Comes before seen meaning Finished = ((is_remnant meaning ≡ false) × IsSeen seen)
    ⊎ (before ≡ Finished)

comes-of : (before after : ReceiverPhase) (seen : Option (List Bool)) (meaning : Note)
    → (meaning ≡ note.Joined → IsSeen seen) → Leads before meaning after
    → Comes before seen meaning after
comes-of before Empty seen meaning f h = tt
comes-of before Gathering seen meaning f h = h
comes-of before Finished seen meaning f (inl e) = inl (ap is_remnant e, f e)
comes-of before Finished seen meaning f (inr e) = inr e

-- No-ACK.

stored-leads : (before : ReceiverPhase) (kept tile : List Bool) (room : Bool) → let t =
    no_ack_step.stored kept tile room in Leads before t.1 (no_ack.receiver_phase t.0)
unfolding no_ack_step.stored
stored-leads before kept tile true = inl refl
stored-leads before kept tile false = tt

ended-leads : (before : ReceiverPhase) (pass : Bool) → let t = no_ack_step.ended pass in
    Leads before t.1 (no_ack.receiver_phase t.0)
unfolding no_ack_step.ended
ended-leads before true = tt
ended-leads before false = tt

last-leads : (before : ReceiverPhase) (kept tile : List Bool) (rcs : ℕ) (room : Bool) → let t =
    no_ack_step.joined_last kept tile rcs room in Leads before t.1 (no_ack.receiver_phase t.0)
unfolding no_ack_step.joined_last
last-leads before kept tile rcs true = ended-leads before (passes kept tile rcs)
last-leads before kept tile rcs false = tt

stays-leads : (r : no_ack.NoAckReceiverData)
    → Leads (no_ack.receiver_phase r) note.Remnant (no_ack.receiver_phase r)
stays-leads no_ack.Empty = tt
stays-leads (no_ack.Gathering kept) = inr refl

given_up-leads : (r : no_ack.NoAckReceiverData) → let t = no_ack_step.given_up r in
    Leads (no_ack.receiver_phase r) t.1 (no_ack.receiver_phase t.0)
unfolding no_ack_step.given_up
given_up-leads no_ack.Empty = tt
given_up-leads (no_ack.Gathering kept) = tt

no_ack-leads : (message : Message) (payload : List Bool) (r : no_ack.NoAckReceiverData) → let t =
    no_ack_step.taken message payload r in
    Leads (no_ack.receiver_phase r) t.1 (no_ack.receiver_phase t.0)
unfolding no_ack_step.taken no_ack_step.tile_step no_ack_step.last_step
no_ack-leads (form.Regular w fcn from) payload r =
    stored-leads (no_ack.receiver_phase r) (no_ack.kept_by r) payload
    (has_room (no_ack.kept_by r) payload)
no_ack-leads (form.All1 w rcs from) payload r =
    last-leads (no_ack.receiver_phase r) (no_ack.kept_by r) payload rcs
    (has_room (no_ack.kept_by r) payload)
no_ack-leads form.SenderAbort payload r = given_up-leads r
no_ack-leads (form.Ack w c bitmap) payload r = stays-leads r
no_ack-leads (form.AckReq w) payload r = stays-leads r
no_ack-leads form.ReceiverAbort payload r = stays-leads r

-- such a receiver never has finished
abbrev NotFinished : ReceiverPhase → Type 0
NotFinished Empty = Unit {0}
NotFinished Gathering = Unit {0}
NotFinished Finished = ⊥

never-finished : (r : no_ack.NoAckReceiverData) → NotFinished (no_ack.receiver_phase r)
never-finished no_ack.Empty = tt
never-finished (no_ack.Gathering kept) = tt

comes-unfinished : (before after : ReceiverPhase) (seen : Option (List Bool)) (meaning : Note)
    → NotFinished after → Leads before meaning after → Comes before seen meaning after
comes-unfinished before Empty seen meaning un h = tt
comes-unfinished before Gathering seen meaning un h = h
comes-unfinished before Finished seen meaning un h = absurd un

-- ACK-Always.

abbrev AaLeads : ReceiverPhase → aa.AaReceiverData × Note → Type 0
AaLeads before t = Leads before t.1 (aa.receiver_phase t.0)

next-leads : (before : ReceiverPhase) (bits part : List Bool) (count w : ℕ) (room : Bool)
    → AaLeads before (aa_step.next_tile bits count w part room)
unfolding aa_step.next_tile
next-leads before bits part count w true = inl refl
next-leads before bits part count w false = tt

before-leads : (bits : List Bool) (count w : ℕ) (answer : Option TileAnswer) (meaning : Note)
    (first : Bool) → AaLeads Gathering (aa_step.before bits count answer w meaning first)
unfolding aa_step.before
before-leads bits count w answer meaning true = inr refl
before-leads bits count w answer meaning false = inr refl

last_tile-leads : (before : ReceiverPhase) (bits : List Bool) (count w : ℕ) (room pass : Bool)
    → AaLeads before (aa_step.last_tile bits count w room pass)
unfolding aa_step.last_tile
last_tile-leads before bits count w false pass = tt
last_tile-leads before bits count w true true = inl refl
last_tile-leads before bits count w true false = inl refl

either-leads : (before : ReceiverPhase) (b : Bool) (x y : aa.AaReceiverData × Note)
    → AaLeads before x → AaLeads before y → AaLeads before (if b then x else y)
either-leads before true x y f g = f
either-leads before false x y f g = g

finished-leads : (w last : ℕ) (answer : Bool)
    → AaLeads Finished (aa_step.finished_step w last answer)
unfolding aa_step.finished_step
finished-leads w last answer = either-leads Finished (w == last) _ _ (inr refl) (inr refl)

-- from an empty receiver, where the window is 0 or isn't
regular_first-leads : (w : ℕ) (part : List Bool) (zero_window : Bool) → w == 0 ≡ zero_window
    → AaLeads Empty
    (aa_step.regular_step w part (if zero_window then aa.Gathering [] 0 None else aa.Empty false))
unfolding aa_step.regular_step
regular_first-leads w part false e = tt
regular_first-leads w part true e =
    subst (λ (n : ℕ). AaLeads Empty
    (if n == 0 then aa_step.next_tile [] 0 n part (has_room [] part) else aa_step.before [] 0
    None n note.Repeat true)) (sym (eqb-true w 0 e))
    (next-leads Empty [] part 0 0 (has_room [] part))

regular_on-leads : (w : ℕ) (part bits : List Bool) (count : ℕ) (answer : Option TileAnswer)
    → AaLeads Gathering (aa_step.regular_step w part (aa.Gathering bits count answer))
unfolding aa_step.regular_step
regular_on-leads w part bits count answer =
    either-leads Gathering (w == aa_step.open_window count) _ _
    (next-leads Gathering bits part count w (has_room bits part))
    (before-leads bits count w answer note.Repeat (count == 0))

regular_end-leads : (w : ℕ) (part : List Bool) (last : ℕ) (answer : Bool)
    → AaLeads Finished (aa_step.regular_step w part (aa.Finished last answer))
unfolding aa_step.regular_step
regular_end-leads w part last answer = inr refl

regular-leads : (w : ℕ) (part : List Bool) (r : aa.AaReceiverData)
    → AaLeads (aa.receiver_phase r) (aa_step.regular_step w part (aa_step.entered w r))
unfolding aa_step.entered
regular-leads w part (aa.Empty abort) = regular_first-leads w part (w == 0) refl
regular-leads w part (aa.Gathering bits count answer) = regular_on-leads w part bits count answer
regular-leads w part (aa.Finished last answer) = regular_end-leads w part last answer

all1_first-leads : (w rcs : ℕ) (part : List Bool) (zero_window : Bool) → w == 0 ≡ zero_window
    → AaLeads Empty
    (aa_step.all1_step w rcs part (if zero_window then aa.Gathering [] 0 None else aa.Empty false))
unfolding aa_step.all1_step
all1_first-leads w rcs part false e = tt
all1_first-leads w rcs part true e =
    subst (λ (n : ℕ). AaLeads Empty
    (if n == 0 then aa_step.last_tile [] 0 n (has_room [] part) (passes [] part rcs)
    else (aa.Gathering [] 0 None, note.Remnant))) (sym (eqb-true w 0 e))
    (last_tile-leads Empty [] 0 0 (has_room [] part) (passes [] part rcs))

all1_on-leads : (w rcs : ℕ) (part bits : List Bool) (count : ℕ) (answer : Option TileAnswer)
    → AaLeads Gathering (aa_step.all1_step w rcs part (aa.Gathering bits count answer))
unfolding aa_step.all1_step
all1_on-leads w rcs part bits count answer =
    either-leads Gathering (w == aa_step.open_window count) _ _
    (last_tile-leads Gathering bits count w (has_room bits part) (passes bits part rcs))
    (inr refl)

all1_end-leads : (w rcs : ℕ) (part : List Bool) (last : ℕ) (answer : Bool)
    → AaLeads Finished (aa_step.all1_step w rcs part (aa.Finished last answer))
unfolding aa_step.all1_step
all1_end-leads w rcs part last answer = finished-leads w last answer

all1-leads : (w rcs : ℕ) (part : List Bool) (r : aa.AaReceiverData)
    → AaLeads (aa.receiver_phase r) (aa_step.all1_step w rcs part (aa_step.entered w r))
unfolding aa_step.entered
all1-leads w rcs part (aa.Empty abort) = all1_first-leads w rcs part (w == 0) refl
all1-leads w rcs part (aa.Gathering bits count answer) = all1_on-leads w rcs part bits count answer
all1-leads w rcs part (aa.Finished last answer) = all1_end-leads w rcs part last answer

ack_req_first-leads : (w : ℕ) (zero_window : Bool) → w == 0 ≡ zero_window
    → AaLeads Empty
    (aa_step.ack_req_step w (if zero_window then aa.Gathering [] 0 None else aa.Empty false))
unfolding aa_step.ack_req_step
ack_req_first-leads w false e = tt
ack_req_first-leads w true e =
    subst (λ (n : ℕ). AaLeads Empty
    (if n == 0 then (aa.Gathering [] 0 (aa_step.tile_answer n false), note.Asked)
    else aa_step.before [] 0 None n note.Asked true)) (sym (eqb-true w 0 e)) (inl refl)

ack_req_on-leads : (w : ℕ) (bits : List Bool) (count : ℕ) (answer : Option TileAnswer)
    → AaLeads Gathering (aa_step.ack_req_step w (aa.Gathering bits count answer))
unfolding aa_step.ack_req_step
ack_req_on-leads w bits count answer =
    either-leads Gathering (w == aa_step.open_window count) _ _ (inr refl)
    (before-leads bits count w answer note.Asked (count == 0))

ack_req_end-leads : (w last : ℕ) (answer : Bool)
    → AaLeads Finished (aa_step.ack_req_step w (aa.Finished last answer))
unfolding aa_step.ack_req_step
ack_req_end-leads w last answer = finished-leads w last answer

ack_req-leads : (w : ℕ) (r : aa.AaReceiverData)
    → AaLeads (aa.receiver_phase r) (aa_step.ack_req_step w (aa_step.entered w r))
unfolding aa_step.entered
ack_req-leads w (aa.Empty abort) = ack_req_first-leads w (w == 0) refl
ack_req-leads w (aa.Gathering bits count answer) = ack_req_on-leads w bits count answer
ack_req-leads w (aa.Finished last answer) = ack_req_end-leads w last answer

abort-leads : (r : aa.AaReceiverData) → AaLeads (aa.receiver_phase r) (aa_step.abort_step r)
unfolding aa_step.abort_step
abort-leads (aa.Empty abort) = tt
abort-leads (aa.Gathering bits count answer) = tt
abort-leads (aa.Finished last answer) = tt

other-leads : (r : aa.AaReceiverData) → AaLeads (aa.receiver_phase r) (aa_step.other_step r)
unfolding aa_step.other_step
other-leads (aa.Empty abort) = tt
other-leads (aa.Gathering bits count answer) = inr refl
other-leads (aa.Finished last answer) = inr refl

aa-leads : (message : Message) (part : List Bool) (r : aa.AaReceiverData)
    → AaLeads (aa.receiver_phase r) (aa_step.taken message part r)
unfolding aa_step.taken
aa-leads (form.Regular w fcn from) part r = regular-leads w part r
aa-leads (form.All1 w rcs from) part r = all1-leads w rcs part r
aa-leads (form.AckReq w) part r = ack_req-leads w r
aa-leads form.SenderAbort part r = abort-leads r
aa-leads (form.Ack w c bitmap) part r = other-leads r
aa-leads form.ReceiverAbort part r = other-leads r

-- ACK-on-Error.

abbrev AoeLeads : ReceiverPhase → aoe.AoeReceiverData × Note → Type 0
AoeLeads before t = Leads before t.1 (aoe.receiver_phase t.0)

again-not : (again : Bool) → is_remnant (if again then note.Repeat else note.Stored) ≡ false
again-not true = refl
again-not false = refl

aoe_regular-leads : (place : ℕ) (new : List (List Bool)) (r : aoe.AoeReceiverData)
    → AoeLeads (aoe.receiver_phase r) (aoe_step.regular_step place new (aoe_step.begun r))
unfolding aoe_step.regular_step aoe_step.begun aoe.receiver_phase
aoe_regular-leads place new (aoe.Empty abort) =
    inl (again-not (aoe_step.all_held place (length new) aoe.no_tiles))
aoe_regular-leads place new (aoe.Gathering tiles kept answer) = inr refl
aoe_regular-leads place new (aoe.Finished tiles last answer) = inr refl

check-leads : (before : ReceiverPhase) (tiles : List (Option (List Bool))) (last : aoe.LastData)
    (pass : Bool) → AoeLeads before (aoe_step.check_step tiles last pass)
unfolding aoe_step.check_step aoe.receiver_phase
check-leads before tiles last true = inl refl
check-leads before tiles last false = inl refl

aoe_all1-leads : (last : aoe.LastData) (r : aoe.AoeReceiverData)
    → AoeLeads (aoe.receiver_phase r) (aoe_step.all1_step last (aoe_step.begun r))
unfolding aoe_step.all1_step aoe_step.begun aoe.receiver_phase
aoe_all1-leads last (aoe.Empty abort) =
    check-leads Empty aoe.no_tiles last (aoe_step.passes aoe.no_tiles last)
aoe_all1-leads last (aoe.Gathering tiles kept answer) =
    check-leads Gathering tiles last (aoe_step.passes tiles last)
aoe_all1-leads last (aoe.Finished tiles old answer) = inr refl

aoe_ack_req-leads : (r : aoe.AoeReceiverData)
    → AoeLeads (aoe.receiver_phase r) (aoe_step.ack_req_step (aoe_step.begun r))
unfolding aoe_step.ack_req_step aoe_step.begun aoe.receiver_phase
aoe_ack_req-leads (aoe.Empty abort) = inl refl
aoe_ack_req-leads (aoe.Gathering tiles None answer) = inl refl
aoe_ack_req-leads (aoe.Gathering tiles (Some last) answer) =
    check-leads Gathering tiles last (aoe_step.passes tiles last)
aoe_ack_req-leads (aoe.Finished tiles last answer) = inr refl

aoe_abort-leads : (r : aoe.AoeReceiverData)
    → AoeLeads (aoe.receiver_phase r) (aoe_step.abort_step r)
unfolding aoe_step.abort_step aoe.receiver_phase
aoe_abort-leads (aoe.Empty abort) = tt
aoe_abort-leads (aoe.Gathering tiles kept answer) = tt
aoe_abort-leads (aoe.Finished tiles last answer) = tt

aoe_other-leads : (r : aoe.AoeReceiverData)
    → AoeLeads (aoe.receiver_phase r) (aoe_step.other_step r)
unfolding aoe_step.other_step aoe.receiver_phase
aoe_other-leads (aoe.Empty abort) = tt
aoe_other-leads (aoe.Gathering tiles kept answer) = inr refl
aoe_other-leads (aoe.Finished tiles last answer) = inr refl

aoe-leads : (message : Message) (payload : List Bool) (r : aoe.AoeReceiverData)
    → AoeLeads (aoe.receiver_phase r) (aoe_step.taken message payload r)
unfolding aoe_step.taken
aoe-leads (form.Regular w fcn from) payload r =
    aoe_regular-leads (tile_index (record { w = w; fcn = fcn })) (aoe.payload_tiles payload) r
aoe-leads (form.All1 w rcs from) payload r = aoe_all1-leads (aoe_step.last_of w rcs payload) r
aoe-leads (form.AckReq w) payload r = aoe_ack_req-leads r
aoe-leads form.SenderAbort payload r = aoe_abort-leads r
aoe-leads (form.Ack w c bitmap) payload r = aoe_other-leads r
aoe-leads form.ReceiverAbort payload r = aoe_other-leads r

-- Every receiver.

-- a receiver that gathers did so before, or the message was no remnant; one that has finished had
-- finished before, or the message was no remnant and an assembly passed the check
pub taken-comes : (message : Message) (payload : List Bool) (r : Receiver) → let t =
    receiver_taken message payload r in
    Comes (receiver_phase r) (receiver_previewed message payload r) t.1 (receiver_phase t.0)
unfolding receiver_taken receiver_previewed receiver_phase
taken-comes message payload (NoAck r) =
    let t = no_ack_step.taken message payload r in
    comes-unfinished (no_ack.receiver_phase r) (no_ack.receiver_phase t.0)
    (no_ack_step.previewed message payload r) t.1 (never-finished t.0)
    (no_ack-leads message payload r)
taken-comes message payload (AckAlways r) =
    let t = aa_step.taken message payload r in
    comes-of (aa.receiver_phase r) (aa.receiver_phase t.0) (aa_step.previewed message payload r) t.1
    (preview_joins message payload r).1 (aa-leads message payload r)
taken-comes message payload (AckOnError r) =
    let t = aoe_step.taken message payload r in
    comes-of (aoe.receiver_phase r) (aoe.receiver_phase t.0) (aoe_step.previewed message payload r)
    t.1 (preview-joins message payload r).0.1 (aoe-leads message payload r)

-- its mode stays
pub taken-mode : (m : FragMode) (message : Message) (payload : List Bool) (r : Receiver)
    → receiver_mode r ≡ m → receiver_mode (receiver_taken message payload r).0 ≡ m
unfolding receiver_taken
taken-mode m message payload (NoAck r) e = e
taken-mode m message payload (AckAlways r) e = e
taken-mode m message payload (AckOnError r) e = e
