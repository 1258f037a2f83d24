-- What passes a check has the RCS of an All-1: the message's own, or the one that is kept.
use Rattle.std.specs.Prelude.{ℕ, ◌≡◌, Bool, true, false, List, Option, Some, None, option_map}
use Rattle.std.proofs.Common.{ap, sym, subst, ◌∙◌}
use Rattle.frag_wire.specs.declared.message.Message.{Message}
use Rattle.frag_wire.specs.declared.message.Message.TheVariants as form
use Rattle.rcs.specs.Division.{rcs_of}
use Rattle.no_ack.proofs.ReceiverLemmas as no_ack_law
use Rattle.no_ack.specs.ReceiverState as no_ack
use Rattle.no_ack.specs.ReceiverSteps as no_ack_step
use Rattle.aa_receiver.specs.State as aa
use Rattle.aa_receiver.specs.Steps as aa_step
use Rattle.aa_receiver.proofs.LawsLemmas.{preview_passes}
use Rattle.aoe_receiver.proofs.PreviewLemmas as aoe_law
use Rattle.aoe_receiver.specs.State as aoe
use Rattle.aoe_receiver.specs.Steps as aoe_step
use Rattle.tiles_bitmap.specs.Numbers.{tile_index}
use Rattle.sessions.specs.Receivers.{receiver_taken, receiver_checked, receiver_previewed}
use Rattle.sessions.specs.Receivers.{receiver_idled, receiver_lapsed, receiver_answered}
use Rattle.sessions.specs.declared.receivers.Receiver.{Receiver}
use Rattle.sessions.specs.declared.receivers.Receiver.TheVariants.{NoAck, AckAlways, AckOnError}
use Rattle.lanes.specs.Step.{checked_label, kept_after}

-- this holds of the RCS of an All-1 that came
abbrev pub CameIs : (ℕ → Type 0) → Message → Type 0
CameIs P (form.All1 w rcs from) = P rcs
CameIs P (form.Regular w fcn from) = Unit {0}
CameIs P (form.Ack w c bitmap) = Unit {0}
CameIs P (form.AckReq w) = Unit {0}
CameIs P form.SenderAbort = Unit {0}
CameIs P form.ReceiverAbort = Unit {0}

-- this holds of the RCS of the All-1 that is kept
abbrev pub LastIs : (ℕ → Type 0) → aoe.AoeReceiverData → Type 0
LastIs P (aoe.Empty abort) = Unit {0}
LastIs P (aoe.Gathering tiles None answer) = Unit {0}
LastIs P (aoe.Gathering tiles (Some last) answer) = P last.rcs
LastIs P (aoe.Finished tiles last answer) = P last.rcs

-- this holds of the RCS of the All-1 that a receiver of ACK-on-Error keeps; of another receiver
-- nothing is asked
abbrev pub KeptIs : (ℕ → Type 0) → Receiver → Type 0
KeptIs P (NoAck r) = Unit {0}
KeptIs P (AckAlways r) = Unit {0}
KeptIs P (AckOnError r) = LastIs P r

-- the check was made over this assembly, and this holds of its RCS
pub record IsPassed (made : Option (List Bool)) (assembly : List Bool) (P : ℕ → Type 0) : Type 0
  where
    pub made_is : made ≡ Some assembly
    pub rcs_is : P (rcs_of assembly)

some-same : {A : Type 0} (x y : A) → Some x ≡ Some y → x ≡ y
some-same x y e = cc

-- No-ACK.

no_ack-passed : (R : Option ℕ → ℕ → Type 0) (label kept : Option ℕ) (message : Message)
    (payload : List Bool) (r : no_ack.NoAckReceiverData) (assembly : List Bool)
    → CameIs (R label) message → no_ack_step.previewed message payload r ≡ Some assembly
    → IsPassed (no_ack_step.checked message payload r) assembly
    (R (checked_label message label kept))
unfolding checked_label
no_ack-passed R label kept (form.All1 w rcs from) payload r assembly came found =
    let seen = no_ack_law.preview_passes (form.All1 w rcs from) payload assembly r found in
    record { made_is = seen.is_checked; rcs_is = subst (R label) (sym seen.passes) came }
no_ack-passed R label kept (form.Regular w fcn from) payload r assembly came found =
    absurd (no_ack_law.preview_passes (form.Regular w fcn from) payload assembly r found).passes
no_ack-passed R label kept (form.Ack w c bitmap) payload r assembly came found =
    absurd (no_ack_law.preview_passes (form.Ack w c bitmap) payload assembly r found).passes
no_ack-passed R label kept (form.AckReq w) payload r assembly came found =
    absurd (no_ack_law.preview_passes (form.AckReq w) payload assembly r found).passes
no_ack-passed R label kept form.SenderAbort payload r assembly came found =
    absurd (no_ack_law.preview_passes form.SenderAbort payload assembly r found).passes
no_ack-passed R label kept form.ReceiverAbort payload r assembly came found =
    absurd (no_ack_law.preview_passes form.ReceiverAbort payload assembly r found).passes

-- ACK-Always.

aa-passed : (R : Option ℕ → ℕ → Type 0) (label kept : Option ℕ) (message : Message)
    (payload : List Bool) (r : aa.AaReceiverData) (assembly : List Bool) → CameIs (R label) message
    → aa_step.previewed message payload r ≡ Some assembly
    → IsPassed (aa_step.checked message payload r) assembly (R (checked_label message label kept))
unfolding checked_label
aa-passed R label kept (form.All1 w rcs from) payload r assembly came found =
    let both = preview_passes (form.All1 w rcs from) payload assembly r found in
    record { made_is = both.0; rcs_is = subst (R label) (sym both.1) came }
aa-passed R label kept (form.Regular w fcn from) payload r assembly came found =
    absurd (preview_passes (form.Regular w fcn from) payload assembly r found).1
aa-passed R label kept (form.Ack w c bitmap) payload r assembly came found =
    absurd (preview_passes (form.Ack w c bitmap) payload assembly r found).1
aa-passed R label kept (form.AckReq w) payload r assembly came found =
    absurd (preview_passes (form.AckReq w) payload assembly r found).1
aa-passed R label kept form.SenderAbort payload r assembly came found =
    absurd (preview_passes form.SenderAbort payload assembly r found).1
aa-passed R label kept form.ReceiverAbort payload r assembly came found =
    absurd (preview_passes form.ReceiverAbort payload assembly r found).1

-- ACK-on-Error.

abbrev MadeIs : (ℕ → Type 0) → Option aoe_step.CheckData → Type 0
MadeIs P None = Unit {0}
MadeIs P (Some check) = P check.last.rcs

all1-made : (P : ℕ → Type 0) (last : aoe.LastData) (r : aoe.AoeReceiverData) → P last.rcs
    → MadeIs P (aoe_step.all1_check last r)
unfolding aoe_step.all1_check
all1-made P last (aoe.Empty abort) p = tt
all1-made P last (aoe.Gathering tiles kept answer) p = p
all1-made P last (aoe.Finished tiles old answer) p = tt

ack_req-made : (P : ℕ → Type 0) (r : aoe.AoeReceiverData) → LastIs P r
    → MadeIs P (aoe_step.ack_req_check (aoe_step.begun r))
unfolding aoe_step.ack_req_check aoe_step.begun
ack_req-made P (aoe.Empty abort) k = tt
ack_req-made P (aoe.Gathering tiles None answer) k = tt
ack_req-made P (aoe.Gathering tiles (Some last) answer) k = k
ack_req-made P (aoe.Finished tiles last answer) k = tt

made-is : (R : Option ℕ → ℕ → Type 0) (label kept : Option ℕ) (message : Message)
    (payload : List Bool) (r : aoe.AoeReceiverData) → CameIs (R label) message → LastIs (R kept) r
    → MadeIs (R (checked_label message label kept)) (aoe_step.check_made message payload r)
unfolding aoe_step.check_made checked_label
made-is R label kept (form.All1 w rcs from) payload r came k =
    all1-made (R label) (aoe_step.last_of w rcs payload) (aoe_step.begun r) came
made-is R label kept (form.Regular w fcn from) payload r came k = tt
made-is R label kept (form.Ack w c bitmap) payload r came k = tt
made-is R label kept (form.AckReq w) payload r came k = ack_req-made (R kept) r k
made-is R label kept form.SenderAbort payload r came k = tt
made-is R label kept form.ReceiverAbort payload r came k = tt

aoe-passed : (R : Option ℕ → ℕ → Type 0) (label kept : Option ℕ) (message : Message)
    (payload : List Bool) (r : aoe.AoeReceiverData) (assembly : List Bool)
    → CameIs (R label) message → LastIs (R kept) r
    → aoe_step.previewed message payload r ≡ Some assembly
    → IsPassed (aoe_step.checked message payload r) assembly (R (checked_label message label kept))
unfolding aoe_step.checked
aoe-passed R label kept message payload r assembly came k found =
    let seen = aoe_law.preview_passes message payload assembly r found in
    let session : Option ℕ = checked_label message label kept in
    let made : MadeIs (R session) (Some seen.check) =
    subst (MadeIs (R session)) seen.made (made-is R label kept message payload r came k) in
    record {
      made_is =
          ap (option_map (λ (check : aoe_step.CheckData). aoe_step.assembly check.tiles check.last))
          seen.made
          ∙ ap (λ (list : List Bool). Some list) (sym seen.joins);
      rcs_is = subst (R session) (sym seen.passes) made;
    }

-- Every receiver.

-- an assembly that passes is the one checked, and of its RCS holds what holds of that of the All-1
-- whose session is noted: the message's own, or the one that is kept
pub passed-is : (R : Option ℕ → ℕ → Type 0) (label kept : Option ℕ) (message : Message)
    (payload : List Bool) (r : Receiver) (assembly : List Bool) → CameIs (R label) message
    → KeptIs (R kept) r → receiver_previewed message payload r ≡ Some assembly
    → IsPassed (receiver_checked message payload r) assembly (R (checked_label message label kept))
unfolding receiver_previewed receiver_checked
passed-is R label kept message payload (NoAck r) assembly came k found =
    no_ack-passed R label kept message payload r assembly came found
passed-is R label kept message payload (AckAlways r) assembly came k found =
    aa-passed R label kept message payload r assembly came found
passed-is R label kept message payload (AckOnError r) assembly came k found =
    aoe-passed R label kept message payload r assembly came k found

-- The All-1 that is kept after a message was taken.

check_step-kept : (P : ℕ → Type 0) (tiles : List (Option (List Bool))) (last : aoe.LastData)
    (pass : Bool) → P last.rcs → LastIs P (aoe_step.check_step tiles last pass).0
unfolding aoe_step.check_step
check_step-kept P tiles last true p = p
check_step-kept P tiles last false p = p

regular-kept : (P : ℕ → Type 0) (place : ℕ) (new : List (List Bool)) (r : aoe.AoeReceiverData)
    → LastIs P r → LastIs P (aoe_step.regular_step place new (aoe_step.begun r)).0
unfolding aoe_step.regular_step aoe_step.begun
regular-kept P place new (aoe.Empty abort) k = tt
regular-kept P place new (aoe.Gathering tiles None answer) k = tt
regular-kept P place new (aoe.Gathering tiles (Some last) answer) k = k
regular-kept P place new (aoe.Finished tiles last answer) k = k

abort-kept : (P : ℕ → Type 0) (r : aoe.AoeReceiverData) → LastIs P (aoe_step.abort_step r).0
unfolding aoe_step.abort_step
abort-kept P (aoe.Empty abort) = tt
abort-kept P (aoe.Gathering tiles kept answer) = tt
abort-kept P (aoe.Finished tiles last answer) = tt

other-kept : (P : ℕ → Type 0) (r : aoe.AoeReceiverData) → LastIs P r
    → LastIs P (aoe_step.other_step r).0
unfolding aoe_step.other_step
other-kept P (aoe.Empty abort) k = tt
other-kept P (aoe.Gathering tiles None answer) k = k
other-kept P (aoe.Gathering tiles (Some last) answer) k = k
other-kept P (aoe.Finished tiles last answer) k = k

abbrev assembly_in : Option aoe_step.CheckData → Option (List Bool)
assembly_in made = option_map (λ check. aoe_step.assembly check.tiles check.last) made

all1-kept : (R : Option ℕ → ℕ → Type 0) (label kept : Option ℕ) (last : aoe.LastData)
    (r : aoe.AoeReceiverData) → R label last.rcs → LastIs (R kept) r
    → LastIs (R (kept_after (assembly_in (aoe_step.all1_check last (aoe_step.begun r))) label kept))
    (aoe_step.all1_step last (aoe_step.begun r)).0
unfolding aoe_step.all1_step aoe_step.all1_check aoe_step.begun kept_after
all1-kept R label kept last (aoe.Empty abort) came k =
    check_step-kept (R label) aoe.no_tiles last (aoe_step.passes aoe.no_tiles last) came
all1-kept R label kept last (aoe.Gathering tiles old answer) came k =
    check_step-kept (R label) tiles last (aoe_step.passes tiles last) came
all1-kept R label kept last (aoe.Finished tiles old answer) came k = k

ack_req-kept : (R : Option ℕ → ℕ → Type 0) (kept : Option ℕ) (r : aoe.AoeReceiverData)
    → LastIs (R kept) r
    → LastIs (R (kept_after (assembly_in (aoe_step.ack_req_check (aoe_step.begun r))) kept kept))
    (aoe_step.ack_req_step (aoe_step.begun r)).0
unfolding aoe_step.ack_req_step aoe_step.ack_req_check aoe_step.begun kept_after
ack_req-kept R kept (aoe.Empty abort) k = tt
ack_req-kept R kept (aoe.Gathering tiles None answer) k = tt
ack_req-kept R kept (aoe.Gathering tiles (Some last) answer) k =
    check_step-kept (R kept) tiles last (aoe_step.passes tiles last) k
ack_req-kept R kept (aoe.Finished tiles last answer) k = k

aoe-kept : (R : Option ℕ → ℕ → Type 0) (label kept : Option ℕ) (message : Message)
    (payload : List Bool) (r : aoe.AoeReceiverData) → CameIs (R label) message → LastIs (R kept) r
    → LastIs
    (R (kept_after (aoe_step.checked message payload r) (checked_label message label kept) kept))
    (aoe_step.taken message payload r).0
unfolding aoe_step.taken aoe_step.checked aoe_step.check_made checked_label kept_after
aoe-kept R label kept (form.All1 w rcs from) payload r came k =
    all1-kept R label kept (aoe_step.last_of w rcs payload) r came k
aoe-kept R label kept (form.Regular w fcn from) payload r came k =
    regular-kept (R kept) (tile_index (record { w = w; fcn = fcn })) (aoe.payload_tiles payload) r k
aoe-kept R label kept (form.Ack w c bitmap) payload r came k = other-kept (R kept) r k
aoe-kept R label kept (form.AckReq w) payload r came k = ack_req-kept R kept r k
aoe-kept R label kept form.SenderAbort payload r came k = abort-kept (R kept) r
aoe-kept R label kept form.ReceiverAbort payload r came k = other-kept (R kept) r k

-- what holds of the RCS of the All-1 that comes, and of the one that is kept, each with its
-- session, holds of the one that is kept after the message
pub taken-kept : (R : Option ℕ → ℕ → Type 0) (label kept : Option ℕ) (message : Message)
    (payload : List Bool) (r : Receiver) → CameIs (R label) message → KeptIs (R kept) r
    → KeptIs
    (R (kept_after (receiver_checked message payload r) (checked_label message label kept) kept))
    (receiver_taken message payload r).0
unfolding receiver_taken receiver_checked
taken-kept R label kept message payload (NoAck r) came k = tt
taken-kept R label kept message payload (AckAlways r) came k = tt
taken-kept R label kept message payload (AckOnError r) came k =
    aoe-kept R label kept message payload r came k

-- And after another step.

answered-last : (P : ℕ → Type 0) (r : aoe.AoeReceiverData) → LastIs P r
    → LastIs P (aoe_step.answered r)
unfolding aoe_step.answered
answered-last P (aoe.Empty abort) k = k
answered-last P (aoe.Gathering tiles None answer) k = k
answered-last P (aoe.Gathering tiles (Some last) answer) k = k
answered-last P (aoe.Finished tiles last answer) k = k

idled-last : (P : ℕ → Type 0) (r : aoe.AoeReceiverData) → LastIs P r → LastIs P (aoe_step.idled r)
unfolding aoe_step.idled
idled-last P (aoe.Empty abort) k = k
idled-last P (aoe.Gathering tiles kept answer) k = tt
idled-last P (aoe.Finished tiles last answer) k = k

lapsed-last : (P : ℕ → Type 0) (r : aoe.AoeReceiverData) → LastIs P r → LastIs P (aoe_step.lapsed r)
unfolding aoe_step.lapsed
lapsed-last P (aoe.Empty abort) k = k
lapsed-last P (aoe.Gathering tiles None answer) k = k
lapsed-last P (aoe.Gathering tiles (Some last) answer) k = k
lapsed-last P (aoe.Finished tiles last answer) k = tt

-- what holds of the RCS of the All-1 that is kept still holds when the answer was given
pub answered-kept : (P : ℕ → Type 0) (r : Receiver) → KeptIs P r → KeptIs P (receiver_answered r)
unfolding receiver_answered
answered-kept P (NoAck r) k = k
answered-kept P (AckAlways r) k = k
answered-kept P (AckOnError r) k = answered-last P r k

-- what holds of the RCS of the All-1 that is kept still holds when the inactivity timer was due
pub idled-kept : (P : ℕ → Type 0) (r : Receiver) → KeptIs P r → KeptIs P (receiver_idled r)
unfolding receiver_idled
idled-kept P (NoAck r) k = k
idled-kept P (AckAlways r) k = k
idled-kept P (AckOnError r) k = idled-last P r k

-- what holds of the RCS of the All-1 that is kept still holds when the receiver has lingered
pub lapsed-kept : (P : ℕ → Type 0) (r : Receiver) → KeptIs P r → KeptIs P (receiver_lapsed r)
unfolding receiver_lapsed
lapsed-kept P (NoAck r) k = k
lapsed-kept P (AckAlways r) k = k
lapsed-kept P (AckOnError r) k = lapsed-last P r k
