-- A preview and what the message does.
use Rattle.std.proofs.Common.{◌≡◌, ◌↔◌, Bool, true, false, List, Option, Some, None, if◌then◌else◌}
use Rattle.std.proofs.Common.{refl}
use Rattle.schc_ids.specs.declared.notes.Note.{Note}
use Rattle.schc_ids.specs.declared.notes.Note.TheVariants as note
use Rattle.frag_wire.specs.declared.message.Message.{Message}
use Rattle.frag_wire.specs.declared.message.Message.TheVariants as form
use Rattle.aoe_receiver.specs.Laws.{PreviewJoins}
use Rattle.aoe_receiver.specs.State.{LastData, AoeReceiverData, Empty, Gathering, Finished}
use Rattle.aoe_receiver.specs.State.{no_tiles}
use Rattle.aoe_receiver.specs.Steps.{assembly, passes, begun, all_held, regular_step, check_step}
use Rattle.aoe_receiver.specs.Steps.{all1_step, ack_req_step, abort_step, other_step, last_of}
use Rattle.aoe_receiver.specs.Steps.{taken, all1_check, ack_req_check, check_made, checked}
use Rattle.aoe_receiver.specs.Steps.{if_passed, previewed}

-- a preview, a note and an assembly agree
Agrees : Option (List Bool) → Note → Option (List Bool) → Type 0
Agrees preview said check = (((a : List Bool) × (preview ≡ Some a)) ↔ (said ≡ note.Joined))
    × ((a : List Bool) → preview ≡ Some a → check ≡ Some a)

none-agrees : (said : Note) (check : Option (List Bool)) → (said ≡ note.Joined → ⊥)
    → Agrees None said check
unfolding Agrees
none-agrees said check no_join = ((λ there. absurd cc, λ e. absurd (no_join e)), λ a e. absurd cc)

check-agrees : (tiles : List (Option (List Bool))) (last : LastData) (b : Bool) →
    Agrees (if b then Some (assembly tiles last) else None) (check_step tiles last b).1
    (Some (assembly tiles last))
unfolding Agrees check_step
check-agrees tiles last true = ((λ there. refl, λ e. (assembly tiles last, refl)), λ a e. e)
check-agrees tiles last false = none-agrees note.CheckFailed (Some (assembly tiles last)) (λ e. cc)

kept-agrees : (b : Bool) → Agrees None (if b then note.Repeat else note.Stored) None
unfolding Agrees
kept-agrees true = none-agrees note.Repeat None (λ e. cc)
kept-agrees false = none-agrees note.Stored None (λ e. cc)

other-agrees : (receiver : AoeReceiverData) → Agrees None (other_step receiver).1 None
unfolding other_step
other-agrees (Empty abort) = none-agrees note.Remnant None (λ e. cc)
other-agrees (Gathering tiles kept answer) = none-agrees note.Remnant None (λ e. cc)
other-agrees (Finished tiles last answer) = none-agrees note.Remnant None (λ e. cc)

agrees : (message : Message) (payload : List Bool) (receiver : AoeReceiverData) →
    Agrees (previewed message payload receiver) (taken message payload receiver).1
    (checked message payload receiver)
unfolding Agrees taken checked previewed check_made if_passed begun regular_step all1_step
    ack_req_step abort_step all1_check ack_req_check
agrees (form.Regular w fcn from) payload (Empty abort) = kept-agrees (all_held _ _ no_tiles)
agrees (form.Regular w fcn from) payload (Gathering tiles kept answer) =
    kept-agrees (all_held _ _ tiles)
agrees (form.Regular w fcn from) payload (Finished tiles last answer) =
    none-agrees note.Remnant None (λ e. cc)
agrees (form.All1 w rcs from) payload (Empty abort) =
    check-agrees no_tiles (last_of w rcs payload) (passes no_tiles (last_of w rcs payload))
agrees (form.All1 w rcs from) payload (Gathering tiles kept answer) =
    check-agrees tiles (last_of w rcs payload) (passes tiles (last_of w rcs payload))
agrees (form.All1 w rcs from) payload (Finished tiles last answer) =
    none-agrees note.Repeat None (λ e. cc)
agrees (form.AckReq w) payload (Empty abort) = none-agrees note.Asked None (λ e. cc)
agrees (form.AckReq w) payload (Gathering tiles None answer) = none-agrees note.Asked None (λ e. cc)
agrees (form.AckReq w) payload (Gathering tiles (Some last) answer) =
    check-agrees tiles last (passes tiles last)
agrees (form.AckReq w) payload (Finished tiles last answer) = none-agrees note.Repeat None (λ e. cc)
agrees form.SenderAbort payload (Empty abort) = none-agrees note.Remnant None (λ e. cc)
agrees form.SenderAbort payload (Gathering tiles kept answer) =
    none-agrees note.PeerAborted None (λ e. cc)
agrees form.SenderAbort payload (Finished tiles last answer) =
    none-agrees note.PeerAborted None (λ e. cc)
agrees (form.Ack w c bits) payload receiver = other-agrees receiver
agrees form.ReceiverAbort payload receiver = other-agrees receiver

-- there is a preview exactly where the message joins, and it is what the check is made over
pub preview-joins : PreviewJoins
unfolding Agrees
preview-joins message payload receiver = agrees message payload receiver
