-- What holds of every receiver.
use Rattle.std.specs.Prelude.{◌≡◌, ◌↔◌, ◌≤◌, Bool, List, length, Some}
use Rattle.schc_ids.specs.declared.notes.Note.TheVariants as note
use Rattle.frag_wire.specs.declared.message.Message.{Message}
use Rattle.frag_wire.specs.declared.message.Message.TheVariants as form
use Rattle.rcs.specs.Division.{rcs_of}
use Rattle.reassembly.specs.Joining.{reassembly_bits}
use Rattle.aa_receiver.specs.State.{AaReceiverData}
use Rattle.aa_receiver.specs.Steps.{taken, checked, previewed}

-- a preview gives bits exactly where taking the message passes the check
abbrev pub PreviewJoins : Type 0
PreviewJoins =
    (message : Message) (part : List Bool) (receiver : AaReceiverData) →
    ((bits : List Bool) × (previewed message part receiver ≡ Some bits)) ↔
    ((taken message part receiver).1 ≡ note.Joined)

-- what it gives are the bits over which the check is made, and their check is the one that was sent
abbrev pub HasCheck : Message → List Bool → Type 0
HasCheck (form.Regular w fcn from) bits = ⊥
HasCheck (form.All1 w rcs from) bits = rcs_of bits ≡ rcs
HasCheck (form.AckReq w) bits = ⊥
HasCheck form.SenderAbort bits = ⊥
HasCheck (form.Ack w c bitmap) bits = ⊥
HasCheck form.ReceiverAbort bits = ⊥

abbrev pub PreviewPasses : Type 0
PreviewPasses =
    (message : Message) (part bits : List Bool) (receiver : AaReceiverData)
    → previewed message part receiver ≡ Some bits →
    (checked message part receiver ≡ Some bits) × HasCheck message bits

-- and there is room for them
abbrev pub PreviewFits : Type 0
PreviewFits =
    (message : Message) (part bits : List Bool) (receiver : AaReceiverData)
    → previewed message part receiver ≡ Some bits →
    length bits ≤ reassembly_bits
