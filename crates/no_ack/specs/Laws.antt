-- What holds of every sender and of every receiver.
use Rattle.std.specs.Prelude.{ℕ, ◌≡◌, ◌↔◌, ◌⊎◌, ◌<◌, ◌≤◌, true, false, Bool, List, ◌++◌, length}
use Rattle.std.specs.Prelude.{take, Some, None, IfSome}
use Rattle.schc_bits.specs.Bits.{octets}
use Rattle.schc_ids.specs.Fragments.{params_of}
use Rattle.schc_ids.specs.Limits.{IsMtu, min_cut_bits, max_session_bits}
use Rattle.schc_ids.specs.declared.ends.LastTile.{LastTile}
use Rattle.schc_ids.specs.declared.fragments.FragMode.TheVariants as mode
use Rattle.schc_ids.specs.declared.fragments.FragParams.{FragParams}
use Rattle.schc_ids.specs.declared.fragments.Side.TheVariants as side
use Rattle.schc_ids.specs.declared.notes.Note.TheVariants.{Joined}
use Rattle.schc_ids.specs.declared.phases.SenderPhase.TheVariants as phase
use Rattle.frag_wire.specs.Layouts.{payload_in}
use Rattle.frag_wire.specs.Spells.{Spells, CanSpell}
use Rattle.frag_wire.specs.declared.message.Message.{Message}
use Rattle.frag_wire.specs.declared.message.Message.TheVariants as form
use Rattle.rcs.specs.Division.{rcs_of}
use Rattle.reassembly.specs.Joining.{reassembly_bits}
use Rattle.tiles_bitmap.specs.Laws.{joined}
use Rattle.tiles_bitmap.specs.Padding.{padded_packet}
use Rattle.no_ack.specs.ReceiverState.{NoAckReceiverData}
use Rattle.no_ack.specs.ReceiverSteps.{taken, checked, previewed}
use Rattle.no_ack.specs.SenderState.{NoAckSenderData, IsNoAckSender, begun, sender_phase}
use Rattle.no_ack.specs.SenderState.{packet_tiles, tile_at, last_index}
use Rattle.no_ack.specs.SenderSteps.{fragment_of, bytes_due, due_message, due_bytes, sent, aborted}

-- Receivers.

-- the assembly is seen beforehand exactly where the message is noted as the one that joins it
abbrev pub PreviewJoins : Type 0
PreviewJoins =
    (message : Message) (payload : List Bool) (receiver : NoAckReceiverData)
    (assembly : List Bool) →
    (previewed message payload receiver ≡ Some assembly)
    ↔ (((taken message payload receiver).1 ≡ Joined)
    × (checked message payload receiver ≡ Some assembly))

-- there is an assembly to see exactly where the message joins it
abbrev pub PreviewIsJoin : Type 0
PreviewIsJoin =
    (message : Message) (payload : List Bool) (receiver : NoAckReceiverData) →
    ((assembly : List Bool) × (previewed message payload receiver ≡ Some assembly)) ↔
    ((taken message payload receiver).1 ≡ Joined)

-- RFC 8724, section 8.2.3: the message carries the check of these bits
abbrev pub HasCheck : Message → List Bool → Type 0
HasCheck (form.Regular w fcn from) bits = ⊥
HasCheck (form.All1 w rcs from) bits = rcs_of bits ≡ rcs
HasCheck (form.Ack w c bitmap) bits = ⊥
HasCheck (form.AckReq w) bits = ⊥
HasCheck form.SenderAbort bits = ⊥
HasCheck form.ReceiverAbort bits = ⊥

-- the bits that are seen are those over which the check is made, they pass it, and there is room
-- for them
pub record IsPreview (message : Message) (payload : List Bool) (receiver : NoAckReceiverData)
    (assembly : List Bool) : Type 0 where
  pub is_checked : checked message payload receiver ≡ Some assembly
  pub passes : HasCheck message assembly
  pub fits : length assembly ≤ reassembly_bits

abbrev pub PreviewPasses : Type 0
PreviewPasses =
    (message : Message) (payload assembly : List Bool) (receiver : NoAckReceiverData) →
    previewed message payload receiver ≡ Some assembly → IsPreview message payload receiver assembly

-- Senders.

-- a session that begins has a sender
abbrev pub BeginsOne : Type 0
BeginsOne =
    (params : FragParams) (mtu : ℕ) (last : LastTile) (bits : List Bool) →
    params ≡ params_of mode.NoAck → IsMtu mtu → min_cut_bits ≤ length bits
    → length bits ≤ max_session_bits →
    IsNoAckSender (begun params mtu last bits)

-- each step leads to a sender
pub record IsKept (sender : NoAckSenderData) : Type 0 where
  pub sends : IsNoAckSender (sent sender)
  pub aborts : IsNoAckSender (aborted sender).0

abbrev pub StaysOne : Type 0
StaysOne = (sender : NoAckSenderData) → IsNoAckSender sender → IsKept sender

-- a sender of the same SCHC packet, in frames of the same size
pub record IsSameSession (before : NoAckSenderData) (after : NoAckSenderData) : Type 0 where
  pub params : after.params ≡ before.params
  pub mtu : after.mtu ≡ before.mtu
  pub bits : after.bits ≡ before.bits

-- each step changes nothing but where the sender stands
abbrev pub KeepsSession : Type 0
KeepsSession = (sender : NoAckSenderData) → IsSameSession sender (sent sender)
    × IsSameSession sender (aborted sender).0

-- nothing is due exactly when the session has ended; in this mode a sender never waits
abbrev pub NoneDue : Type 0
NoneDue =
    (sender : NoAckSenderData) →
    (due_bytes sender ≡ None) ↔
    ((sender_phase sender ≡ phase.Waiting) ⊎ (sender_phase sender ≡ phase.Quiet))

-- what is due can be written, and fits in a frame
abbrev pub DueFits : Type 0
DueFits =
    (sender : NoAckSenderData) → IsNoAckSender sender →
    IfSome (due_message sender)
    (λ due. CanSpell sender.params side.Fragments due.0 due.1
    × (length (bytes_due sender.params due) ≤ sender.mtu))

-- an All-1 that is due carries the check of the padded packet
abbrev pub All1Checks : Type 0
All1Checks =
    (sender : NoAckSenderData) (bytes : List ℕ) (w rcs from : ℕ) (payload : List Bool) →
    IsNoAckSender sender → due_bytes sender ≡ Some bytes →
    Spells sender.params side.Fragments (form.All1 w rcs from) payload bytes →
    rcs ≡ rcs_of (padded_packet sender.params sender.mtu sender.bits)

-- the payload of a Regular, as it is read, is its tile
abbrev pub TileArrives : Type 0
TileArrives =
    (sender : NoAckSenderData) (i : ℕ) → IsNoAckSender sender → i < last_index sender →
    payload_in (fragment_of sender i false).0
    (octets (bytes_due sender.params (fragment_of sender i false))) ≡ tile_at sender i

-- the tiles of all Regulars and then the payload of the All-1, as it is read, are the padded packet
abbrev pub LastArrives : Type 0
LastArrives =
    (sender : NoAckSenderData) → IsNoAckSender sender →
    joined (take (last_index sender) (packet_tiles sender)) ++
    payload_in (fragment_of sender (last_index sender) true).0
    (octets (bytes_due sender.params (fragment_of sender (last_index sender) true))) ≡
    padded_packet sender.params sender.mtu sender.bits
