-- What holds of every sender.
use Rattle.std.specs.Prelude.{ℕ, ◌≡◌, ◌↔◌, ◌⊎◌, ◌<◌, ◌≤◌, true, false, List, Bool, ◌++◌, length}
use Rattle.std.specs.Prelude.{take, Some, None, IfSome}
use Rattle.schc_bits.specs.Bits.{octets}
use Rattle.schc_ids.specs.Fragments.{params_of}
use Rattle.schc_ids.specs.Limits.{IsMtu, min_cut_bits, max_session_bits}
use Rattle.schc_ids.specs.declared.ends.LastTile.{LastTile}
use Rattle.schc_ids.specs.declared.fragments.FragMode.TheVariants as mode
use Rattle.schc_ids.specs.declared.fragments.FragParams.{FragParams}
use Rattle.schc_ids.specs.declared.fragments.Side.TheVariants as side
use Rattle.schc_ids.specs.declared.phases.SenderPhase.TheVariants as phase
use Rattle.frag_wire.specs.Layouts.{payload_in}
use Rattle.frag_wire.specs.Spells.{Spells, CanSpell}
use Rattle.frag_wire.specs.declared.message.Message.{Message}
use Rattle.frag_wire.specs.declared.message.Message.TheVariants as form
use Rattle.rcs.specs.Division.{rcs_of}
use Rattle.tiles_bitmap.specs.Laws.{joined}
use Rattle.tiles_bitmap.specs.Padding.{padded_packet}
use Rattle.aa_sender.specs.State.{AaSenderData, IsAaSender, begun, sender_phase, packet_tiles}
use Rattle.aa_sender.specs.State.{tile_at, last_index}
use Rattle.aa_sender.specs.Steps.{fragment_of, fragment_bytes, bytes_due, due_message, due_bytes}
use Rattle.aa_sender.specs.Steps.{sent, heard, retried, aborted}

-- a session that begins has a sender
abbrev pub BeginsOne : Type 0
BeginsOne =
    (params : FragParams) (mtu : ℕ) (last : LastTile) (bits : List Bool) →
    params ≡ params_of mode.AckAlways → IsMtu mtu → min_cut_bits ≤ length bits
    → length bits ≤ max_session_bits →
    IsAaSender (begun params mtu last bits)

-- each step leads to a sender
pub record IsKept (sender : AaSenderData) : Type 0 where
  pub sends : IsAaSender (sent sender)
  pub hears : (message : Message) → IsAaSender (heard message sender).0
  pub retries : IsAaSender (retried sender).0
  pub aborts : IsAaSender (aborted sender).0

abbrev pub StaysOne : Type 0
StaysOne = (sender : AaSenderData) → IsAaSender sender → IsKept sender

-- a sender of the same SCHC packet, in frames of the same size
pub record IsSameSession (before : AaSenderData) (after : AaSenderData) : Type 0 where
  pub params : after.params ≡ before.params
  pub mtu : after.mtu ≡ before.mtu
  pub bits : after.bits ≡ before.bits

-- each step changes nothing but where the sender stands
pub record KeepsIts (sender : AaSenderData) : Type 0 where
  pub sends : IsSameSession sender (sent sender)
  pub hears : (message : Message) → IsSameSession sender (heard message sender).0
  pub retries : IsSameSession sender (retried sender).0
  pub aborts : IsSameSession sender (aborted sender).0

abbrev pub KeepsSession : Type 0
KeepsSession = (sender : AaSenderData) → KeepsIts sender

-- nothing is due exactly while the sender waits and when its session has ended
abbrev pub NoneDue : Type 0
NoneDue =
    (sender : AaSenderData) →
    (due_bytes sender ≡ None) ↔
    ((sender_phase sender ≡ phase.Waiting) ⊎ (sender_phase sender ≡ phase.Quiet))

-- what is due can be written, and fits in a frame
abbrev pub DueFits : Type 0
DueFits =
    (sender : AaSenderData) → IsAaSender sender →
    IfSome (due_message sender)
    (λ due. CanSpell sender.params side.Fragments due.0 due.1
    × (length (bytes_due sender.params due) ≤ sender.mtu))

-- an All-1 that is due carries the check of the padded packet
abbrev pub All1Checks : Type 0
All1Checks =
    (sender : AaSenderData) (bytes : List ℕ) (w rcs from : ℕ) (payload : List Bool) →
    IsAaSender sender → due_bytes sender ≡ Some bytes →
    Spells sender.params side.Fragments (form.All1 w rcs from) payload bytes →
    rcs ≡ rcs_of (padded_packet sender.params sender.mtu sender.bits)

-- the payload of a Regular, as it is read, is its tile
abbrev pub TileArrives : Type 0
TileArrives =
    (sender : AaSenderData) (i : ℕ) → IsAaSender sender → i < last_index sender →
    payload_in (fragment_of sender i false).0 (octets (fragment_bytes sender i false)) ≡ tile_at
    sender i

-- the tiles of all Regulars and then the payload of the All-1, as it is read, are the padded packet
abbrev pub LastArrives : Type 0
LastArrives =
    (sender : AaSenderData) → IsAaSender sender →
    joined (take (last_index sender) (packet_tiles sender)) ++
    payload_in (fragment_of sender (last_index sender) true).0
    (octets (fragment_bytes sender (last_index sender) true)) ≡
    padded_packet sender.params sender.mtu sender.bits
