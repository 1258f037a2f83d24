-- What holds of every sender of the ACK-on-Error mode.
use Rattle.std.specs.Prelude.{ℕ, ◌≡◌, ◌↔◌, ◌⊎◌, ◌≤◌, zero, suc, ◌<◌, List, [], ◌++◌, Bool, length}
use Rattle.std.specs.Prelude.{Option, Some, None}
use Rattle.schc_ids.specs.declared.ends.LastTile.{LastTile}
use Rattle.schc_ids.specs.declared.fragments.FragMode.TheVariants as mode
use Rattle.schc_ids.specs.declared.fragments.FragParams.{FragParams}
use Rattle.schc_ids.specs.declared.fragments.Side.TheVariants as side
use Rattle.schc_ids.specs.Fragments.{params_of}
use Rattle.schc_ids.specs.Limits.{IsMtu, min_cut_bits, max_session_bits}
use Rattle.schc_ids.specs.declared.phases.SenderPhase.TheVariants as phase
use Rattle.frag_wire.specs.declared.message.Message.{Message}
use Rattle.frag_wire.specs.declared.message.Message.TheVariants as form
use Rattle.frag_wire.specs.Layouts.{written}
use Rattle.frag_wire.specs.Spells.{Spells}
use Rattle.rcs.specs.Division.{rcs_of}
use Rattle.tiles_bitmap.specs.Laws.{joined}
use Rattle.tiles_bitmap.specs.Padding as padding
use Rattle.aoe_sender.specs.State.{AoeSenderData}
use Rattle.aoe_sender.specs.Steps.{begun, due_message, due_bytes, sent, heard, retried, aborted}
use Rattle.aoe_sender.specs.Steps.{sender_phase, IsAoeSender}
use Rattle.aoe_sender.specs.Tiles.{padded_packet, regular_count, regular_tiles, all1_tile}

-- a session that begins is a sender
abbrev pub BeginsSound : Type 0
BeginsSound =
    (params : FragParams) (mtu : ℕ) (last : LastTile) (bits : List Bool)
    → params ≡ params_of mode.AckOnError → IsMtu mtu →
    min_cut_bits ≤ length bits → length bits ≤ max_session_bits
    → IsAoeSender (begun params mtu last bits)

-- each step leaves a sender
pub record StepsSound (s : AoeSenderData) : Type 0 where
  pub sent_is : IsAoeSender (sent s)
  pub heard_is : (message : Message) → IsAoeSender (heard message s).0
  pub retried_is : IsAoeSender (retried s).0
  pub aborted_is : IsAoeSender (aborted s).0

abbrev pub StaysSound : Type 0
StaysSound = (s : AoeSenderData) → IsAoeSender s → StepsSound s

-- a sender of the same SCHC packet, in frames of the same size
pub record IsSameSession (before : AoeSenderData) (after : AoeSenderData) : Type 0 where
  pub params : after.params ≡ before.params
  pub mtu : after.mtu ≡ before.mtu
  pub last : after.last ≡ before.last
  pub bits : after.bits ≡ before.bits

-- each step changes nothing but where the sender stands
pub record KeepsIts (s : AoeSenderData) : Type 0 where
  pub sends : IsSameSession s (sent s)
  pub hears : (message : Message) → IsSameSession s (heard message s).0
  pub retries : IsSameSession s (retried s).0
  pub aborts : IsSameSession s (aborted s).0

abbrev pub KeepsSession : Type 0
KeepsSession = (s : AoeSenderData) → KeepsIts s

-- nothing is due exactly while the sender waits and when its session has ended
abbrev pub NoneDue : Type 0
NoneDue =
    (s : AoeSenderData)
    → (due_bytes s ≡ None) ↔ ((sender_phase s ≡ phase.Waiting) ⊎ (sender_phase s ≡ phase.Quiet))

-- what is due is a message of the mode, and its payload is whole bytes: its bytes spell it
abbrev pub SpellsDue : Type 0
SpellsDue =
    (s : AoeSenderData) (due : Message × List Bool) → IsAoeSender s → due_message s ≡ Some due →
    Spells s.params side.Fragments due.0 due.1 (written s.params due.0 due.1)

-- the tiles of the Regulars in their order, and then the tile in the All-1, are the padded packet
abbrev pub TilesArePacket : Type 0
TilesArePacket = (s : AoeSenderData) → IsAoeSender s
    → joined (regular_tiles s) ++ all1_tile s ≡ padded_packet s

abbrev pub payload_of : Option (Message × List Bool) → List Bool
payload_of None = []
payload_of (Some due) = due.1

-- the payloads of the messages that are given, so often one after the other, joined
unfoldable pub payloads : ℕ → AoeSenderData → List Bool
payloads zero s = []
payloads (suc count) s = payload_of (due_message s) ++ payloads count (sent s)

-- a session that begins sends its padded packet before it waits: a Regular has at least one tile,
-- then comes the All-1
abbrev pub SendsPacket : Type 0
SendsPacket =
    (params : FragParams) (mtu : ℕ) (last : LastTile) (bits : List Bool) (count : ℕ)
    → params ≡ params_of mode.AckOnError →
    IsMtu mtu → min_cut_bits ≤ length bits → length bits ≤ max_session_bits →
    regular_count (begun params mtu last bits) < count →
    payloads count (begun params mtu last bits) ≡ padded_packet (begun params mtu last bits)

-- the padded packet is that of all modes, whether the last tile goes in the All-1 or in a Regular:
-- 40 bits stand before the All-1's tile, and each tile but the last has 80, so that the padding is
-- the same
abbrev pub OnePadding : Type 0
OnePadding = (s : AoeSenderData) → IsAoeSender s
    → padded_packet s ≡ padding.padded_packet s.params s.mtu s.bits

-- an All-1 that is due carries the check of the padded packet
abbrev pub All1Checks : Type 0
All1Checks =
    (s : AoeSenderData) (bytes : List ℕ) (w rcs from : ℕ) (payload : List Bool) →
    IsAoeSender s → due_bytes s ≡ Some bytes →
    Spells s.params side.Fragments (form.All1 w rcs from) payload bytes →
    rcs ≡ rcs_of (padding.padded_packet s.params s.mtu s.bits)

-- the tiles of the Regulars in their order, and then the tile in the All-1, are the padded packet
-- of all modes
abbrev pub PacketArrives : Type 0
PacketArrives =
    (s : AoeSenderData) → IsAoeSender s →
    joined (regular_tiles s) ++ all1_tile s ≡ padding.padded_packet s.params s.mtu s.bits
