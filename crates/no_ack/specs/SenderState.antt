-- RFC 8724, section 8.4.1: what a sender in the No-ACK mode keeps, as contracts see it.
use Rattle.std.specs.Prelude.{ℕ, ◌≡◌, ◌-◌, ◌≤◌, Bool, List, [], length, get_or}
use Rattle.schc_ids.specs.Fragments.{params_of}
use Rattle.schc_ids.specs.Limits.{IsMtu, min_cut_bits, max_session_bits}
use Rattle.schc_ids.specs.declared.ends.LastTile.{LastTile}
use Rattle.schc_ids.specs.declared.fragments.FragMode.TheVariants as mode
use Rattle.schc_ids.specs.declared.fragments.FragParams.{FragParams}
use Rattle.schc_ids.specs.declared.phases.SenderPhase.{SenderPhase}
use Rattle.schc_ids.specs.declared.phases.SenderPhase.TheVariants as phase
use Rattle.tiles_bitmap.specs.Tiles.{tiles}
use Rattle.no_ack.specs.declared.states.NoAckSenderState.{NoAckSenderState}
use Rattle.no_ack.specs.declared.states.NoAckSenderState.TheVariants.{Sending, Closing, Quiet}

-- the bits are those of the SCHC packet that goes as this session
pub record NoAckSenderData : Type 0 where
  pub params : FragParams
  pub mtu : ℕ
  pub bits : List Bool
  pub state : NoAckSenderState

-- a session that begins: its first tile is due. Where the last tile goes has no meaning in this
-- mode
abbrev pub begun : FragParams → ℕ → LastTile → List Bool → NoAckSenderData
begun params mtu last bits = record { params = params; mtu = mtu; bits = bits; state = Sending 0 }

-- the tiles of the packet, in their order
abbrev pub packet_tiles : NoAckSenderData → List (List Bool)
packet_tiles sender = tiles sender.params sender.mtu sender.bits

-- the tile with the index i
abbrev pub tile_at : NoAckSenderData → ℕ → List Bool
tile_at sender i = get_or (packet_tiles sender) i []

-- the index of the last tile
unfoldable pub last_index : NoAckSenderData → ℕ
last_index sender = length (packet_tiles sender) - 1

abbrev pub phase_in : NoAckSenderState → SenderPhase
phase_in (Sending i) = phase.Sending
phase_in Closing = phase.Closing
phase_in Quiet = phase.Quiet

abbrev pub sender_phase : NoAckSenderData → SenderPhase
sender_phase sender = phase_in sender.state

-- where a sender can stand: at one of its tiles, or at the end of the session
abbrev pub StandsIn : ℕ → NoAckSenderState → Type 0
StandsIn last (Sending i) = i ≤ last
StandsIn last Closing = Unit {0}
StandsIn last Quiet = Unit {0}

-- what holds of every sender
pub record IsNoAckSender (sender : NoAckSenderData) : Type 0 where
  pub row : sender.params ≡ params_of mode.NoAck
  pub in_range : IsMtu sender.mtu
  pub least : min_cut_bits ≤ length sender.bits
  pub most : length sender.bits ≤ max_session_bits
  pub stands : StandsIn (last_index sender) sender.state
