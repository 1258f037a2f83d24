-- RFC 8724, section 8.4.2: what a sender in the ACK-Always mode keeps, as contracts see it.
use Rattle.std.specs.Prelude.{ℕ, ◌≡◌, ◌-◌, ◌<◌, ◌≤◌, Bool, true, false, List, length, get_or, []}
use Rattle.schc_ids.specs.Fragments.{params_of}
use Rattle.schc_ids.specs.Limits.{IsMtu, min_cut_bits, max_session_bits, max_ack_requests}
use Rattle.schc_ids.specs.declared.ends.LastTile.{LastTile}
use Rattle.schc_ids.specs.declared.fragments.FragMode.TheVariants as mode
use Rattle.schc_ids.specs.declared.fragments.FragParams.{FragParams}
use Rattle.schc_ids.specs.declared.phases.SenderPhase.{SenderPhase}
use Rattle.schc_ids.specs.declared.phases.SenderPhase.TheVariants as phase
use Rattle.tiles_bitmap.specs.Tiles.{tile_ends, tiles}
use Rattle.aa_sender.specs.declared.states.AaSenderState.{AaSenderState}
use Rattle.aa_sender.specs.declared.states.AaSenderState.TheVariants.{Sending, Waiting, Closing}
use Rattle.aa_sender.specs.declared.states.AaSenderState.TheVariants.{Quiet}

-- the bits are those of the SCHC packet that goes as this session
pub record AaSenderData : Type 0 where
  pub params : FragParams
  pub mtu : ℕ
  pub bits : List Bool
  pub state : AaSenderState

-- a session that begins: its first tile is due. Where the last tile goes has no meaning in this
-- mode
abbrev pub begun : FragParams → ℕ → LastTile → List Bool → AaSenderData
begun params mtu last bits =
    record { params = params; mtu = mtu; bits = bits; state = Sending 0 false 0 }

-- the tiles of the packet, in their order
abbrev pub packet_tiles : AaSenderData → List (List Bool)
packet_tiles sender = tiles sender.params sender.mtu sender.bits

-- the tile with the index i
abbrev pub tile_at : AaSenderData → ℕ → List Bool
tile_at sender i = get_or (packet_tiles sender) i []

-- the index of the last tile
unfoldable pub last_index : AaSenderData → ℕ
last_index sender = length (packet_tiles sender) - 1

abbrev pub phase_in : AaSenderState → SenderPhase
phase_in (Sending i ack_req attempts) = phase.Sending
phase_in (Waiting i attempts) = phase.Waiting
phase_in Closing = phase.Closing
phase_in Quiet = phase.Quiet

abbrev pub sender_phase : AaSenderData → SenderPhase
sender_phase sender = phase_in sender.state

-- where a sender can stand: at one of its tiles, asking for an answer at another tile than the last
-- one, with fewer than MAX_ACK_REQUESTS requests that no answer followed, or waiting after one up
-- to so many
abbrev pub StandsIn : ℕ → AaSenderState → Type 0
StandsIn last (Sending i ack_req attempts) =
    (i ≤ last) × (attempts < max_ack_requests) × (ack_req ≡ true → i < last)
StandsIn last (Waiting i attempts) = (i ≤ last) × (1 ≤ attempts) × (attempts ≤ max_ack_requests)
StandsIn last Closing = Unit {0}
StandsIn last Quiet = Unit {0}

-- what a sender shows
abbrev pub shown : FragParams → ℕ → List Bool → AaSenderState → AaSenderData
shown params mtu bits state = record { params = params; mtu = mtu; bits = bits; state = state }

-- what holds of every sender
pub record IsAaSender (sender : AaSenderData) : Type 0 where
  pub row : sender.params ≡ params_of mode.AckAlways
  pub in_range : IsMtu sender.mtu
  pub least : min_cut_bits ≤ length sender.bits
  pub most : length sender.bits ≤ max_session_bits
  pub stands : StandsIn (last_index sender) sender.state

-- the places at which its tiles end
abbrev pub EndAt : AaSenderData → List ℕ → Type 0
EndAt sender ends = ends ≡ tile_ends sender.params sender.mtu (length sender.bits)
