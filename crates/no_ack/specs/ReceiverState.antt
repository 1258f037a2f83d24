-- RFC 8724, section 8.4.1: what a receiver in the No-ACK mode keeps, as contracts see it.
use Rattle.std.specs.Prelude.{Bool, true, false, List, [], length, ◌≤◌}
use Rattle.schc_ids.specs.declared.phases.ReceiverPhase.{ReceiverPhase}
use Rattle.schc_ids.specs.declared.phases.ReceiverPhase.TheVariants as phase
use Rattle.reassembly.specs.Joining.{reassembly_bits}

-- nothing, or the tiles that came, one behind the other
pub data NoAckReceiverData : Type 0 where
  Empty : NoAckReceiverData
  Gathering : List Bool → NoAckReceiverData

-- a receiver that begins
abbrev pub empty_receiver : NoAckReceiverData
empty_receiver = Empty

abbrev pub receiver_phase : NoAckReceiverData → ReceiverPhase
receiver_phase Empty = phase.Empty
receiver_phase (Gathering kept) = phase.Gathering

-- the tiles that are kept: an empty receiver that takes a fragment gathers from nothing
abbrev pub kept_by : NoAckReceiverData → List Bool
kept_by Empty = []
kept_by (Gathering kept) = kept

-- what is seen of a receiver that gathers, or not, and of what it keeps
abbrev pub seen : Bool → List Bool → NoAckReceiverData
seen true kept = Gathering kept
seen false kept = Empty

-- what holds of every receiver
abbrev pub IsNoAckReceiver : NoAckReceiverData → Type 0
IsNoAckReceiver receiver = length (kept_by receiver) ≤ reassembly_bits
