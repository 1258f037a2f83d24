-- RFC 8724, section 8.4.2: what a receiver in the ACK-Always mode keeps, as contracts see it.
use Rattle.std.specs.Prelude.{ℕ, ◌≡◌, ◌≤◌, Bool, false, List, [], length, Option, None, Some}
use Rattle.schc_ids.specs.declared.phases.ReceiverPhase.{ReceiverPhase}
use Rattle.schc_ids.specs.declared.phases.ReceiverPhase.TheVariants as phase
use Rattle.reassembly.specs.Joining.{reassembly_bits}
use Rattle.aa_receiver.specs.declared.states.State.{State}
use Rattle.aa_receiver.specs.declared.states.State.TheVariants as state
use Rattle.aa_receiver.specs.declared.states.TileAnswer.{TileAnswer}

-- Empty, and whether a Receiver-Abort is due; gathering, with the bits of the tiles that are kept,
-- their count, and the answer that is due, with a C of 0: a window and whether its tile came;
-- finished, with the window of the All-1 that passed the check, and whether an answer, with a C of
-- 1, is due
pub data AaReceiverData : Type 0 where
  Empty : Bool → AaReceiverData
  Gathering : List Bool → ℕ → Option TileAnswer → AaReceiverData
  Finished : ℕ → Bool → AaReceiverData

-- nothing is kept and nothing due
abbrev pub empty_receiver : AaReceiverData
empty_receiver = Empty false

abbrev pub receiver_phase : AaReceiverData → ReceiverPhase
receiver_phase (Empty abort) = phase.Empty
receiver_phase (Gathering bits count answer) = phase.Gathering
receiver_phase (Finished w answer) = phase.Finished

-- where a receiver stands that keeps these bits
unfoldable pub received : List Bool → State → AaReceiverData
received bits (state.Empty abort) = Empty abort
received bits (state.Gathering count answer) = Gathering bits count answer
received bits (state.Finished w answer) = Finished w answer

-- a window has a number of one bit
abbrev pub IsDue : Option TileAnswer → Type 0
IsDue None = Unit {0}
IsDue (Some answer) = answer.w ≤ 1

-- what holds of every receiver: each tile that is kept has bits, and there is room for them
abbrev pub IsAaReceiver : AaReceiverData → Type 0
IsAaReceiver (Empty abort) = Unit {0}
IsAaReceiver (Gathering bits count answer) = (count ≤ length bits) × (length bits ≤ reassembly_bits)
    × IsDue answer
IsAaReceiver (Finished w answer) = w ≤ 1

-- the same of one that keeps these bits, which are none while it is empty
abbrev pub StandsIn : List Bool → State → Type 0
StandsIn bits (state.Empty abort) = bits ≡ []
StandsIn bits (state.Gathering count answer) = (count ≤ length bits)
    × (length bits ≤ reassembly_bits) × IsDue answer
StandsIn bits (state.Finished w answer) = w ≤ 1
