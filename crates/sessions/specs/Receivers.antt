-- The steps of a receiver, of whatever mode.
use Rattle.std.specs.Prelude.{ℕ, Bool, List, Option, None}
use Rattle.schc_ids.specs.declared.fragments.FragMode.{FragMode}
use Rattle.schc_ids.specs.declared.fragments.FragMode.TheVariants as mode
use Rattle.schc_ids.specs.declared.notes.Note.{Note}
use Rattle.schc_ids.specs.declared.phases.ReceiverPhase.{ReceiverPhase}
use Rattle.frag_wire.specs.declared.message.Message.{Message}
use Rattle.no_ack.specs.ReceiverState as no_ack
use Rattle.no_ack.specs.ReceiverSteps as no_ack_step
use Rattle.aa_receiver.specs.State as aa
use Rattle.aa_receiver.specs.Steps as aa_step
use Rattle.aoe_receiver.specs.State as aoe
use Rattle.aoe_receiver.specs.Steps as aoe_step
use Rattle.sessions.specs.declared.receivers.Receiver.{Receiver}
use Rattle.sessions.specs.declared.receivers.Receiver.TheVariants.{NoAck, AckAlways, AckOnError}

unfoldable pub new_receiver : FragMode → Receiver
new_receiver mode.NoAck = NoAck no_ack.empty_receiver
new_receiver mode.AckAlways = AckAlways aa.empty_receiver
new_receiver mode.AckOnError = AckOnError aoe.empty_receiver

abbrev pub receiver_mode : Receiver → FragMode
receiver_mode (NoAck r) = mode.NoAck
receiver_mode (AckAlways r) = mode.AckAlways
receiver_mode (AckOnError r) = mode.AckOnError

unfoldable pub receiver_phase : Receiver → ReceiverPhase
receiver_phase (NoAck r) = no_ack.receiver_phase r
receiver_phase (AckAlways r) = aa.receiver_phase r
receiver_phase (AckOnError r) = aoe.receiver_phase r

abbrev pub carried : {A : Type 0} → (A → Receiver) → A × Note → Receiver × Note
carried wrap step = (wrap step.0, step.1)

-- a message with its payload is taken
unfoldable pub receiver_taken : Message → List Bool → Receiver → Receiver × Note
receiver_taken message payload (NoAck r) = carried NoAck (no_ack_step.taken message payload r)
receiver_taken message payload (AckAlways r) = carried AckAlways (aa_step.taken message payload r)
receiver_taken message payload (AckOnError r) =
    carried AckOnError (aoe_step.taken message payload r)

-- the assembly over which the message makes the check, where it makes one
unfoldable pub receiver_checked : Message → List Bool → Receiver → Option (List Bool)
receiver_checked message payload (NoAck r) = no_ack_step.checked message payload r
receiver_checked message payload (AckAlways r) = aa_step.checked message payload r
receiver_checked message payload (AckOnError r) = aoe_step.checked message payload r

-- the same, where the check passes
unfoldable pub receiver_previewed : Message → List Bool → Receiver → Option (List Bool)
receiver_previewed message payload (NoAck r) = no_ack_step.previewed message payload r
receiver_previewed message payload (AckAlways r) = aa_step.previewed message payload r
receiver_previewed message payload (AckOnError r) = aoe_step.previewed message payload r

unfoldable pub receiver_idled : Receiver → Receiver
receiver_idled (NoAck r) = NoAck (no_ack_step.idled r)
receiver_idled (AckAlways r) = AckAlways (aa_step.idled r)
receiver_idled (AckOnError r) = AckOnError (aoe_step.idled r)

unfoldable pub receiver_lapsed : Receiver → Receiver
receiver_lapsed (NoAck r) = NoAck (no_ack_step.lapsed r)
receiver_lapsed (AckAlways r) = AckAlways (aa_step.lapsed r)
receiver_lapsed (AckOnError r) = AckOnError (aoe_step.lapsed r)

-- the bytes of the answer that is due; in No-ACK there is none
unfoldable pub receiver_due : Receiver → Option (List ℕ)
receiver_due (NoAck r) = None
receiver_due (AckAlways r) = aa_step.due_bytes r
receiver_due (AckOnError r) = aoe_step.due_bytes r

unfoldable pub receiver_answered : Receiver → Receiver
receiver_answered (NoAck r) = NoAck r
receiver_answered (AckAlways r) = AckAlways (aa_step.answered r)
receiver_answered (AckOnError r) = AckOnError (aoe_step.answered r)
