-- The steps of a sender, of whatever mode.
use Rattle.std.specs.Prelude.{ℕ, Bool, List, Option}
use Rattle.schc_ids.specs.declared.ends.LastTile.{LastTile}
use Rattle.schc_ids.specs.declared.fragments.FragMode.{FragMode}
use Rattle.schc_ids.specs.declared.fragments.FragMode.TheVariants as mode
use Rattle.schc_ids.specs.declared.fragments.FragParams.{FragParams}
use Rattle.schc_ids.specs.declared.notes.Heard.{Heard}
use Rattle.schc_ids.specs.declared.notes.Heard.TheVariants.{Nothing}
use Rattle.schc_ids.specs.declared.phases.SenderPhase.{SenderPhase}
use Rattle.frag_wire.specs.declared.message.Message.{Message}
use Rattle.no_ack.specs.SenderState as no_ack
use Rattle.no_ack.specs.SenderSteps as no_ack_step
use Rattle.aa_sender.specs.State as aa
use Rattle.aa_sender.specs.Steps as aa_step
use Rattle.aoe_sender.specs.Steps as aoe_step
use Rattle.sessions.specs.declared.senders.Sender.{Sender}
use Rattle.sessions.specs.declared.senders.Sender.TheVariants.{NoAck, AckAlways, AckOnError}

unfoldable pub sender_begun : FragMode → FragParams → ℕ → LastTile → List Bool → Sender
sender_begun mode.NoAck params mtu last bits = NoAck (no_ack.begun params mtu last bits)
sender_begun mode.AckAlways params mtu last bits = AckAlways (aa.begun params mtu last bits)
sender_begun mode.AckOnError params mtu last bits = AckOnError (aoe_step.begun params mtu last bits)

abbrev pub sender_params : Sender → FragParams
sender_params (NoAck s) = s.params
sender_params (AckAlways s) = s.params
sender_params (AckOnError s) = s.params

abbrev pub sender_mtu : Sender → ℕ
sender_mtu (NoAck s) = s.mtu
sender_mtu (AckAlways s) = s.mtu
sender_mtu (AckOnError s) = s.mtu

abbrev pub sender_bits : Sender → List Bool
sender_bits (NoAck s) = s.bits
sender_bits (AckAlways s) = s.bits
sender_bits (AckOnError s) = s.bits

unfoldable pub sender_phase : Sender → SenderPhase
sender_phase (NoAck s) = no_ack.sender_phase s
sender_phase (AckAlways s) = aa.sender_phase s
sender_phase (AckOnError s) = aoe_step.sender_phase s

-- the bytes of the message that is due
unfoldable pub sender_due : Sender → Option (List ℕ)
sender_due (NoAck s) = no_ack_step.due_bytes s
sender_due (AckAlways s) = aa_step.due_bytes s
sender_due (AckOnError s) = aoe_step.due_bytes s

unfoldable pub sender_sent : Sender → Sender
sender_sent (NoAck s) = NoAck (no_ack_step.sent s)
sender_sent (AckAlways s) = AckAlways (aa_step.sent s)
sender_sent (AckOnError s) = AckOnError (aoe_step.sent s)

abbrev pub carried : {A : Type 0} → (A → Sender) → A × Heard → Sender × Heard
carried wrap step = (wrap step.0, step.1)

-- an answer arrives; in No-ACK there is none
unfoldable pub sender_heard : Message → Sender → Sender × Heard
sender_heard message (NoAck s) = (NoAck s, Nothing)
sender_heard message (AckAlways s) = carried AckAlways (aa_step.heard message s)
sender_heard message (AckOnError s) = carried AckOnError (aoe_step.heard message s)

-- the retransmission timer is due; in No-ACK there is none
unfoldable pub sender_retried : Sender → Sender × Heard
sender_retried (NoAck s) = (NoAck s, Nothing)
sender_retried (AckAlways s) = carried AckAlways (aa_step.retried s)
sender_retried (AckOnError s) = carried AckOnError (aoe_step.retried s)

unfoldable pub sender_aborted : Sender → Sender × Heard
sender_aborted (NoAck s) = carried NoAck (no_ack_step.aborted s)
sender_aborted (AckAlways s) = carried AckAlways (aa_step.aborted s)
sender_aborted (AckOnError s) = carried AckOnError (aoe_step.aborted s)

-- the sender can be asked what the message means: some bytes are this answer to it
abbrev pub HasAnswer : Sender → Message → Type 0
HasAnswer (NoAck s) message = Unit {0}
HasAnswer (AckAlways s) message = Unit {0}
HasAnswer (AckOnError s) message = aoe_step.IsAnswer s.params message
