-- RFC 8724, section 8.4.1.1: what a sender in the No-ACK mode sends. Nothing is answered, and
-- nothing is sent again.
use Rattle.std.specs.Prelude.{ℕ, suc, ◌==◌, Bool, true, false, if◌then◌else◌, List, [], Option}
use Rattle.std.specs.Prelude.{Some, None, option_map}
use Rattle.schc_ids.specs.declared.fragments.FragParams.{FragParams}
use Rattle.schc_ids.specs.declared.notes.Heard.{Heard}
use Rattle.schc_ids.specs.declared.notes.Heard.TheVariants.{Nothing, Aborted}
use Rattle.frag_wire.specs.Layouts.{written}
use Rattle.frag_wire.specs.declared.message.Message.{Message}
use Rattle.frag_wire.specs.declared.message.Message.TheVariants as form
use Rattle.rcs.specs.Division.{rcs_of}
use Rattle.tiles_bitmap.specs.Padding.{padded_packet}
use Rattle.no_ack.specs.SenderState.{NoAckSenderData, tile_at, last_index}
use Rattle.no_ack.specs.declared.states.NoAckSenderState.{NoAckSenderState}
use Rattle.no_ack.specs.declared.states.NoAckSenderState.TheVariants.{Sending, Closing, Quiet}

-- the fragment of the tile i: an All-1 with the check of the padded packet for the last one, else a
-- Regular
unfoldable pub fragment_of : NoAckSenderData → ℕ → Bool → Message × List Bool
fragment_of sender i true =
    (form.All1 0 (rcs_of (padded_packet sender.params sender.mtu sender.bits)) 33, tile_at sender i)
fragment_of sender i false = (form.Regular 0 0 1, tile_at sender i)

unfoldable pub due_in : NoAckSenderData → NoAckSenderState → Option (Message × List Bool)
due_in sender (Sending i) = Some (fragment_of sender i (i == last_index sender))
due_in sender Closing = Some (form.SenderAbort, [])
due_in sender Quiet = None

-- the message that is due, with its payload
unfoldable pub due_message : NoAckSenderData → Option (Message × List Bool)
due_message sender = due_in sender sender.state

-- the bytes of a message with its payload
abbrev pub bytes_due : FragParams → Message × List Bool → List ℕ
bytes_due params due = written params due.0 due.1

-- its bytes
abbrev pub due_bytes : NoAckSenderData → Option (List ℕ)
due_bytes sender = option_map (bytes_due sender.params) (due_message sender)

-- tile after tile is sent, and the session has ended with the last one, or with the Sender-Abort
unfoldable pub sent_in : ℕ → NoAckSenderState → NoAckSenderState
sent_in last (Sending i) = if i == last then Quiet else Sending (suc i)
sent_in last Closing = Quiet
sent_in last Quiet = Quiet

-- the sender after the message that is due was given
unfoldable pub sent : NoAckSenderData → NoAckSenderData
sent sender = record sender { state = sent_in (last_index sender) sender.state }

unfoldable pub aborted_in : NoAckSenderState → NoAckSenderState × Heard
aborted_in (Sending i) = (Closing, Aborted)
aborted_in Closing = (Closing, Nothing)
aborted_in Quiet = (Quiet, Nothing)

abbrev pub stepped : NoAckSenderData → NoAckSenderState × Heard → NoAckSenderData × Heard
stepped sender step = (record sender { state = step.0 }, step.1)

-- the sender is told to abort
unfoldable pub aborted : NoAckSenderData → NoAckSenderData × Heard
aborted sender = stepped sender (aborted_in sender.state)
