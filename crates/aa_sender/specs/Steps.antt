-- RFC 8724, section 8.4.2.1: what a sender in the ACK-Always mode sends, and what answers and
-- timers do.
use Rattle.std.specs.Prelude.{ℕ, suc, ◌==◌, Bool, true, false, not, if◌then◌else◌, List, [], nat_le}
use Rattle.std.specs.Prelude.{Option, Some, None, option_map}
use Rattle.schc_ids.specs.Limits.{max_ack_requests}
use Rattle.schc_ids.specs.declared.fragments.FragMode.TheVariants as mode
use Rattle.schc_ids.specs.declared.fragments.FragParams.{FragParams}
use Rattle.schc_ids.specs.declared.notes.Heard.{Heard}
use Rattle.schc_ids.specs.declared.notes.Heard.TheVariants.{Nothing, Counted, Delivered}
use Rattle.schc_ids.specs.declared.notes.Heard.TheVariants.{NeverPasses, PeerAborted, Spent}
use Rattle.schc_ids.specs.declared.notes.Heard.TheVariants.{Aborted}
use Rattle.frag_wire.specs.Layouts.{written}
use Rattle.frag_wire.specs.declared.message.Message.{Message}
use Rattle.frag_wire.specs.declared.message.Message.TheVariants as form
use Rattle.rcs.specs.Division.{rcs_of}
use Rattle.tiles_bitmap.specs.Numbers.{tile_number}
use Rattle.tiles_bitmap.specs.Padding.{padded_packet}
use Rattle.aa_sender.specs.State.{AaSenderData, tile_at, last_index}
use Rattle.aa_sender.specs.declared.states.AaSenderState.{AaSenderState}
use Rattle.aa_sender.specs.declared.states.AaSenderState.TheVariants.{Sending, Waiting, Closing}
use Rattle.aa_sender.specs.declared.states.AaSenderState.TheVariants.{Quiet}

-- What is due.

-- the number of the window of the tile i, which alone is in it
unfoldable pub window_of : ℕ → ℕ
window_of i = (tile_number mode.AckAlways i).w

-- the fragment of the tile i: an All-1 with the check of the padded packet for the last one, else a
-- Regular
unfoldable pub fragment_of : AaSenderData → ℕ → Bool → Message × List Bool
fragment_of sender i true = (
  form.All1 (window_of i) (rcs_of (padded_packet sender.params sender.mtu sender.bits)) 34,
  tile_at sender i,
)
fragment_of sender i false = (form.Regular (window_of i) 0 2, tile_at sender i)

-- what asks for an answer: an ACK REQ, or the fragment of the tile
unfoldable pub request_of : AaSenderData → ℕ → Bool → Message × List Bool
request_of sender i true = (form.AckReq (window_of i), [])
request_of sender i false = fragment_of sender i (i == last_index sender)

-- the bytes of a message with its payload
abbrev pub bytes_due : FragParams → Message × List Bool → List ℕ
bytes_due params due = written params due.0 due.1

abbrev pub fragment_bytes : AaSenderData → ℕ → Bool → List ℕ
fragment_bytes sender i is_last = bytes_due sender.params (fragment_of sender i is_last)

abbrev pub request_bytes : AaSenderData → ℕ → Bool → List ℕ
request_bytes sender i ack_req = bytes_due sender.params (request_of sender i ack_req)

unfoldable pub due_in : AaSenderData → AaSenderState → Option (Message × List Bool)
due_in sender (Sending i ack_req attempts) = Some (request_of sender i ack_req)
due_in sender (Waiting i attempts) = None
due_in sender Closing = Some (form.SenderAbort, [])
due_in sender Quiet = None

-- the message that is due, with its payload
unfoldable pub due_message : AaSenderData → Option (Message × List Bool)
due_message sender = due_in sender sender.state

-- its bytes
abbrev pub due_bytes : AaSenderData → Option (List ℕ)
due_bytes sender = option_map (bytes_due sender.params) (due_message sender)

-- each message of a tile is a request, which counts as an attempt
unfoldable pub sent_in : AaSenderState → AaSenderState
sent_in (Sending i ack_req attempts) = Waiting i (suc attempts)
sent_in (Waiting i attempts) = Waiting i attempts
sent_in Closing = Quiet
sent_in Quiet = Quiet

-- the sender after the message that is due was given
unfoldable pub sent : AaSenderData → AaSenderData
sent sender = record sender { state = sent_in sender.state }

-- What comes from the other end, from the timer and from above: where the sender stands then, and
-- what it meant. `last` is the index of the last tile.

abbrev pub stepped : AaSenderData → AaSenderState × Heard → AaSenderData × Heard
stepped sender step = (record sender { state = step.0 }, step.1)

-- an ACK of the window of the tile i: whether that is the last tile, whether the check passed, and
-- whether the tile came
unfoldable pub acked : ℕ → ℕ → Bool → Bool → Bool → AaSenderState × Heard
acked i attempts true true came = (Quiet, Delivered)
acked i attempts true false true = (Closing, NeverPasses)
acked i attempts true false false = (Sending i false 0, Counted)
acked i attempts false true came = (Waiting i attempts, Nothing)
acked i attempts false false true = (Sending (suc i) false 0, Counted)
acked i attempts false false false = (Sending i false 0, Counted)

-- an ACK of another window doesn't count
unfoldable pub acked_window : ℕ → ℕ → ℕ → ℕ → Bool → ℕ → AaSenderState × Heard
acked_window last i attempts w c bitmap =
    if w == window_of i then acked i attempts (i == last) c (bitmap == 1)
    else (Waiting i attempts, Nothing)

unfoldable pub heard_waiting : ℕ → ℕ → ℕ → Message → AaSenderState × Heard
heard_waiting last i attempts (form.Ack w c bitmap) = acked_window last i attempts w c bitmap
heard_waiting last i attempts form.ReceiverAbort = (Quiet, PeerAborted)
heard_waiting last i attempts (form.Regular w fcn from) = (Waiting i attempts, Nothing)
heard_waiting last i attempts (form.All1 w rcs from) = (Waiting i attempts, Nothing)
heard_waiting last i attempts (form.AckReq w) = (Waiting i attempts, Nothing)
heard_waiting last i attempts form.SenderAbort = (Waiting i attempts, Nothing)

-- while a message is due, a Receiver-Abort alone counts
unfoldable pub heard_sending : AaSenderState → Message → AaSenderState × Heard
heard_sending state (form.Ack w c bitmap) = (state, Nothing)
heard_sending state form.ReceiverAbort = (Quiet, PeerAborted)
heard_sending state (form.Regular w fcn from) = (state, Nothing)
heard_sending state (form.All1 w rcs from) = (state, Nothing)
heard_sending state (form.AckReq w) = (state, Nothing)
heard_sending state form.SenderAbort = (state, Nothing)

unfoldable pub heard_in : ℕ → Message → AaSenderState → AaSenderState × Heard
heard_in last message (Sending i ack_req attempts) =
    heard_sending (Sending i ack_req attempts) message
heard_in last message (Waiting i attempts) = heard_waiting last i attempts message
heard_in last message Closing = (Closing, Nothing)
heard_in last message Quiet = (Quiet, Nothing)

-- an answer arrives
unfoldable pub heard : Message → AaSenderData → AaSenderData × Heard
heard message sender = stepped sender (heard_in (last_index sender) message sender.state)

-- after as many requests as MAX_ACK_REQUESTS the session fails; else the All-1 is due again at the
-- last tile, and an ACK REQ at another one
unfoldable pub retried_waiting : ℕ → ℕ → ℕ → Bool → AaSenderState × Heard
retried_waiting last i attempts true = (Closing, Spent)
retried_waiting last i attempts false = (Sending i (not (i == last)) attempts, Counted)

unfoldable pub retried_in : ℕ → AaSenderState → AaSenderState × Heard
retried_in last (Sending i ack_req attempts) = (Sending i ack_req attempts, Nothing)
retried_in last (Waiting i attempts) =
    retried_waiting last i attempts (nat_le max_ack_requests attempts)
retried_in last Closing = (Closing, Nothing)
retried_in last Quiet = (Quiet, Nothing)

-- the retransmission timer is due
unfoldable pub retried : AaSenderData → AaSenderData × Heard
retried sender = stepped sender (retried_in (last_index sender) sender.state)

unfoldable pub aborted_in : AaSenderState → AaSenderState × Heard
aborted_in (Sending i ack_req attempts) = (Closing, Aborted)
aborted_in (Waiting i attempts) = (Closing, Aborted)
aborted_in Closing = (Closing, Nothing)
aborted_in Quiet = (Quiet, Nothing)

-- the sender is told to abort
unfoldable pub aborted : AaSenderData → AaSenderData × Heard
aborted sender = stepped sender (aborted_in sender.state)
