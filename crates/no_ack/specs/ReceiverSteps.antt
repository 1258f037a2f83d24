-- RFC 8724, section 8.4.1.2: what a receiver in the No-ACK mode does with each message.
use Rattle.std.specs.Prelude.{ℕ, Bool, true, false, if◌then◌else◌, List, ◌++◌, Option, Some, None}
use Rattle.schc_ids.specs.declared.notes.Note.{Note}
use Rattle.schc_ids.specs.declared.notes.Note.TheVariants.{Stored, Joined, CheckFailed, Remnant}
use Rattle.schc_ids.specs.declared.notes.Note.TheVariants.{PeerAborted, Overflow}
use Rattle.frag_wire.specs.declared.message.Message.{Message}
use Rattle.frag_wire.specs.declared.message.Message.TheVariants as form
use Rattle.reassembly.specs.Joining.{has_room, passes}
use Rattle.no_ack.specs.ReceiverState.{NoAckReceiverData, Empty, Gathering, kept_by}

-- a tile is kept behind the others, where there is room
unfoldable pub stored : List Bool → List Bool → Bool → NoAckReceiverData × Note
stored kept tile true = (Gathering (kept ++ tile), Stored)
stored kept tile false = (Empty, Overflow)

-- a tile came
unfoldable pub tile_step : NoAckReceiverData → List Bool → NoAckReceiverData × Note
tile_step receiver tile = stored (kept_by receiver) tile (has_room (kept_by receiver) tile)

-- whether the check passed
unfoldable pub ended : Bool → NoAckReceiverData × Note
ended true = (Empty, Joined)
ended false = (Empty, CheckFailed)

-- with the last tile: the check is made over what is kept and this tile, where there is room, and
-- then nothing is kept
unfoldable pub joined_last : List Bool → List Bool → ℕ → Bool → NoAckReceiverData × Note
joined_last kept tile rcs true = ended (passes kept tile rcs)
joined_last kept tile rcs false = (Empty, Overflow)

-- the last tile came, with the check of the packet
unfoldable pub last_step : NoAckReceiverData → List Bool → ℕ → NoAckReceiverData × Note
last_step receiver tile rcs =
    joined_last (kept_by receiver) tile rcs (has_room (kept_by receiver) tile)

-- the sender gave up: nothing is kept
unfoldable pub given_up : NoAckReceiverData → NoAckReceiverData × Note
given_up Empty = (Empty, Remnant)
given_up (Gathering kept) = (Empty, PeerAborted)

-- a message with its payload is taken. In this mode no other messages can be read
unfoldable pub taken : Message → List Bool → NoAckReceiverData → NoAckReceiverData × Note
taken (form.Regular w fcn from) tile receiver = tile_step receiver tile
taken (form.All1 w rcs from) tile receiver = last_step receiver tile rcs
taken form.SenderAbort payload receiver = given_up receiver
taken (form.Ack w c bitmap) payload receiver = (receiver, Remnant)
taken (form.AckReq w) payload receiver = (receiver, Remnant)
taken form.ReceiverAbort payload receiver = (receiver, Remnant)

-- the assembly over which an All-1 makes the check, where there is room
unfoldable pub assembled : List Bool → List Bool → Bool → Option (List Bool)
assembled kept tile true = Some (kept ++ tile)
assembled kept tile false = None

-- the assembly over which the message makes the check, where it makes one
unfoldable pub checked : Message → List Bool → NoAckReceiverData → Option (List Bool)
checked (form.All1 w rcs from) tile receiver =
    assembled (kept_by receiver) tile (has_room (kept_by receiver) tile)
checked (form.Regular w fcn from) payload receiver = None
checked (form.Ack w c bitmap) payload receiver = None
checked (form.AckReq w) payload receiver = None
checked form.SenderAbort payload receiver = None
checked form.ReceiverAbort payload receiver = None

-- with the last tile there is room, and the check passes
unfoldable pub completes_last : List Bool → List Bool → ℕ → Bool
completes_last kept tile rcs = if has_room kept tile then passes kept tile rcs else false

-- whether the message makes a check that passes
unfoldable pub completes : Message → List Bool → NoAckReceiverData → Bool
completes (form.All1 w rcs from) tile receiver = completes_last (kept_by receiver) tile rcs
completes (form.Regular w fcn from) payload receiver = false
completes (form.Ack w c bitmap) payload receiver = false
completes (form.AckReq w) payload receiver = false
completes form.SenderAbort payload receiver = false
completes form.ReceiverAbort payload receiver = false

-- the assembly of an All-1, where its check passes
unfoldable pub last_preview : NoAckReceiverData → List Bool → ℕ → Option (List Bool)
last_preview receiver tile rcs =
    if completes_last (kept_by receiver) tile rcs
    then assembled (kept_by receiver) tile (has_room (kept_by receiver) tile)
    else None

-- the assembly, exactly where the message makes a check that passes
unfoldable pub previewed : Message → List Bool → NoAckReceiverData → Option (List Bool)
previewed message payload receiver =
    if completes message payload receiver then checked message payload receiver else None

-- the inactivity timer is due: what is kept is given up
unfoldable pub idled : NoAckReceiverData → NoAckReceiverData
idled Empty = Empty
idled (Gathering kept) = Empty

-- nothing lingers, since nothing is answered
unfoldable pub lapsed : NoAckReceiverData → NoAckReceiverData
lapsed receiver = receiver
