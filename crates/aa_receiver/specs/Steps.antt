-- RFC 8724, section 8.4.2.2: what a receiver in the ACK-Always mode does with each message, what it
-- answers, and what its timers do.
use Rattle.std.specs.Prelude.{ℕ, suc, ◌%◌, ◌==◌, Bool, true, false, if◌then◌else◌, List, [], ◌++◌}
use Rattle.std.specs.Prelude.{Option, None, Some, option_map}
use Rattle.schc_ids.specs.Fragments.{params_of}
use Rattle.schc_ids.specs.declared.fragments.FragMode.TheVariants as mode
use Rattle.schc_ids.specs.declared.notes.Note.{Note}
use Rattle.schc_ids.specs.declared.notes.Note.TheVariants as note
use Rattle.frag_wire.specs.Layouts.{written}
use Rattle.frag_wire.specs.declared.message.Message.{Message}
use Rattle.frag_wire.specs.declared.message.Message.TheVariants as form
use Rattle.rcs.specs.Division.{rcs_of}
use Rattle.reassembly.specs.Joining.{has_room, passes}
use Rattle.aa_receiver.specs.State.{AaReceiverData, Empty, Gathering, Finished}
use Rattle.aa_receiver.specs.declared.states.TileAnswer.{TileAnswer}

-- Messages. `part` is the payload.

-- the window of the next tile, where so many are kept: each window has one tile, and its number has
-- one bit
abbrev pub open_window : ℕ → ℕ
open_window count = count % 2

abbrev pub tile_answer : ℕ → Bool → Option TileAnswer
tile_answer w came = Some (record { w = w; came = came })

-- an empty receiver begins with a message of window 0; at a message of another one it stays empty.
-- No abort is due any more
unfoldable pub entered : ℕ → AaReceiverData → AaReceiverData
entered w (Empty abort) = if w == 0 then Gathering [] 0 None else Empty false
entered w (Gathering bits count answer) = Gathering bits count answer
entered w (Finished last answer) = Finished last answer

-- a message of the window before: its tile came. There is none before the first tile
unfoldable pub before : List Bool → ℕ → Option TileAnswer → ℕ → Note → Bool → AaReceiverData × Note
before bits count answer w meaning true = (Gathering bits count answer, note.Remnant)
before bits count answer w meaning false = (Gathering bits count (tile_answer w true), meaning)

-- the tile of the open window: it is kept where there is room
unfoldable pub next_tile : List Bool → ℕ → ℕ → List Bool → Bool → AaReceiverData × Note
next_tile bits count w part true =
    (Gathering (bits ++ part) (suc count) (tile_answer w true), note.Stored)
next_tile bits count w part false = (Empty true, note.Overflow)

-- the steps of a receiver that has entered
unfoldable pub regular_step : ℕ → List Bool → AaReceiverData → AaReceiverData × Note
regular_step w part (Empty abort) = (Empty abort, note.Remnant)
regular_step w part (Gathering bits count answer) =
    if w == open_window count then next_tile bits count w part (has_room bits part)
    else before bits count answer w note.Repeat (count == 0)
regular_step w part (Finished last answer) = (Finished last answer, note.Remnant)

-- the last tile, of the open window: whether there is room for it, and whether the check passes
-- over what is kept and the tile, which isn't kept where it fails
unfoldable pub last_tile : List Bool → ℕ → ℕ → Bool → Bool → AaReceiverData × Note
last_tile bits count w false passed = (Empty true, note.Overflow)
last_tile bits count w true true = (Finished w true, note.Joined)
last_tile bits count w true false = (Gathering bits count (tile_answer w true), note.CheckFailed)

-- a receiver that has finished answers again what names its window
unfoldable pub finished_step : ℕ → ℕ → Bool → AaReceiverData × Note
finished_step w last answer =
    if w == last then (Finished last true, note.Repeat) else (Finished last answer, note.Remnant)

unfoldable pub all1_step : ℕ → ℕ → List Bool → AaReceiverData → AaReceiverData × Note
all1_step w rcs part (Empty abort) = (Empty abort, note.Remnant)
all1_step w rcs part (Gathering bits count answer) =
    if w == open_window count then last_tile bits count w (has_room bits part)
    (passes bits part rcs)
    else (Gathering bits count answer, note.Remnant)
all1_step w rcs part (Finished last answer) = finished_step w last answer

unfoldable pub ack_req_step : ℕ → AaReceiverData → AaReceiverData × Note
ack_req_step w (Empty abort) = (Empty abort, note.Remnant)
ack_req_step w (Gathering bits count answer) =
    if w == open_window count then (Gathering bits count (tile_answer w false), note.Asked)
    else before bits count answer w note.Asked (count == 0)
ack_req_step w (Finished last answer) = finished_step w last answer

unfoldable pub abort_step : AaReceiverData → AaReceiverData × Note
abort_step (Empty abort) = (Empty false, note.Remnant)
abort_step (Gathering bits count answer) = (Empty false, note.PeerAborted)
abort_step (Finished last answer) = (Empty false, note.PeerAborted)

-- no sender sends an answer
unfoldable pub other_step : AaReceiverData → AaReceiverData × Note
other_step (Empty abort) = (Empty false, note.Remnant)
other_step (Gathering bits count answer) = (Gathering bits count answer, note.Remnant)
other_step (Finished last answer) = (Finished last answer, note.Remnant)

-- the message is taken
unfoldable pub taken : Message → List Bool → AaReceiverData → AaReceiverData × Note
taken (form.Regular w fcn from) part receiver = regular_step w part (entered w receiver)
taken (form.All1 w rcs from) part receiver = all1_step w rcs part (entered w receiver)
taken (form.AckReq w) part receiver = ack_req_step w (entered w receiver)
taken form.SenderAbort part receiver = abort_step receiver
taken (form.Ack w c bitmap) part receiver = other_step receiver
taken form.ReceiverAbort part receiver = other_step receiver

-- Checks.

-- what is kept and the last tile, where there is room
unfoldable pub checked_part : List Bool → List Bool → Option (List Bool)
checked_part bits part = if has_room bits part then Some (bits ++ part) else None

unfoldable pub all1_check : ℕ → List Bool → AaReceiverData → Option (List Bool)
all1_check w part (Empty abort) = None
all1_check w part (Gathering bits count answer) =
    if w == open_window count then checked_part bits part else None
all1_check w part (Finished last answer) = None

-- the bits over which this message makes the check, where it makes one: what is kept and the tile
-- of the All-1
unfoldable pub checked : Message → List Bool → AaReceiverData → Option (List Bool)
checked (form.Regular w fcn from) part receiver = None
checked (form.All1 w rcs from) part receiver = all1_check w part (entered w receiver)
checked (form.AckReq w) part receiver = None
checked form.SenderAbort part receiver = None
checked (form.Ack w c bitmap) part receiver = None
checked form.ReceiverAbort part receiver = None

-- those that have this check
unfoldable pub passed : ℕ → Option (List Bool) → Option (List Bool)
passed rcs None = None
passed rcs (Some bits) = if rcs_of bits == rcs then Some bits else None

-- the same bits, exactly where they pass the check
unfoldable pub previewed : Message → List Bool → AaReceiverData → Option (List Bool)
previewed (form.Regular w fcn from) part receiver = None
previewed (form.All1 w rcs from) part receiver = passed rcs (all1_check w part (entered w receiver))
previewed (form.AckReq w) part receiver = None
previewed form.SenderAbort part receiver = None
previewed (form.Ack w c bitmap) part receiver = None
previewed form.ReceiverAbort part receiver = None

-- Timers.

-- the inactivity timer is due: a receiver that gathers gives up
unfoldable pub idled : AaReceiverData → AaReceiverData
idled (Empty abort) = Empty abort
idled (Gathering bits count answer) = Empty true
idled (Finished last answer) = Finished last answer

-- a receiver that has finished need not answer any more
unfoldable pub lapsed : AaReceiverData → AaReceiverData
lapsed (Empty abort) = Empty abort
lapsed (Gathering bits count answer) = Gathering bits count answer
lapsed (Finished last answer) = Empty false

-- Answers.

-- RFC 8724, section 8.2.2.3: the bitmap of one tile
abbrev pub bitmap_of : Bool → ℕ
bitmap_of came = if came then 1 else 0

unfoldable pub due_answer : AaReceiverData → Option Message
due_answer (Empty true) = Some form.ReceiverAbort
due_answer (Empty false) = None
due_answer (Gathering bits count None) = None
due_answer (Gathering bits count (Some answer)) =
    Some (form.Ack answer.w false (bitmap_of answer.came))
due_answer (Finished last true) = Some (form.Ack last true 0)
due_answer (Finished last false) = None

-- its bytes
abbrev pub due_bytes : AaReceiverData → Option (List ℕ)
due_bytes receiver =
    option_map (λ message. written (params_of mode.AckAlways) message []) (due_answer receiver)

-- the receiver after the answer that is due was given
unfoldable pub answered : AaReceiverData → AaReceiverData
answered (Empty abort) = Empty false
answered (Gathering bits count answer) = Gathering bits count None
answered (Finished last answer) = Finished last false
