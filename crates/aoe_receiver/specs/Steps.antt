-- RFC 8724, section 8.4.3.2: the steps of a receiver of ACK-on-Error. Each message that it takes,
-- each answer that it gives and each timer that is due is a case for each state.
use Rattle.std.specs.Prelude.{ℕ, ◌+◌, ◌*◌, ◌==◌, Bool, true, false, ◌&&◌, if◌then◌else◌, List, []}
use Rattle.std.specs.Prelude.{◌∷◌, ◌++◌, length, take, drop, Option, Some, None}
use Rattle.std.specs.Option.{option_map}
use Rattle.schc_bits.specs.Bits.{bits_value}
use Rattle.schc_ids.specs.declared.fragments.FragMode.TheVariants.{AckOnError}
use Rattle.schc_ids.specs.declared.notes.Note.{Note}
use Rattle.schc_ids.specs.declared.notes.Note.TheVariants as note
use Rattle.schc_ids.specs.Fragments.{params_of}
use Rattle.frag_wire.specs.declared.message.Message.{Message}
use Rattle.frag_wire.specs.declared.message.Message.TheVariants as form
use Rattle.frag_wire.specs.Layouts.{written}
use Rattle.rcs.specs.Division.{rcs_of}
use Rattle.tiles_bitmap.specs.Numbers.{tile_index}
use Rattle.tiles_bitmap.specs.Places.{keep, held_bits, joined_tiles, all_true, no_gap, open_window}
use Rattle.tiles_bitmap.specs.Places.{bitmap, with_last}
use Rattle.aoe_receiver.specs.State.{LastData, AoeReceiverData, Empty, Gathering, Finished}
use Rattle.aoe_receiver.specs.State.{no_tiles, payload_tiles}

-- RFC 8724, section 8.4.3.2: the tiles that are held of the windows up to that of the All-1, in the
-- order of their indices, and then the All-1's tile
unfoldable pub assembly : List (Option (List Bool)) → LastData → List Bool
assembly tiles last = joined_tiles (take (63 * (last.w + 1)) tiles) ++ last.tile

-- each window below this one is full, and in this one no tile is held behind one that isn't
unfoldable pub is_whole : ℕ → List Bool → Bool
is_whole w bits = all_true (take (63 * w) bits) && no_gap (bitmap 63 w bits)

-- the check of the All-1 passes
unfoldable pub passes : List (Option (List Bool)) → LastData → Bool
passes tiles last = is_whole last.w (held_bits tiles) && rcs_of (assembly tiles last) == last.rcs

-- with the first message nothing is held yet
unfoldable pub begun : AoeReceiverData → AoeReceiverData
begun (Empty abort) = Gathering no_tiles None false
begun (Gathering tiles kept answer) = Gathering tiles kept answer
begun (Finished tiles last answer) = Finished tiles last answer

-- each of so many places from this one on holds a tile
unfoldable pub all_held : ℕ → ℕ → List (Option (List Bool)) → Bool
all_held place count tiles = all_true (take count (drop place (held_bits tiles)))

-- a Regular: a place that holds a tile keeps it
unfoldable pub regular_step : ℕ → List (List Bool) → AoeReceiverData → AoeReceiverData × Note
regular_step place new (Empty abort) = (Empty abort, note.Remnant)
regular_step place new (Gathering tiles kept answer) = (
  Gathering (keep place new tiles) kept answer,
  if all_held place (length new) tiles
      then note.Repeat else note.Stored,
)
regular_step place new (Finished tiles last answer) = (Finished tiles last answer, note.Remnant)

-- the check was made, and passed or didn't
unfoldable pub check_step : List (Option (List Bool)) → LastData → Bool → AoeReceiverData × Note
check_step tiles last true = (Finished tiles last true, note.Joined)
check_step tiles last false = (Gathering tiles (Some last) true, note.CheckFailed)

-- an All-1 takes the place of the one before
unfoldable pub all1_step : LastData → AoeReceiverData → AoeReceiverData × Note
all1_step last (Empty abort) = (Empty abort, note.Remnant)
all1_step last (Gathering tiles kept answer) = check_step tiles last (passes tiles last)
all1_step last (Finished tiles old answer) = (Finished tiles old true, note.Repeat)

-- an ACK REQ, of whatever window
unfoldable pub ack_req_step : AoeReceiverData → AoeReceiverData × Note
ack_req_step (Empty abort) = (Empty abort, note.Remnant)
ack_req_step (Gathering tiles None answer) = (Gathering tiles None true, note.Asked)
ack_req_step (Gathering tiles (Some last) answer) = check_step tiles last (passes tiles last)
ack_req_step (Finished tiles last answer) = (Finished tiles last true, note.Repeat)

-- a Sender-Abort
unfoldable pub abort_step : AoeReceiverData → AoeReceiverData × Note
abort_step (Empty abort) = (Empty false, note.Remnant)
abort_step (Gathering tiles kept answer) = (Empty false, note.PeerAborted)
abort_step (Finished tiles last answer) = (Empty false, note.PeerAborted)

-- no sender sends an answer; no abort is due any more
unfoldable pub other_step : AoeReceiverData → AoeReceiverData × Note
other_step (Empty abort) = (Empty false, note.Remnant)
other_step (Gathering tiles kept answer) = (Gathering tiles kept answer, note.Remnant)
other_step (Finished tiles last answer) = (Finished tiles last answer, note.Remnant)

-- the All-1 with this payload
abbrev pub last_of : ℕ → ℕ → List Bool → LastData
last_of w rcs payload = record { w = w; rcs = rcs; tile = payload }

-- what a message with this payload does
unfoldable pub taken : Message → List Bool → AoeReceiverData → AoeReceiverData × Note
taken (form.Regular w fcn from) payload receiver =
    regular_step (tile_index (record { w = w; fcn = fcn })) (payload_tiles payload) (begun receiver)
taken (form.All1 w rcs from) payload receiver = all1_step (last_of w rcs payload) (begun receiver)
taken (form.AckReq w) payload receiver = ack_req_step (begun receiver)
taken form.SenderAbort payload receiver = abort_step receiver
taken (form.Ack w c bits) payload receiver = other_step receiver
taken form.ReceiverAbort payload receiver = other_step receiver

-- what a check is made over: the tiles that are held, and an All-1
pub record CheckData : Type 0 where
  pub tiles : List (Option (List Bool))
  pub last : LastData

unfoldable pub all1_check : LastData → AoeReceiverData → Option CheckData
all1_check last (Empty abort) = None
all1_check last (Gathering tiles kept answer) = Some (record { tiles = tiles; last = last })
all1_check last (Finished tiles old answer) = None

unfoldable pub ack_req_check : AoeReceiverData → Option CheckData
ack_req_check (Empty abort) = None
ack_req_check (Gathering tiles None answer) = None
ack_req_check (Gathering tiles (Some last) answer) = Some (record { tiles = tiles; last = last })
ack_req_check (Finished tiles last answer) = None

-- a message makes a check: an All-1 while tiles are gathered, and an ACK REQ when an All-1 is kept
unfoldable pub check_made : Message → List Bool → AoeReceiverData → Option CheckData
check_made (form.Regular w fcn from) payload receiver = None
check_made (form.All1 w rcs from) payload receiver =
    all1_check (last_of w rcs payload) (begun receiver)
check_made (form.AckReq w) payload receiver = ack_req_check (begun receiver)
check_made form.SenderAbort payload receiver = None
check_made (form.Ack w c bits) payload receiver = None
check_made form.ReceiverAbort payload receiver = None

-- the assembly over which this message makes the check, also where windows aren't full
unfoldable pub checked : Message → List Bool → AoeReceiverData → Option (List Bool)
checked message payload receiver =
    option_map (λ check. assembly check.tiles check.last) (check_made message payload receiver)

unfoldable pub if_passed : Option CheckData → Option (List Bool)
if_passed None = None
if_passed (Some check) =
    if passes check.tiles check.last then Some (assembly check.tiles check.last) else None

-- the same, where the check passes
unfoldable pub previewed : Message → List Bool → AoeReceiverData → Option (List Bool)
previewed message payload receiver = if_passed (check_made message payload receiver)

-- the inactivity timer is due
unfoldable pub idled : AoeReceiverData → AoeReceiverData
idled (Empty abort) = Empty abort
idled (Gathering tiles kept answer) = Empty true
idled (Finished tiles last answer) = Finished tiles last answer

-- the receiver has lingered
unfoldable pub lapsed : AoeReceiverData → AoeReceiverData
lapsed (Empty abort) = Empty abort
lapsed (Gathering tiles kept answer) = Gathering tiles kept answer
lapsed (Finished tiles last answer) = Empty false

-- RFC 8724, section 8.4.3.2: the window that an answer names: the lowest below that of the All-1
-- that isn't full, else that of the All-1; without an All-1 the last of the four stands for it
unfoldable pub named_window : Option LastData → List Bool → ℕ
named_window None bits = open_window 63 3 bits
named_window (Some last) bits = open_window 63 last.w bits

-- RFC 8724, section 8.2.2.3: the rightmost bit of the All-1's window also stands for the All-1's
-- tile, where it has one
unfoldable pub with_tile : List Bool → List Bool → List Bool
with_tile [] bits = bits
with_tile (bit ∷ tile) bits = with_last bits

unfoldable pub window_bits : Option LastData → ℕ → List Bool → List Bool
window_bits None w bits = bitmap 63 w bits
window_bits (Some last) w bits =
    if w == last.w then with_tile last.tile (bitmap 63 w bits) else bitmap 63 w bits

-- the answer while tiles are gathered
unfoldable pub gathering_answer : Option LastData → List Bool → Message
gathering_answer kept bits =
    form.Ack (named_window kept bits) false
    (bits_value (window_bits kept (named_window kept bits) bits))

-- the answer that is due
unfoldable pub due_answer : AoeReceiverData → Option Message
due_answer (Empty true) = Some form.ReceiverAbort
due_answer (Empty false) = None
due_answer (Gathering tiles kept true) = Some (gathering_answer kept (held_bits tiles))
due_answer (Gathering tiles kept false) = None
due_answer (Finished tiles last true) = Some (form.Ack last.w true 0)
due_answer (Finished tiles last false) = None

-- its bytes, made from what is kept when it is given
unfoldable pub due_bytes : AoeReceiverData → Option (List ℕ)
due_bytes receiver =
    option_map (λ message. written (params_of AckOnError) message []) (due_answer receiver)

-- the answer that was due was given
unfoldable pub answered : AoeReceiverData → AoeReceiverData
answered (Empty abort) = Empty false
answered (Gathering tiles kept answer) = Gathering tiles kept false
answered (Finished tiles last answer) = Finished tiles last false
