-- RFC 8724, sections 8.2.2.4 and 8.4.3.1: the steps of the sender of the ACK-on-Error mode, a case
-- for each state and event.
use Rattle.std.specs.Prelude.{ℕ, suc, ◌≡◌, ◌+◌, ◌-◌, ◌*◌, ◌<◌, ◌≤◌, ◌==◌, nat_lt, Bool, true, false}
use Rattle.std.specs.Prelude.{List, [], ◌∷◌, length, take, drop, get_or, Option, Some, None}
use Rattle.std.specs.Prelude.{option_map}
use Rattle.std.specs.List.{AllByRecursion}
use Rattle.schc_bits.specs.Bits.{number_bits, octets}
use Rattle.schc_ids.specs.declared.ends.LastTile.{LastTile}
use Rattle.schc_ids.specs.declared.ends.LastTile.TheVariants.{InAll1, InRegular}
use Rattle.schc_ids.specs.declared.fragments.FragMode.TheVariants as mode
use Rattle.schc_ids.specs.declared.fragments.FragParams.{FragParams}
use Rattle.schc_ids.specs.declared.fragments.Side.TheVariants as side
use Rattle.schc_ids.specs.declared.notes.Heard.{Heard}
use Rattle.schc_ids.specs.declared.notes.Heard.TheVariants.{Nothing, Counted, Delivered}
use Rattle.schc_ids.specs.declared.notes.Heard.TheVariants.{NeverPasses, PeerAborted, Spent}
use Rattle.schc_ids.specs.declared.notes.Heard.TheVariants.{Aborted}
use Rattle.schc_ids.specs.declared.phases.SenderPhase.{SenderPhase}
use Rattle.schc_ids.specs.declared.phases.SenderPhase.TheVariants as phase
use Rattle.schc_ids.specs.Fragments.{params_of}
use Rattle.schc_ids.specs.Limits.{IsMtu, min_cut_bits, max_session_bits, max_ack_requests}
use Rattle.frag_wire.specs.declared.message.Message.{Message}
use Rattle.frag_wire.specs.declared.message.Message.TheVariants as form
use Rattle.frag_wire.specs.Layouts.{written, payload_in}
use Rattle.frag_wire.specs.Spells.{Spells}
use Rattle.rcs.specs.Division.{rcs_of}
use Rattle.tiles_bitmap.specs.Laws.{joined}
use Rattle.tiles_bitmap.specs.Numbers.{tile_number}
use Rattle.tiles_bitmap.specs.declared.numbers.TileNumber.{TileNumber}
use Rattle.tiles_bitmap.specs.Places.{numbers_from, missing, run}
use Rattle.aoe_sender.specs.State.{AoeSenderData, AoeSenderState, Sending, Waiting, Closing, Quiet}
use Rattle.aoe_sender.specs.Tiles.{window_size, padded_packet, all_tiles, regular_count, all1_tile}
use Rattle.aoe_sender.specs.Tiles.{last_window, most_tiles}

-- a session begins: all tiles that go in Regulars are to be sent, and no request was sent
unfoldable pub begun : FragParams → ℕ → LastTile → List Bool → AoeSenderData
begun params mtu last bits =
    let s : AoeSenderData =
    record { params = params; mtu = mtu; last = last; bits = bits; state = Quiet } in
    record s { state = Sending (numbers_from 0 (regular_count s)) 0 }

-- how many of the numbers that follow a first one go in the same Regular: as far as they follow
-- without a gap in one window, at most as many as a frame holds; and the numbers that are left
unfoldable pub run_after : AoeSenderData → ℕ → List ℕ → ℕ × List ℕ
run_after s number numbers = run window_size (most_tiles s - 1) number numbers

-- a Regular with the tile of this number and so many more (RFC 8724, section 8.3.1.1)
unfoldable pub regular : AoeSenderData → ℕ → ℕ → Message × List Bool
regular s number more =
    let name : TileNumber = tile_number s.params.mode number in (
      form.Regular name.w name.fcn (s.params.w_bits + s.params.fcn_bits),
      joined (take (1 + more) (drop number (all_tiles s))),
    )

-- the All-1, with the window of the last tile, the check of the padded packet, and the tile that
-- goes in it (RFC 8724, section
-- 8.3.1.2)
unfoldable pub all1 : AoeSenderData → Message × List Bool
all1 s = (
  form.All1 (last_window s) (rcs_of (padded_packet s))
      (s.params.w_bits + s.params.fcn_bits + 32),
  all1_tile s,
)

-- the message that is due, with its payload
unfoldable pub due_in : AoeSenderData → AoeSenderState → Option (Message × List Bool)
due_in s (Sending [] attempts) = Some (all1 s)
due_in s (Sending (number ∷ numbers) attempts) =
    Some (regular s number (run_after s number numbers).0)
due_in s (Waiting attempts) = None
due_in s Closing = Some (form.SenderAbort, [])
due_in s Quiet = None

unfoldable pub due_message : AoeSenderData → Option (Message × List Bool)
due_message s = due_in s s.state

-- the bytes that are due
unfoldable pub due_bytes : AoeSenderData → Option (List ℕ)
due_bytes s = option_map (λ due. written s.params due.0 due.1) (due_message s)

-- where it stands once the message that is due was given: an All-1 is a request, which counts and
-- is waited for
unfoldable pub sent_in : AoeSenderData → AoeSenderState → AoeSenderState
sent_in s (Sending [] attempts) = Waiting (attempts + 1)
sent_in s (Sending (number ∷ numbers) attempts) = Sending (run_after s number numbers).1 attempts
sent_in s (Waiting attempts) = Waiting attempts
sent_in s Closing = Quiet
sent_in s Quiet = Quiet

unfoldable pub sent : AoeSenderData → AoeSenderData
sent s = record s { state = sent_in s s.state }

-- it goes on from this state, and this is what came of it
unfoldable pub moves : AoeSenderData → AoeSenderState → Heard → AoeSenderData × Heard
moves s state heard = (record s { state = state }, heard)

-- nothing comes of it
unfoldable pub stays : AoeSenderData → AoeSenderData × Heard
stays s = (s, Nothing)

-- the numbers of the window's tiles that go in Regulars and whose bit is 0
unfoldable pub missing_of : AoeSenderData → ℕ → List Bool → List ℕ
missing_of s window bits =
    missing (window * window_size) (regular_count s - window * window_size) bits

-- the tile in the All-1 came, or there is none: in the last window the rightmost bit stands for it
-- (RFC 8724, section 8.2.2.3)
unfoldable pub all1_came : LastTile → List Bool → Bool
all1_came InAll1 bits = get_or bits (window_size - 1) true
all1_came InRegular bits = true

-- an answer about the last window, with the numbers that are missing in it: where none is, and the
-- tile in the All-1 came, the check never passes
unfoldable pub asked_last : AoeSenderData → List ℕ → Bool → AoeSenderData × Heard
asked_last s [] true = moves s Closing NeverPasses
asked_last s [] false = moves s (Sending [] 0) Counted
asked_last s (number ∷ numbers) came = moves s (Sending (number ∷ numbers) 0) Counted

-- an answer that the check didn't pass, about a window that is the last, or is below the last: its
-- missing tiles are to be sent, and then the All-1; one about a window above the last doesn't count
unfoldable pub asked : AoeSenderData → ℕ → List Bool → Bool → Bool → AoeSenderData × Heard
asked s window bits true below = asked_last s (missing_of s window bits) (all1_came s.last bits)
asked s window bits false true = moves s (Sending (missing_of s window bits) 0) Counted
asked s window bits false false = stays s

-- an answer that the check passed counts if it is about the last window
unfoldable pub confirmed : AoeSenderData → Bool → AoeSenderData × Heard
confirmed s true = moves s Quiet Delivered
confirmed s false = stays s

-- an answer while it is waiting
unfoldable pub acked : AoeSenderData → ℕ → Bool → ℕ → AoeSenderData × Heard
acked s window true bitmap = confirmed s (window == last_window s)
acked s window false bitmap =
    asked s window (number_bits window_size bitmap) (window == last_window s)
    (nat_lt window (last_window s))

-- what an answer does: an ACK counts only in Waiting, a Receiver-Abort (RFC 8724, section 8.3.5) in
-- Sending and Waiting
unfoldable pub heard_in : Message → AoeSenderData → AoeSenderState → AoeSenderData × Heard
heard_in (form.Ack window c bitmap) s (Waiting attempts) = acked s window c bitmap
heard_in (form.Ack window c bitmap) s (Sending numbers attempts) = stays s
heard_in (form.Ack window c bitmap) s Closing = stays s
heard_in (form.Ack window c bitmap) s Quiet = stays s
heard_in form.ReceiverAbort s (Sending numbers attempts) = moves s Quiet PeerAborted
heard_in form.ReceiverAbort s (Waiting attempts) = moves s Quiet PeerAborted
heard_in form.ReceiverAbort s Closing = stays s
heard_in form.ReceiverAbort s Quiet = stays s
heard_in (form.Regular w fcn from) s state = stays s
heard_in (form.All1 w rcs from) s state = stays s
heard_in (form.AckReq w) s state = stays s
heard_in form.SenderAbort s state = stays s

unfoldable pub heard : Message → AoeSenderData → AoeSenderData × Heard
heard message s = heard_in message s s.state

-- the retransmission timer is due: after the last of the attempts a Sender-Abort is due, else the
-- All-1 again (RFC 8724, section 8.4.3.1)
unfoldable pub repeated : AoeSenderData → ℕ → Bool → AoeSenderData × Heard
repeated s attempts true = moves s (Sending [] attempts) Counted
repeated s attempts false = moves s Closing Spent

unfoldable pub retried_in : AoeSenderData → AoeSenderState → AoeSenderData × Heard
retried_in s (Waiting attempts) = repeated s attempts (nat_lt attempts max_ack_requests)
retried_in s (Sending numbers attempts) = stays s
retried_in s Closing = stays s
retried_in s Quiet = stays s

unfoldable pub retried : AoeSenderData → AoeSenderData × Heard
retried s = retried_in s s.state

-- the sender is told to abort
unfoldable pub aborted_in : AoeSenderData → AoeSenderState → AoeSenderData × Heard
aborted_in s (Sending numbers attempts) = moves s Closing Aborted
aborted_in s (Waiting attempts) = moves s Closing Aborted
aborted_in s Closing = stays s
aborted_in s Quiet = stays s

unfoldable pub aborted : AoeSenderData → AoeSenderData × Heard
aborted s = aborted_in s s.state

unfoldable pub phase_in : AoeSenderState → SenderPhase
phase_in (Sending numbers attempts) = phase.Sending
phase_in (Waiting attempts) = phase.Waiting
phase_in Closing = phase.Closing
phase_in Quiet = phase.Quiet

unfoldable pub sender_phase : AoeSenderData → SenderPhase
sender_phase s = phase_in s.state

-- some bytes spell the message as an answer
abbrev pub IsAnswer : FragParams → Message → Type 0
IsAnswer params message = (bytes : List ℕ)
    × Spells params side.Answers message (payload_in message (octets bytes)) bytes

-- each number is at least the first, and above the one before
abbrev pub IsAscending : ℕ → List ℕ → Type 0
IsAscending least [] = Unit {0}
IsAscending least (number ∷ numbers) = (least ≤ number) × IsAscending (suc number) numbers

-- the numbers to send ascend and are those of tiles that go in Regulars, so many; while it is
-- waiting it has made an attempt, and never more than may be made
abbrev pub IsStateOf : ℕ → AoeSenderState → Type 0
IsStateOf count (Sending numbers attempts) =
    IsAscending 0 numbers × AllByRecursion (λ number. number < count) numbers
    × (attempts < max_ack_requests)
IsStateOf count (Waiting attempts) = (1 ≤ attempts) × (attempts ≤ max_ack_requests)
IsStateOf count Closing = Unit {0}
IsStateOf count Quiet = Unit {0}

-- what holds of every sender
pub record IsAoeSender (s : AoeSenderData) : Type 0 where
  pub row : s.params ≡ params_of mode.AckOnError
  pub mtu : IsMtu s.mtu
  pub least : min_cut_bits ≤ length s.bits
  pub most : length s.bits ≤ max_session_bits
  pub state : IsStateOf (regular_count s) s.state
