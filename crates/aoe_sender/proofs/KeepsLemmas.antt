-- Each step leaves a sender that is one.
use Rattle.std.specs.Prelude.{ℕ, ◌≡◌, ◌-◌, ◌*◌, ◌≤◌, ◌==◌, zero, suc, nat_lt, Bool, true, false}
use Rattle.std.specs.Prelude.{List, [], ◌∷◌, length}
use Rattle.std.proofs.Common.{arith, refl}
use Rattle.std.proofs.lemmas.Bool.{ltb-true}
use Rattle.schc_bits.specs.Bits.{number_bits}
use Rattle.schc_ids.specs.declared.ends.LastTile.{LastTile}
use Rattle.schc_ids.specs.declared.fragments.FragMode.TheVariants as mode
use Rattle.schc_ids.specs.declared.fragments.FragParams.{FragParams}
use Rattle.schc_ids.specs.declared.notes.Heard.{Heard}
use Rattle.schc_ids.specs.declared.notes.Heard.TheVariants.{Counted, Delivered, NeverPasses}
use Rattle.schc_ids.specs.declared.notes.Heard.TheVariants.{PeerAborted, Spent, Aborted}
use Rattle.schc_ids.specs.Fragments.{params_of}
use Rattle.schc_ids.specs.Limits.{IsMtu, min_cut_bits, max_session_bits}
use Rattle.frag_wire.specs.declared.message.Message.{Message}
use Rattle.frag_wire.specs.declared.message.Message.TheVariants as form
use Rattle.tiles_bitmap.specs.Places.{numbers_from, missing, goes_on, one_more, run}
use Rattle.tiles_bitmap.proofs.WindowsLemmas.{numbers-fit, missing-fit, run-is}
use Rattle.aoe_sender.specs.State.{AoeSenderData, AoeSenderState, Sending, Waiting, Closing, Quiet}
use Rattle.aoe_sender.specs.Tiles.{padded_packet, all_tiles, in_regulars, regular_count}
use Rattle.aoe_sender.specs.Tiles.{last_window}
use Rattle.aoe_sender.specs.Steps.{begun, run_after, sent_in, sent, moves, stays, missing_of}
use Rattle.aoe_sender.specs.Steps.{all1_came, asked_last, asked, confirmed, acked, heard_in, heard}
use Rattle.aoe_sender.specs.Steps.{repeated, retried_in, retried, aborted_in, aborted, IsAscending}
use Rattle.aoe_sender.specs.Steps.{IsStateOf, IsAoeSender}
use Rattle.aoe_sender.proofs.CutLemmas.{HasTiles}

-- a sender has the parameters of ACK-on-Error, an MTU in its range and at least one bit to send
pub has-tiles : (s : AoeSenderData) → IsAoeSender s → HasTiles s
has-tiles s i = record { row = i.row; mtu = i.mtu; some = let least = i.least in omega arith }

-- numbers that ascend
ascends-from : (low high : ℕ) (numbers : List ℕ) → low ≤ high → IsAscending high numbers
    → IsAscending low numbers
ascends-from low high [] h a = tt
ascends-from low high (number ∷ numbers) h a = (omega (arith, a.0), a.1)

numbers-ascend : (k n : ℕ) → IsAscending k (numbers_from k n)
unfolding numbers_from
numbers-ascend k zero = tt
numbers-ascend k (suc n) = (omega arith, numbers-ascend (suc k) n)

missing-ascends : (k left : ℕ) (bits : List Bool) → IsAscending k (missing k left bits)
unfolding missing
missing-ascends k zero bits = tt
missing-ascends k (suc left) [] = tt
missing-ascends k (suc left) (true ∷ bits) =
    ascends-from k (suc k) (missing (suc k) left bits) (omega arith)
    (missing-ascends (suc k) left bits)
missing-ascends k (suc left) (false ∷ bits) = (omega arith, missing-ascends (suc k) left bits)

one_more-ascends : (b : Bool) (least next : ℕ) (numbers : List ℕ) (rest : ℕ × List ℕ)
    → IsAscending least (next ∷ numbers) → IsAscending least rest.1
    → IsAscending least (one_more b rest (next ∷ numbers)).1
unfolding one_more
one_more-ascends true least next numbers rest all some = some
one_more-ascends false least next numbers rest all some = all

run-ascends : (size most k least : ℕ) (numbers : List ℕ) → IsAscending least numbers
    → IsAscending least (run size most k numbers).1
unfolding run
run-ascends size zero k least numbers a = a
run-ascends size (suc most) k least [] a = tt
run-ascends size (suc most) k least (next ∷ numbers) a =
    one_more-ascends (goes_on size k next) least next numbers (run size most next numbers) a
    (run-ascends size most next least numbers
    (ascends-from least (suc next) numbers (omega (arith, a.0)) a.1))

-- another state of the same session
pub with-state : (s : AoeSenderData) (state : AoeSenderState) → IsAoeSender s
    → IsStateOf (regular_count s) state → IsAoeSender (record s { state = state })
unfolding regular_count all_tiles padded_packet
with-state s state i h =
    record { row = i.row; mtu = i.mtu; least = i.least; most = i.most; state = h }

moves-keeps : (s : AoeSenderData) (state : AoeSenderState) (h : Heard) → IsAoeSender s
    → IsStateOf (regular_count s) state → IsAoeSender (moves s state h).0
unfolding moves
moves-keeps s state h i k = with-state s state i k

stays-keeps : (s : AoeSenderData) → IsAoeSender s → IsAoeSender (stays s).0
unfolding stays
stays-keeps s i = i

-- where its bits and its MTU are in their ranges, a session of ACK-on-Error that begins is a sender
pub begun-keeps : (params : FragParams) (mtu : ℕ) (last : LastTile) (bits : List Bool)
    → params ≡ params_of mode.AckOnError → IsMtu mtu → min_cut_bits ≤ length bits
    → length bits ≤ max_session_bits → IsAoeSender (begun params mtu last bits)
unfolding begun regular_count all_tiles padded_packet
begun-keeps params mtu last bits row fits least most =
    let s : AoeSenderData =
    record { params = params; mtu = mtu; last = last; bits = bits; state = Quiet } in
    record {
      row = row;
      mtu = fits;
      least = least;
      most = most;
      state = (
        numbers-ascend 0 (regular_count s),
        numbers-fit 0 (regular_count s) (regular_count s)
            (omega arith),
        omega arith,
      );
    }

sent_in-keeps : (s : AoeSenderData) (state : AoeSenderState) → IsStateOf (regular_count s) state
    → IsStateOf (regular_count s) (sent_in s state)
unfolding sent_in run_after
sent_in-keeps s (Sending [] attempts) k = (omega arith, omega (arith, k.2))
sent_in-keeps s (Sending (number ∷ numbers) attempts) k =
    let all =
    run-is 63 (Rattle.aoe_sender.specs.Tiles.most_tiles s - 1) number (regular_count s) numbers
    k.1.0 k.1.1 in (
      ascends-from 0 (suc number) _ (omega arith)
          (run-ascends 63 (Rattle.aoe_sender.specs.Tiles.most_tiles s - 1) number (suc number)
          numbers k.0.1),
      all.rest_within,
      k.2,
    )
sent_in-keeps s (Waiting attempts) k = k
sent_in-keeps s Closing k = tt
sent_in-keeps s Quiet k = tt

-- once the message that is due was given, a sender still is one
pub sent-keeps : (s : AoeSenderData) → IsAoeSender s → IsAoeSender (sent s)
unfolding sent
sent-keeps s i = with-state s (sent_in s s.state) i (sent_in-keeps s s.state i.state)

-- what a bitmap lacks may be sent next: the numbers ascend and are of tiles that go in Regulars
pub missing-state : (s : AoeSenderData) (window : ℕ) (bits : List Bool)
    → IsStateOf (regular_count s) (Sending (missing_of s window bits) 0)
unfolding missing_of
missing-state s window bits = (
  ascends-from 0 (window * 63) _ (omega arith)
      (missing-ascends (window * 63) (regular_count s - window * 63) bits),
  missing-fit (window * 63) (regular_count s - window * 63) (regular_count s) bits (omega arith),
  omega arith,
)

asked_last-keeps : (s : AoeSenderData) (numbers : List ℕ) (came : Bool) → IsAoeSender s
    → IsStateOf (regular_count s) (Sending numbers 0) → IsAoeSender (asked_last s numbers came).0
unfolding asked_last
asked_last-keeps s [] true i k = moves-keeps s Closing NeverPasses i tt
asked_last-keeps s [] false i k = moves-keeps s (Sending [] 0) Counted i k
asked_last-keeps s (number ∷ numbers) came i k =
    moves-keeps s (Sending (number ∷ numbers) 0) Counted i k

asked-keeps : (s : AoeSenderData) (window : ℕ) (bits : List Bool) (same below : Bool)
    → IsAoeSender s → IsAoeSender (asked s window bits same below).0
unfolding asked
asked-keeps s window bits true below i =
    asked_last-keeps s (missing_of s window bits) (all1_came s.last bits) i
    (missing-state s window bits)
asked-keeps s window bits false true i =
    moves-keeps s (Sending (missing_of s window bits) 0) Counted i (missing-state s window bits)
asked-keeps s window bits false false i = stays-keeps s i

confirmed-keeps : (s : AoeSenderData) (same : Bool) → IsAoeSender s
    → IsAoeSender (confirmed s same).0
unfolding confirmed
confirmed-keeps s true i = moves-keeps s Quiet Delivered i tt
confirmed-keeps s false i = stays-keeps s i

acked-keeps : (s : AoeSenderData) (window : ℕ) (c : Bool) (bitmap : ℕ) → IsAoeSender s
    → IsAoeSender (acked s window c bitmap).0
unfolding acked
acked-keeps s window true bitmap i = confirmed-keeps s (window == last_window s) i
acked-keeps s window false bitmap i =
    asked-keeps s window (number_bits 63 bitmap) (window == last_window s)
    (nat_lt window (last_window s)) i

heard_in-keeps : (message : Message) (s : AoeSenderData) (state : AoeSenderState) → IsAoeSender s
    → IsAoeSender (heard_in message s state).0
unfolding heard_in
heard_in-keeps (form.Ack window c bitmap) s (Waiting attempts) i = acked-keeps s window c bitmap i
heard_in-keeps (form.Ack window c bitmap) s (Sending numbers attempts) i = stays-keeps s i
heard_in-keeps (form.Ack window c bitmap) s Closing i = stays-keeps s i
heard_in-keeps (form.Ack window c bitmap) s Quiet i = stays-keeps s i
heard_in-keeps form.ReceiverAbort s (Sending numbers attempts) i =
    moves-keeps s Quiet PeerAborted i tt
heard_in-keeps form.ReceiverAbort s (Waiting attempts) i = moves-keeps s Quiet PeerAborted i tt
heard_in-keeps form.ReceiverAbort s Closing i = stays-keeps s i
heard_in-keeps form.ReceiverAbort s Quiet i = stays-keeps s i
heard_in-keeps (form.Regular w fcn from) s state i = stays-keeps s i
heard_in-keeps (form.All1 w rcs from) s state i = stays-keeps s i
heard_in-keeps (form.AckReq w) s state i = stays-keeps s i
heard_in-keeps form.SenderAbort s state i = stays-keeps s i

-- whatever message it hears, a sender still is one
pub heard-keeps : (message : Message) (s : AoeSenderData) → IsAoeSender s
    → IsAoeSender (heard message s).0
unfolding heard
heard-keeps message s i = heard_in-keeps message s s.state i

repeated-keeps : (s : AoeSenderData) (attempts : ℕ) (more : Bool) → nat_lt attempts 8 ≡ more
    → IsAoeSender s → IsAoeSender (repeated s attempts more).0
unfolding repeated
repeated-keeps s attempts true e i =
    moves-keeps s (Sending [] attempts) Counted i (tt, tt, ltb-true attempts 8 e)
repeated-keeps s attempts false e i = moves-keeps s Closing Spent i tt

retried_in-keeps : (s : AoeSenderData) (state : AoeSenderState) → IsAoeSender s
    → IsAoeSender (retried_in s state).0
unfolding retried_in
retried_in-keeps s (Waiting attempts) i = repeated-keeps s attempts (nat_lt attempts 8) refl i
retried_in-keeps s (Sending numbers attempts) i = stays-keeps s i
retried_in-keeps s Closing i = stays-keeps s i
retried_in-keeps s Quiet i = stays-keeps s i

-- when the retransmission timer is due, a sender stays one
pub retried-keeps : (s : AoeSenderData) → IsAoeSender s → IsAoeSender (retried s).0
unfolding retried
retried-keeps s i = retried_in-keeps s s.state i

aborted_in-keeps : (s : AoeSenderData) (state : AoeSenderState) → IsAoeSender s
    → IsAoeSender (aborted_in s state).0
unfolding aborted_in
aborted_in-keeps s (Sending numbers attempts) i = moves-keeps s Closing Aborted i tt
aborted_in-keeps s (Waiting attempts) i = moves-keeps s Closing Aborted i tt
aborted_in-keeps s Closing i = stays-keeps s i
aborted_in-keeps s Quiet i = stays-keeps s i

-- when it is told to abort, a sender stays one
pub aborted-keeps : (s : AoeSenderData) → IsAoeSender s → IsAoeSender (aborted s).0
unfolding aborted
aborted-keeps s i = aborted_in-keeps s s.state i
