-- What is sent, over all states.
use Rattle.std.specs.Prelude.{ℕ, ◌≡◌, ◌+◌, ◌-◌, ◌*◌, ◌/◌, ◌%◌, ◌^◌, ◌<◌, ◌≤◌, zero, suc, min, Bool}
use Rattle.std.specs.Prelude.{true, false, List, [], ◌∷◌, ◌++◌, length, take, drop, replicate, Some}
use Rattle.std.proofs.Common.{arith, ap, refl, sym, subst, ◌∙◌}
use Rattle.std.proofs.lemmas.List.{append_assoc, append-nil, length-append, length-take, take-take}
use Rattle.std.proofs.lemmas.List.{drop-take, drop_all, drop-drop, take-append-drop}
use Rattle.schc_bits.specs.Bits.{number_bits, padded, bytes_of}
use Rattle.schc_bits.proofs.NumberBits.{length-number_bits}
use Rattle.schc_bits.proofs.Octets.{length-padded, AreBytes-bytes_of}
use Rattle.rcs.proofs.Steps.{check_of-bytes}
use Rattle.tiles_bitmap.proofs.WindowsLemmas.{run-is}
use Rattle.schc_ids.specs.declared.ends.LastTile.{LastTile}
use Rattle.schc_ids.specs.declared.fragments.FragMode.TheVariants as mode
use Rattle.schc_ids.specs.declared.fragments.FragParams.{FragParams}
use Rattle.schc_ids.specs.declared.fragments.Side.TheVariants as side
use Rattle.schc_ids.specs.Fragments.{params_of}
use Rattle.schc_ids.specs.Limits.{IsMtu, min_cut_bits, max_session_bits}
use Rattle.frag_wire.specs.declared.message.Message.{Message}
use Rattle.frag_wire.specs.declared.message.Message.TheVariants as form
use Rattle.frag_wire.specs.AckOnError.{SpellsAckOnError}
use Rattle.frag_wire.specs.Forms.{IsRegular, IsAll1, all_ones, fragment_head}
use Rattle.frag_wire.specs.Layouts.{written}
use Rattle.frag_wire.specs.Spells.{Spells}
use Rattle.frag_wire.proofs.FormsLemmas.{length-fragment_head}
use Rattle.frag_wire.proofs.WrittenLemmas.{zeros, IsRegular-written, IsAll1-written}
use Rattle.frag_wire.proofs.WrittenLemmas.{IsSenderAbort-written, length-fragment, length-all1}
use Rattle.rcs.specs.Division.{rcs_of}
use Rattle.tiles_bitmap.specs.declared.numbers.TileNumber.{TileNumber}
use Rattle.tiles_bitmap.specs.Laws.{joined}
use Rattle.tiles_bitmap.specs.Numbers.{tile_number}
use Rattle.tiles_bitmap.specs.Places.{numbers_from, goes_on, one_more, run}
use Rattle.aoe_sender.specs.Laws.{StepsSound, payloads}
use Rattle.aoe_sender.specs.State.{AoeSenderData, AoeSenderState, Sending, Waiting, Closing, Quiet}
use Rattle.aoe_sender.specs.Tiles.{padded_packet, all_tiles, regular_count, regular_tiles}
use Rattle.aoe_sender.specs.Tiles.{all1_tile, last_window, most_tiles}
use Rattle.aoe_sender.specs.Steps.{begun, run_after, regular, all1, due_in, due_message, sent_in}
use Rattle.aoe_sender.specs.Steps.{sent, IsStateOf, IsAoeSender}
use Rattle.aoe_sender.proofs.CutLemmas.{mode-is, last_window-is, regular-payload, all1-payload}
use Rattle.aoe_sender.proofs.CutLemmas.{joined-append, tiles-joined}
use Rattle.aoe_sender.proofs.KeepsLemmas.{has-tiles, begun-keeps, sent-keeps, heard-keeps}
use Rattle.aoe_sender.proofs.KeepsLemmas.{retried-keeps, aborted-keeps}
use Rattle.aoe_sender.proofs.MessageLemmas.{IsWithin, within, payload-width, some-same}

-- a sender that gives a message, hears one, tries again or aborts still is one
pub steps-sound : (s : AoeSenderData) → IsAoeSender s → StepsSound s
steps-sound s i =
    record {
      sent_is = sent-keeps s i;
      heard_is = λ message. heard-keeps message s i;
      retried_is = retried-keeps s i;
      aborted_is = aborted-keeps s i;
    }

-- the tiles of a sender's Regulars in their order, and then the All-1's, are its padded packet
pub tiles-packet : (s : AoeSenderData) → IsAoeSender s
    → joined (regular_tiles s) ++ all1_tile s ≡ padded_packet s
tiles-packet s i = tiles-joined s (has-tiles s i)

-- a payload of whole bytes gets no padding
unpadded : (front payload : List Bool) → length front % 8 ≡ 0 → length payload % 8 ≡ 0
    → payload ++ replicate (zeros (front ++ payload)) false ≡ payload
unpadded front payload ef ep =
    let none : zeros (front ++ payload) ≡ 0 = omega (arith, length-append front payload) in
    ap (λ n. payload ++ replicate n false) none ∙ append-nil payload

regular-spells : (w fcn : ℕ) (payload : List Bool) → w < 4 → fcn < 63 → length payload % 8 ≡ 0
    → 8 ≤ length payload → 63 * w + (62 - fcn) + (length payload / 8 + 9) / 10 ≤ 252 →
    SpellsAckOnError (form.Regular w fcn 8) payload
    (written (params_of mode.AckOnError) (form.Regular w fcn 8) payload)
regular-spells w fcn payload hw hf even some few =
    let front : List Bool = fragment_head 2 6 w fcn in
    let bytes : List ℕ = written (params_of mode.AckOnError) (form.Regular w fcn 8) payload in
    let width : length bytes ≡ (2 + 6 + length payload + 7) / 8 =
    length-fragment 2 6 w fcn payload in
    let whole : length front % 8 ≡ 0 = rw (length-fragment_head 2 6 w fcn) refl in (
      subst (λ p. IsRegular 2 6 w fcn 8 p bytes) (unpadded front payload whole even)
          (IsRegular-written 2 6 w fcn payload hw hf),
      omega arith,
      omega arith,
    )

all1-spells : (w rcs : ℕ) (payload : List Bool) → w < 4 → rcs < 2 ^ 32 → length payload % 8 ≡ 0
    → length payload ≤ 80 →
    SpellsAckOnError (form.All1 w rcs 40) payload
    (written (params_of mode.AckOnError) (form.All1 w rcs 40) payload)
all1-spells w rcs payload hw hr even few =
    let front : List Bool = fragment_head 2 6 w (all_ones 6) ++ number_bits 32 rcs in
    let bytes : List ℕ = written (params_of mode.AckOnError) (form.All1 w rcs 40) payload in
    let width : length bytes ≡ (2 + 6 + 32 + length payload + 7) / 8 =
    length-all1 2 6 w rcs payload in
    let head_width : length front ≡ 40 =
    length-append (fragment_head 2 6 w (all_ones 6)) (number_bits 32 rcs)
    ∙ omega (arith, length-fragment_head 2 6 w (all_ones 6), length-number_bits 32 rcs) in
    let whole : length front % 8 ≡ 0 = rw head_width refl in (
      subst (λ p. IsAll1 2 6 w rcs 40 p bytes) (unpadded front payload whole even)
          (IsAll1-written 2 6 w rcs payload hw hr),
      omega arith,
      omega arith,
    )

abort-spells : SpellsAckOnError form.SenderAbort []
    (written (params_of mode.AckOnError) form.SenderAbort [])
abort-spells = (IsSenderAbort-written 2 6 [] refl, length-fragment 2 6 (all_ones 2) (all_ones 6) [])

-- bytes that are given spell the message that is due
abbrev Spelt : FragParams → Message × List Bool → Type 0
Spelt params due = Spells params side.Fragments due.0 due.1 (written params due.0 due.1)

regular-spelt_due : (s : AoeSenderData) (number more : ℕ) → IsAoeSender s → IsWithin s number more
    → Spelt s.params (regular s number more)
unfolding regular tile_number
regular-spelt_due s number more i within_tiles =
    let name : TileNumber = tile_number s.params.mode number in
    let same : name ≡ tile_number mode.AckOnError number =
    ap (λ m. tile_number m number) (mode-is s (has-tiles s i)) in
    let w : name.w ≡ number / 63 = ap (λ (n : TileNumber). n.w) same in
    let fcn : name.fcn ≡ 62 - number % 63 = ap (λ (n : TileNumber). n.fcn) same in
    let payload : List Bool = joined (take (1 + more) (drop number (all_tiles s))) in
    let part : List Bool = take (80 * (1 + more)) (drop (80 * number) s.bits) in
    let size : length part ≡ min (80 * (1 + more)) (length s.bits - 80 * number) =
    payload-width s.bits number (1 + more) in
    let width : length payload ≡ 8 * ((length part + 7) / 8) =
    ap length (regular-payload s number (1 + more) (has-tiles s i)) ∙ length-padded part in
    let last = within_tiles.number in
    let there = within_tiles.bits in
    let tiles : (length payload / 8 + 9) / 10 ≤ 1 + more = omega arith in
    let place : 63 * name.w + (62 - name.fcn) ≡ number = omega arith in
    subst (λ (params : FragParams). Spelt params
    (form.Regular name.w name.fcn (params.w_bits + params.fcn_bits), payload)) (sym i.row)
    (regular-spells name.w name.fcn payload (omega arith) (omega arith) (omega arith) (omega arith)
    (omega arith))

rcs-below : (bits : List Bool) → rcs_of bits < 2 ^ 32
unfolding rcs_of
rcs-below bits = let e =
    check_of-bytes (bytes_of (padded bits)) (AreBytes-bytes_of (padded bits)) in omega arith

all1-spelt_due : (s : AoeSenderData) → IsAoeSender s → Spelt s.params (all1 s)
unfolding all1
all1-spelt_due s i =
    let part : List Bool = take (80 * 1) (drop (80 * regular_count s) s.bits) in
    let size : length part ≡ min (80 * 1) (length s.bits - 80 * regular_count s) =
    payload-width s.bits (regular_count s) 1 in
    let width : length (all1_tile s) ≡ 8 * ((length part + 7) / 8) =
    ap length (all1-payload s (has-tiles s i)) ∙ length-padded part in
    let window : last_window s ≡ ((length s.bits + 79) / 80 - 1) / 63 =
    last_window-is s (has-tiles s i) in
    let most = i.most in
    subst (λ (params : FragParams). Spelt params (
      form.All1 (last_window s) (rcs_of (padded_packet s))
          (params.w_bits + params.fcn_bits + 32),
      all1_tile s,
    )) (sym i.row)
    (all1-spells (last_window s) (rcs_of (padded_packet s)) (all1_tile s) (omega arith)
    (rcs-below (padded_packet s)) (omega arith) (omega arith))

due_in-spelt : (s : AoeSenderData) (state : AoeSenderState) (due : Message × List Bool)
    → IsAoeSender s → IsStateOf (regular_count s) state → due_in s state ≡ Some due
    → Spelt s.params due
unfolding due_in run_after
due_in-spelt s (Sending [] attempts) due i k e =
    subst (Spelt s.params) (some-same (all1 s) due e) (all1-spelt_due s i)
due_in-spelt s (Sending (number ∷ numbers) attempts) due i k e =
    let all = run-is 63 (most_tiles s - 1) number (regular_count s) numbers k.1.0 k.1.1 in
    let more : ℕ = (run 63 (most_tiles s - 1) number numbers).0 in
    let below : number + more < regular_count s = all.within in
    subst (Spelt s.params) (some-same (regular s number more) due e)
    (regular-spelt_due s number more i (within s number more i below))
due_in-spelt s (Waiting attempts) due i k e = absurd cc
due_in-spelt s Closing due i k e =
    subst (Spelt s.params) (some-same (form.SenderAbort, []) due e)
    (subst (λ (params : FragParams). Spelt params (form.SenderAbort, [])) (sym i.row) abort-spells)
due_in-spelt s Quiet due i k e = absurd cc

-- the bytes that are given spell the message that is due, and its payload gets no padding in them
pub spells-due : (s : AoeSenderData) (due : Message × List Bool) → IsAoeSender s
    → due_message s ≡ Some due
    → Spells s.params side.Fragments due.0 due.1 (written s.params due.0 due.1)
unfolding due_message
spells-due s due i e = due_in-spelt s s.state due i i.state e

-- a run of numbers that follow one another
record IsFront (k m : ℕ) (taken : ℕ × List ℕ) : Type 0 where
  few : taken.0 ≤ m
  rest : taken.1 ≡ numbers_from (suc k + taken.0) (m - taken.0)

front-none : (k m : ℕ) (numbers : List ℕ) → numbers ≡ numbers_from (suc k) m
    → IsFront k m (0, numbers)
front-none k m numbers e =
    let here : suc k ≡ suc k + 0 = omega arith in
    let all : m ≡ m - 0 = omega arith in
    record {
      few = omega arith;
      rest = e ∙ ap (λ n. numbers_from n m) here
          ∙ ap (λ n. numbers_from (suc k + 0) n) all;
    }

front-more : (b : Bool) (k m : ℕ) (taken : ℕ × List ℕ) (numbers : List ℕ)
    → numbers ≡ numbers_from (suc k) (suc m) → IsFront (suc k) m taken
    → IsFront k (suc m) (one_more b taken numbers)
unfolding one_more
front-more true k m taken numbers e f =
    let few = f.few in
    let here : suc (suc k) + taken.0 ≡ suc k + suc taken.0 = omega arith in
    let left : m - taken.0 ≡ suc m - suc taken.0 = omega arith in
    record {
      few = omega arith;
      rest = f.rest ∙ ap (λ n. numbers_from n (m - taken.0)) here
          ∙ ap (λ n. numbers_from (suc k + suc taken.0) n) left;
    }
front-more false k m taken numbers e f = front-none k (suc m) numbers e

run-front : (most k m : ℕ) → IsFront k m (run 63 most k (numbers_from (suc k) m))
unfolding run numbers_from
run-front zero k m = front-none k m (numbers_from (suc k) m) refl
run-front (suc most) k zero = front-none k 0 [] refl
run-front (suc most) k (suc m) =
    front-more (goes_on 63 k (suc k)) k m (run 63 most (suc k) (numbers_from (suc (suc k)) m))
    (numbers_from (suc k) (suc m)) refl (run-front most (suc k) m)

-- some tiles, and then the others
part-split : (tiles : List (List Bool)) (k j r : ℕ) (last : List Bool) → r ≤ j →
    joined (take r (drop k tiles)) ++ (joined (drop (k + r) (take (k + j) tiles)) ++ last) ≡ joined
    (drop k (take (k + j) tiles)) ++ last
part-split tiles k j r last h =
    let all : List (List Bool) = drop k (take (k + j) tiles) in
    let front : take r all ≡ take r (drop k tiles) = ap (λ list. take r list) (drop-take k j tiles)
    ∙ take-take r j (drop k tiles) h in
    let behind : drop r all ≡ drop (k + r) (take (k + j) tiles) =
    drop-drop r k (take (k + j) tiles) in
    let whole : joined (take r all) ++ joined (drop r all) ≡ joined all =
    sym (joined-append (take r all) (drop r all)) ∙ ap joined (take-append-drop r all) in
    sym (append_assoc (joined (take r (drop k tiles))) (joined (drop (k + r) (take (k + j) tiles)))
    last)
    ∙ ap (λ list. (joined list ++ joined (drop (k + r) (take (k + j) tiles))) ++ last) (sym front)
    ∙ ap (λ list. (joined (take r all) ++ joined list) ++ last) (sym behind)
    ∙ ap (λ bits. bits ++ last) whole

-- a sender that waits gives nothing
waits : (count : ℕ) (s : AoeSenderData) (attempts : ℕ)
    → payloads count (record s { state = Waiting attempts }) ≡ []
unfolding payloads due_message due_in sent sent_in
waits zero s attempts = refl
waits (suc count) s attempts = waits count s attempts

-- what is given from a number on
sends-from : (count : ℕ) (s : AoeSenderData) (k m attempts : ℕ) → k + m ≡ regular_count s
    → m < count →
    payloads count (record s { state = Sending (numbers_from k m) attempts }) ≡ joined
    (drop k (regular_tiles s)) ++ all1_tile s
unfolding payloads due_message due_in sent sent_in run_after numbers_from regular all1 all1_tile
    regular_tiles regular_count all_tiles padded_packet most_tiles
sends-from zero s k m attempts e h = absurd (omega arith)
sends-from (suc count) s k zero attempts e h =
    let none : drop k (regular_tiles s) ≡ [] =
    drop_all k (regular_tiles s) (omega (arith, length-take (regular_count s) (all_tiles s))) in
    ap (λ bits. all1_tile s ++ bits) (waits count s (attempts + 1)) ∙ append-nil (all1_tile s)
    ∙ ap (λ list. joined list ++ all1_tile s) (sym none)
sends-from (suc count) s k (suc m) attempts e h =
    let taken : ℕ × List ℕ = run 63 (most_tiles s - 1) k (numbers_from (suc k) m) in
    let front : IsFront k m taken = run-front (most_tiles s - 1) k m in
    let few : taken.0 ≤ m = front.few in
    let end : suc k + taken.0 + (m - taken.0) ≡ regular_count s = omega arith in
    let rest = sends-from count s (suc k + taken.0) (m - taken.0) attempts end (omega arith) in
    let whole : regular_count s ≡ k + suc m = omega arith in
    let next : suc k + taken.0 ≡ k + (1 + taken.0) = omega arith in
    let split : joined
    (take (1 + taken.0) (drop k (all_tiles s))) ++ (joined
    (drop (k + (1 + taken.0)) (take (regular_count s) (all_tiles s))) ++ all1_tile s) ≡ joined
    (drop k (take (regular_count s) (all_tiles s))) ++ all1_tile s =
    subst (λ n. joined
    (take (1 + taken.0) (drop k (all_tiles s))) ++ (joined
    (drop (k + (1 + taken.0)) (take n (all_tiles s))) ++ all1_tile s) ≡ joined
    (drop k (take n (all_tiles s))) ++ all1_tile s) (sym whole)
    (part-split (all_tiles s) k (suc m) (1 + taken.0) (all1_tile s) (omega arith))
    in
    ap (λ numbers. joined (take (1 + taken.0) (drop k (all_tiles s))) ++ payloads count
    (record s { state = Sending numbers attempts })) front.rest
    ∙ ap (λ bits. joined (take (1 + taken.0) (drop k (all_tiles s))) ++ bits) rest
    ∙ ap (λ n. joined
    (take (1 + taken.0) (drop k (all_tiles s))) ++ (joined (drop n (regular_tiles s)) ++ all1_tile
    s)) next
    ∙ split

-- the payloads that a session gives from its begin on are its padded packet, once it was asked for
-- more messages than there are tiles that go in Regulars
pub sends-packet : (params : FragParams) (mtu : ℕ) (last : LastTile) (bits : List Bool) (count : ℕ)
    → params ≡ params_of mode.AckOnError → IsMtu mtu → min_cut_bits ≤ length bits
    → length bits ≤ max_session_bits →
    regular_count (begun params mtu last bits) < count
    → payloads count (begun params mtu last bits) ≡ padded_packet (begun params mtu last bits)
unfolding begun regular_count all_tiles padded_packet regular_tiles all1_tile
sends-packet params mtu last bits count row fits least most more =
    let s : AoeSenderData =
    record { params = params; mtu = mtu; last = last; bits = bits; state = Quiet } in
    sends-from count s 0 (regular_count s) 0 (omega arith) more
    ∙ tiles-packet (begun params mtu last bits)
    (begun-keeps params mtu last bits row fits least most)
