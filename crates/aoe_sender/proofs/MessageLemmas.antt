-- The messages that are given, and what is due.
use Rattle.std.specs.Prelude.{ℕ, ◌≡◌, ◌≢◌, ◌+◌, ◌-◌, ◌*◌, ◌/◌, ◌%◌, ◌^◌, ◌==◌, ◌<◌, ◌≤◌, zero, suc}
use Rattle.std.specs.Prelude.{min, nat_lt, Bool, true, false, List, [], ◌∷◌, ◌++◌, length, take}
use Rattle.std.specs.Prelude.{drop, get_or, Option, Some, None}
use Rattle.std.proofs.Common.{arith, ap, refl, sym, subst, ◌∙◌}
use Rattle.std.proofs.lemmas.Bool.{eq-eqb, ne_eqb, lt-ltb}
use Rattle.std.proofs.lemmas.List.{length-append, length-drop, length-take}
use Rattle.schc_bits.specs.Bits.{number_bits, padded, bytes_of}
use Rattle.schc_bits.proofs.NumberBits.{length-number_bits}
use Rattle.schc_ids.specs.declared.ends.LastTile.{LastTile}
use Rattle.schc_ids.specs.declared.ends.LastTile.TheVariants.{InAll1, InRegular}
use Rattle.schc_ids.specs.declared.fragments.FragMode.TheVariants as mode
use Rattle.schc_ids.specs.declared.fragments.FragParams.{FragParams}
use Rattle.schc_ids.specs.declared.fragments.Side.TheVariants as side
use Rattle.schc_ids.specs.declared.notes.Heard.TheVariants.{Counted, NeverPasses}
use Rattle.schc_ids.specs.Fragments.{params_of}
use Rattle.schc_ids.specs.Limits.{IsMtu, min_cut_bits}
use Rattle.frag_wire.specs.declared.message.Message.{Message}
use Rattle.frag_wire.specs.declared.message.Message.TheVariants as form
use Rattle.frag_wire.specs.Forms.{all_ones, fragment_head}
use Rattle.frag_wire.specs.Layouts.{head, written}
use Rattle.frag_wire.specs.Spells.{CanSpell}
use Rattle.frag_wire.proofs.FormsLemmas.{length-fragment_head}
use Rattle.frag_wire.proofs.WrittenLemmas.{length-written}
use Rattle.rcs.specs.Division.{check_of, lowest_first, rcs_of}
use Rattle.tiles_bitmap.specs.declared.numbers.TileNumber.{TileNumber}
use Rattle.tiles_bitmap.specs.Laws.{joined}
use Rattle.tiles_bitmap.specs.Numbers.{HasNumber, tile_number}
use Rattle.tiles_bitmap.specs.Places.{numbers_from, missing, goes_on, one_more, run}
use Rattle.tiles_bitmap.proofs.WindowsLemmas.{run-is}
use Rattle.aoe_sender.specs.declared.to_send.TileRun.{TileRun}
use Rattle.aoe_sender.specs.Marks.{first_run}
use Rattle.aoe_sender.specs.State.{AoeSenderData, Sending, Waiting, Closing, Quiet}
use Rattle.aoe_sender.specs.Tiles.{padded_packet, all_tiles, in_regulars, regular_count, all1_tile}
use Rattle.aoe_sender.specs.Tiles.{last_window, most_tiles}
use Rattle.aoe_sender.specs.Steps.{begun, run_after, regular, all1, due_in, due_message, due_bytes}
use Rattle.aoe_sender.specs.Steps.{sent_in, sent, moves, all1_came, missing_of, asked_last, asked}
use Rattle.aoe_sender.specs.Steps.{IsStateOf, IsAoeSender}
use Rattle.aoe_sender.proofs.CutLemmas.{mode-is, regular_count-is, written-padded, padded-twice}
use Rattle.aoe_sender.proofs.CutLemmas.{regular-payload, all1-payload}
use Rattle.aoe_sender.proofs.KeepsLemmas.{has-tiles}
use Rattle.aoe_sender.proofs.MarksLemmas.{get_or-number_bits}

-- how many tiles there are
few-tiles : (last : LastTile) (len : ℕ) → 96 ≤ len → len ≤ 20160
    → (in_regulars last ((len + 79) / 80) ≤ 252)
    × (80 * in_regulars last ((len + 79) / 80) < len + 80)
    × (len ≤ 80 * in_regulars last ((len + 79) / 80) + 80)
few-tiles InAll1 len h k = (omega arith, omega arith, omega arith)
few-tiles InRegular len h k = (omega arith, omega arith, omega arith)

-- at most 252 tiles go in Regulars; each begins within the packet, and at most one tile is left
pub count-bound : (s : AoeSenderData) → IsAoeSender s → (regular_count s ≤ 252)
    × (80 * regular_count s < length s.bits + 80) × (length s.bits ≤ 80 * regular_count s + 80)
count-bound s i =
    subst (λ n. (n ≤ 252) × (80 * n < length s.bits + 80) × (length s.bits ≤ 80 * n + 80))
    (sym (regular_count-is s (has-tiles s i)))
    (few-tiles s.last (length s.bits) i.least i.most)

-- where the tiles of a Regular are
pub record IsWithin (s : AoeSenderData) (first more : ℕ) : Type 0 where
  pub number : first + more < 252
  pub bits : 80 * (first + more) < length s.bits

-- tiles that go in Regulars have numbers below 252, and the last begins within the packet
pub within : (s : AoeSenderData) (first more : ℕ) → IsAoeSender s → first + more < regular_count s
    → IsWithin s first more
within s first more i h = let b = count-bound s i in
    record { number = let few = b.0 in omega arith; bits = let few = b.1 in omega arith }

-- the first tile of a Regular that lies within the packet has a number of the four windows
pub has-number : (s : AoeSenderData) (first more : ℕ) → IsAoeSender s → IsWithin s first more
    → HasNumber s.params.mode first
has-number s first more i w =
    subst (λ m. HasNumber m first) (sym (mode-is s (has-tiles s i)))
    (let few = w.number in omega arith)

-- a Regular is a message
regular-fits : (first more len : ℕ) (name : TileNumber) (payload : List Bool)
    → name ≡ record { w = first / 63; fcn = 62 - first % 63 } → first + more < 252
    → 80 * (first + more) < len →
    length payload ≡ min (80 * (1 + more)) (len - 80 * first)
    → CanSpell (params_of mode.AckOnError) side.Fragments (form.Regular name.w name.fcn 8)
    payload
regular-fits first more len name payload e few there width =
    let w : name.w ≡ first / 63 = ap (λ (n : TileNumber). n.w) e in
    let fcn : name.fcn ≡ 62 - first % 63 = ap (λ (n : TileNumber). n.fcn) e in
    let long : length payload ≤ 80 * (1 + more) = omega arith in
    let tiles : ((length payload + 7) / 8 + 9) / 10 ≤ 1 + more = omega arith in
    let place : 63 * name.w + (62 - name.fcn) ≡ first = omega arith in
    (omega arith, omega arith, omega arith, omega arith)

-- so many tiles have 80 bits each, or together the bits that are left from the first on
pub payload-width : (bits : List Bool) (first count : ℕ)
    → length (take (80 * count) (drop (80 * first) bits)) ≡ min (80 * count)
    (length bits - 80 * first)
payload-width bits first count = length-take (80 * count) (drop (80 * first) bits)
    ∙ ap (λ n. min (80 * count) n) (length-drop (80 * first) bits)

-- a Regular of tiles that lie within the packet can be spelt, with W and FCN of the first
pub regular-spelt : (s : AoeSenderData) (first more : ℕ) (name : TileNumber) (payload : List Bool)
    → IsAoeSender s → IsWithin s first more → name ≡ tile_number s.params.mode first →
    payload ≡ take (80 * (1 + more)) (drop (80 * first) s.bits)
    → CanSpell s.params side.Fragments (form.Regular name.w name.fcn 8) payload
unfolding tile_number
regular-spelt s first more name payload i w e p =
    let same : name ≡ tile_number mode.AckOnError first = e
    ∙ ap (λ m. tile_number m first) (mode-is s (has-tiles s i)) in
    subst (λ (params : FragParams). CanSpell params side.Fragments (form.Regular name.w name.fcn 8)
    payload) (sym i.row)
    (regular-fits first more (length s.bits) name payload same w.number w.bits
    (ap length p ∙ payload-width s.bits first (1 + more)))

-- headers are whole bytes
regular-head : (s : AoeSenderData) (w fcn from : ℕ) → IsAoeSender s
    → length (head s.params (form.Regular w fcn from)) ≡ 8
regular-head s w fcn from i =
    length-fragment_head s.params.w_bits s.params.fcn_bits w fcn
    ∙ ap (λ (params : FragParams). params.w_bits + params.fcn_bits) i.row

all1-head : (s : AoeSenderData) (w rcs from : ℕ) → IsAoeSender s
    → length (head s.params (form.All1 w rcs from)) ≡ 40
all1-head s w rcs from i =
    length-append (fragment_head s.params.w_bits s.params.fcn_bits w (all_ones s.params.fcn_bits))
    (number_bits 32 rcs)
    ∙ omega (
      arith,
      length-fragment_head s.params.w_bits s.params.fcn_bits w (all_ones s.params.fcn_bits),
      length-number_bits 32 rcs,
      ap (λ (params : FragParams). params.w_bits + params.fcn_bits) i.row,
    )

-- what is given is the Regular
pub regular-written : (s : AoeSenderData) (first more : ℕ) (name : TileNumber) (payload : List Bool)
    → IsAoeSender s → name ≡ tile_number s.params.mode first →
    payload ≡ take (80 * (1 + more)) (drop (80 * first) s.bits)
    → written s.params (form.Regular name.w name.fcn 8) payload ≡ written s.params
    (regular s first more).0 (regular s first more).1
unfolding regular
regular-written s first more name payload i e p =
    let whole : length (head s.params (form.Regular name.w name.fcn 8)) % 8 ≡ 0 =
    rw (regular-head s name.w name.fcn 8 i) refl in
    sym (written-padded s.params (form.Regular name.w name.fcn 8) payload whole)
    ∙ ap (λ part. written s.params (form.Regular name.w name.fcn 8) (padded part)) p
    ∙ ap (λ part. written s.params (form.Regular name.w name.fcn 8) part)
    (sym (regular-payload s first (1 + more) (has-tiles s i)))
    ∙ ap (λ (n : TileNumber). written s.params (form.Regular n.w n.fcn 8)
    (joined (take (1 + more) (drop first (all_tiles s))))) e

-- a Regular has at most one byte of header and ten bytes a tile
pub regular-room : (s : AoeSenderData) (first more : ℕ) (name : TileNumber) (payload : List Bool)
    → IsAoeSender s → payload ≡ take (80 * (1 + more)) (drop (80 * first) s.bits) →
    length (written s.params (form.Regular name.w name.fcn 8) payload) ≤ 1 + 10 * (1 + more)
regular-room s first more name payload i p =
    let bits : List Bool = head s.params (form.Regular name.w name.fcn 8) ++ payload in
    let width : length bits ≡ 8 + length payload =
    length-append (head s.params (form.Regular name.w name.fcn 8)) payload
    ∙ ap (λ n. n + length payload) (regular-head s name.w name.fcn 8 i) in
    let part : length payload ≡ min (80 * (1 + more)) (length s.bits - 80 * first) = ap length p
    ∙ payload-width s.bits first (1 + more) in
    let bytes : length (bytes_of (padded bits)) ≡ (length bits + 7) / 8 = length-written bits in
    omega arith

-- the check of the padded packet is that of the packet
rcs-padded : (bits : List Bool) → rcs_of (padded bits) ≡ rcs_of bits
unfolding rcs_of
rcs-padded bits = ap (λ list. check_of (lowest_first (bytes_of list))) (padded-twice bits)

-- what is given is the All-1
pub all1-written : (s : AoeSenderData) (w rcs count : ℕ) (payload : List Bool) → IsAoeSender s
    → w ≡ last_window s → rcs ≡ rcs_of s.bits → count ≡ regular_count s →
    payload ≡ take (80 * 1) (drop (80 * count) s.bits)
    → written s.params (form.All1 w rcs 40) payload ≡ written s.params (all1 s).0 (all1 s).1
unfolding all1 padded_packet
all1-written s w rcs count payload i ew er ec p =
    let whole : length (head s.params (form.All1 w rcs 40)) % 8 ≡ 0 =
    rw (all1-head s w rcs 40 i) refl in
    let part : payload ≡ take (80 * 1) (drop (80 * regular_count s) s.bits) = p
    ∙ ap (λ n. take (80 * 1) (drop (80 * n) s.bits)) ec in
    sym (written-padded s.params (form.All1 w rcs 40) payload whole)
    ∙ ap (λ list. written s.params (form.All1 w rcs 40) (padded list)) part
    ∙ ap (λ list. written s.params (form.All1 w rcs 40) list) (sym (all1-payload s (has-tiles s i)))
    ∙ ap (λ n. written s.params (form.All1 n rcs 40) (all1_tile s)) ew
    ∙ ap (λ n. written s.params (form.All1 (last_window s) n 40) (all1_tile s))
    (er ∙ sym (rcs-padded s.bits))

pub all1-spelt : (s : AoeSenderData) (w rcs count : ℕ) (payload : List Bool) → IsAoeSender s → w < 4
    → rcs < 2 ^ 32 → payload ≡ take (80 * 1) (drop (80 * count) s.bits)
    → CanSpell s.params side.Fragments (form.All1 w rcs 40) payload
all1-spelt s w rcs count payload i four fits p =
    let part : length payload ≡ min (80 * 1) (length s.bits - 80 * count) = ap length p
    ∙ payload-width s.bits count 1 in
    let few : length payload ≤ 80 = omega arith in
    subst (λ (params : FragParams). CanSpell params side.Fragments (form.All1 w rcs 40) payload)
    (sym i.row) (four, fits, few)

pub all1-room : (s : AoeSenderData) (w rcs count : ℕ) (payload : List Bool) → IsAoeSender s
    → payload ≡ take (80 * 1) (drop (80 * count) s.bits)
    → length (written s.params (form.All1 w rcs 40) payload) ≤ 15
all1-room s w rcs count payload i p =
    let bits : List Bool = head s.params (form.All1 w rcs 40) ++ payload in
    let width : length bits ≡ 40 + length payload =
    length-append (head s.params (form.All1 w rcs 40)) payload
    ∙ ap (λ n. n + length payload) (all1-head s w rcs 40 i) in
    let part : length payload ≡ min (80 * 1) (length s.bits - 80 * count) = ap length p
    ∙ payload-width s.bits count 1 in
    let bytes : length (bytes_of (padded bits)) ≡ (length bits + 7) / 8 = length-written bits in
    omega arith

-- what is due
pub given-is : (s : AoeSenderData) (due : Message × List Bool) (bytes : List ℕ)
    → due_message s ≡ Some due → bytes ≡ written s.params due.0 due.1 → Some bytes ≡ due_bytes s
unfolding due_bytes
given-is s due bytes e b = ap Some b
    ∙ ap (λ d. Rattle.std.specs.Prelude.option_map
    (λ (m : Message × List Bool). written s.params m.0 m.1) d) (sym e)

-- a Regular is due
pub record IsRegularDue (s : AoeSenderData) (attempts : ℕ) (taken : TileRun × List ℕ) : Type 0 where
  pub within : taken.0.first + taken.0.more < regular_count s
  pub few : taken.0.more ≤ most_tiles s - 1
  pub due : due_message s ≡ Some (regular s taken.0.first taken.0.more)
  pub after : sent s ≡ record s { state = Sending taken.1 attempts }

run-few : (size most k : ℕ) (numbers : List ℕ) → (run size most k numbers).0 ≤ most
unfolding run one_more
run-few size zero k numbers = omega arith
run-few size (suc most) k [] = omega arith
run-few size (suc most) k (next ∷ numbers) =
    one-few (goes_on size k next) (run size most next numbers) (next ∷ numbers) most
    (run-few size most next numbers)
  where
    one-few : (b : Bool) (rest : ℕ × List ℕ) (all : List ℕ) (m : ℕ) → rest.0 ≤ m
        → (one_more b rest all).0 ≤ suc m
    one-few true rest all m h = omega arith
    one-few false rest all m h = omega arith

run-due : (s : AoeSenderData) (attempts number : ℕ) (numbers : List ℕ) (taken : TileRun × List ℕ)
    → s.state ≡ Sending (number ∷ numbers) attempts
    → IsStateOf (regular_count s) (Sending (number ∷ numbers) attempts) →
    taken ≡ (
      record { first = number; more = (run 63 (most_tiles s - 1) number numbers).0 },
      (run 63 (most_tiles s - 1) number numbers).1,
    ) → IsRegularDue s attempts taken
unfolding due_message due_in sent sent_in run_after
run-due s attempts number numbers taken e k t =
    let all = run-is 63 (most_tiles s - 1) number (regular_count s) numbers k.1.0 k.1.1 in
    let first : taken.0.first ≡ number = ap (λ (p : TileRun × List ℕ). p.0.first) t in
    let more : taken.0.more ≡ (run 63 (most_tiles s - 1) number numbers).0 =
    ap (λ (p : TileRun × List ℕ). p.0.more) t in
    let rest : taken.1 ≡ (run 63 (most_tiles s - 1) number numbers).1 =
    ap (λ (p : TileRun × List ℕ). p.1) t in
    let below = all.within in
    record {
      within = omega arith;
      few = omega (arith, run-few 63 (most_tiles s - 1) number numbers);
      due = ap (due_in s) e
          ∙ ap (λ n. Some (regular s n (run 63 (most_tiles s - 1) number numbers).0)) (sym first)
          ∙ ap (λ n. Some (regular s taken.0.first n)) (sym more);
      after = ap (λ state. record s { state = sent_in s state }) e
          ∙ ap (λ ns. record s { state = Sending ns attempts }) (sym rest);
    }

-- what stands in two equal options is equal
pub some-same : {A : Type 0} (x y : A) → Some x ≡ Some y → x ≡ y
some-same {A = A} x y e = ap (λ (o : Option A). Rattle.std.specs.Prelude.unwrap_or o x) e

pub regular-due : (s : AoeSenderData) (attempts : ℕ) (numbers : List ℕ) (taken : TileRun × List ℕ)
    → IsAoeSender s → s.state ≡ Sending numbers attempts
    → Some taken ≡ first_run (most_tiles s - 1) numbers → IsRegularDue s attempts taken
unfolding first_run
regular-due s attempts [] taken i e f = absurd cc
regular-due s attempts (number ∷ numbers) taken i e f =
    run-due s attempts number numbers taken e (subst (IsStateOf (regular_count s)) e i.state)
    (some-same taken (
      record { first = number; more = (run 63 (most_tiles s - 1) number numbers).0 },
      (run 63 (most_tiles s - 1) number numbers).1,
    ) f)

-- while numbers are to be sent, a Regular is due: with the first run of them, of at most as many
-- tiles as a frame holds behind the header
pub regular-due-at : (s : AoeSenderData) (from attempts : ℕ) (numbers : List ℕ)
    (taken : TileRun × List ℕ) → IsAoeSender s → s.state ≡ Sending numbers attempts
    → from ≡ s.mtu - 1 → Some taken ≡ first_run (from / 10 - 1) numbers
    → IsRegularDue s attempts taken
unfolding most_tiles
regular-due-at s from attempts numbers taken i e m f =
    regular-due s attempts numbers taken i e (f ∙ ap (λ n. first_run (n / 10 - 1) numbers) m)

-- such a Regular fits in a frame
pub regular-in-frame : (s : AoeSenderData) (more len : ℕ) → IsAoeSender s → more ≤ most_tiles s - 1
    → len ≤ 1 + 10 * (1 + more) → len ≤ s.mtu
unfolding most_tiles
regular-in-frame s more len i few h = let least = i.mtu.0 in omega arith

-- the All-1 is due
pub record IsAll1Due (s : AoeSenderData) (attempts : ℕ) : Type 0 where
  pub due : due_message s ≡ Some (all1 s)
  pub after : sent s ≡ record s { state = Waiting (attempts + 1) }

-- where no number is left to send, the All-1 is due, and then the sender waits
pub all1-due : (s : AoeSenderData) (most attempts : ℕ) (numbers : List ℕ)
    → s.state ≡ Sending numbers attempts → None ≡ first_run most numbers → IsAll1Due s attempts
unfolding first_run due_message due_in sent sent_in
all1-due s most attempts [] e f =
    record { due = ap (due_in s) e; after = ap (λ state. record s { state = sent_in s state }) e }
all1-due s most attempts (number ∷ numbers) e f = absurd cc

-- a session that begins
pub begun-is : (params : FragParams) (mtu : ℕ) (last : LastTile) (bits : List Bool)
    (numbers : List ℕ) (count len : ℕ) → params ≡ params_of mode.AckOnError → IsMtu mtu
    → min_cut_bits ≤ length bits →
    len ≡ length bits → count ≡ in_regulars last ((len + 79) / 80)
    → numbers ≡ numbers_from 0 count →
    ◌≡◌ {A = AoeSenderData}
    (record { params = params; mtu = mtu; last = last; bits = bits; state = Sending numbers 0 })
    (begun params mtu last bits)
unfolding begun
begun-is params mtu last bits numbers count len row fits least el ec en =
    let s : AoeSenderData =
    record { params = params; mtu = mtu; last = last; bits = bits; state = Quiet } in
    let same : numbers ≡ numbers_from 0 (regular_count s) =
    en ∙ ap (λ n. numbers_from 0 n)
    (ec ∙ ap (λ n. in_regulars last ((n + 79) / 80)) el
    ∙ sym (regular_count-is s (record { row = row; mtu = fits; some = omega arith })))
    in
    ap (λ ns. record s { state = Sending ns 0 }) same

-- the rightmost bit
pub all1_came-is : (last : LastTile) (bitmap : ℕ) → last ≡ InAll1
    → (bitmap % 2 == 1) ≡ all1_came last (number_bits 63 bitmap)
unfolding all1_came
all1_came-is InAll1 bitmap e =
    let whole : bitmap / 2 ^ (63 - 1 - 62) ≡ bitmap = omega arith in
    sym (get_or-number_bits 63 bitmap 62 true (omega arith) ∙ ap (λ n. n % 2 == 1) whole)
all1_came-is InRegular bitmap e = absurd cc

-- an answer about the last window
pub asked_last-none : (s : AoeSenderData) (numbers : List ℕ) → numbers ≡ []
    → asked_last s numbers true ≡ moves s Closing NeverPasses
unfolding asked_last
asked_last-none s [] e = refl
asked_last-none s (number ∷ numbers) e = absurd cc

pub asked_last-some : (s : AoeSenderData) (numbers : List ℕ) (came : Bool)
    → (numbers ≡ [] → came ≡ true → ⊥)
    → asked_last s numbers came ≡ moves s (Sending numbers 0) Counted
unfolding asked_last
asked_last-some s [] true e = absurd (e refl refl)
asked_last-some s [] false e = refl
asked_last-some s (number ∷ numbers) came e = refl

-- the numbers that an answer leaves to send
pub missing-is : (s : AoeSenderData) (w bitmap count : ℕ) (numbers : List ℕ)
    → count ≡ regular_count s → numbers ≡ missing (w * 63) (count - w * 63) (number_bits 63 bitmap)
    → numbers ≡ missing_of s w (number_bits 63 bitmap)
unfolding missing_of
missing-is s w bitmap count numbers ec en = en
    ∙ ap (λ n. missing (w * 63) (n - w * 63) (number_bits 63 bitmap)) ec

-- an ACK with a C of 0 about the last window does what comes of the tiles missing in it and of
-- whether the All-1's tile came
pub asked-at-last : (s : AoeSenderData) (w : ℕ) (bits : List Bool) (numbers : List ℕ)
    → w ≡ last_window s → numbers ≡ missing_of s w bits
    → asked s w bits (w == last_window s) (nat_lt w (last_window s)) ≡ asked_last s numbers
    (all1_came s.last bits)
unfolding asked
asked-at-last s w bits numbers e n =
    ap (λ same. asked s w bits same (nat_lt w (last_window s))) (eq-eqb w (last_window s) e)
    ∙ ap (λ ns. asked_last s ns (all1_came s.last bits)) (sym n)

-- after an ACK with a C of 0 about a window below the last, the tiles missing in it are to be sent,
-- and the attempts are counted from 0 again
pub asked-below : (s : AoeSenderData) (w : ℕ) (bits : List Bool) (numbers : List ℕ)
    → w < last_window s → numbers ≡ missing_of s w bits
    → asked s w bits (w == last_window s) (nat_lt w (last_window s)) ≡ moves s (Sending numbers 0)
    Counted
unfolding asked
asked-below s w bits numbers h n =
    ap (λ same. asked s w bits same (nat_lt w (last_window s)))
    (ne_eqb w (last_window s) (λ e. omega arith))
    ∙ ap (λ below. asked s w bits false below) (lt-ltb w (last_window s) h)
    ∙ ap (λ ns. moves s (Sending ns 0) Counted) (sym n)
