-- The payload of a Regular is cut in the tiles that were joined in it.
use Rattle.std.specs.Prelude.{ℕ, ◌≡◌, ◌+◌, ◌-◌, ◌*◌, ◌/◌, ◌<◌, ◌≤◌, zero, suc, Bool, List, [], ◌∷◌}
use Rattle.std.specs.Prelude.{◌++◌, length, take, drop, Option, Some, IfSome, Result, Ok}
use Rattle.std.proofs.Common.{arith, refl, sym, ap, subst, ◌∙◌}
use Rattle.std.proofs.lemmas.List.{append-nil, length-append, length-drop, length-take-le, take_all}
use Rattle.std.proofs.lemmas.List.{take_at, drop_at, take-take, drop-take}
use Rattle.schc_bits.specs.Bits.{octets, padded}
use Rattle.schc_bits.proofs.Octets.{length-padded}
use Rattle.schc_ids.specs.declared.faults.WireFault.{WireFault}
use Rattle.schc_ids.specs.declared.fragments.FragMode.TheVariants as mode
use Rattle.schc_ids.specs.declared.fragments.Side.TheVariants as side
use Rattle.frag_wire.specs.Layouts.{payload_in, written}
use Rattle.frag_wire.specs.Spells.{Spells, reading_in}
use Rattle.frag_wire.specs.declared.message.Message.{Message}
use Rattle.frag_wire.specs.declared.message.Message.TheVariants as form
use Rattle.frag_wire.proofs.ReadingLemmas.{reading-spelled}
use Rattle.tiles_bitmap.specs.Laws.{joined}
use Rattle.tiles_bitmap.specs.Numbers.{tile_number, tile_index}
use Rattle.tiles_bitmap.specs.Tiles.{AreTiles, most_in_last, parts, tile_sizes}
use Rattle.tiles_bitmap.specs.Places.{run}
use Rattle.tiles_bitmap.proofs.TilesLemmas.{are-tiles, numbers-name}
use Rattle.tiles_bitmap.proofs.WindowsLemmas.{run-is}
use Rattle.aoe_receiver.specs.State.{parts_of_ten, payload_tiles}
use Rattle.aoe_sender.specs.State.{AoeSenderData, AoeSenderState, Sending, Waiting, Closing, Quiet}
use Rattle.aoe_sender.specs.Steps.{run_after, regular, all1, due_in, due_message, due_bytes}
use Rattle.aoe_sender.specs.Steps.{IsStateOf, IsAoeSender}
use Rattle.aoe_sender.specs.Tiles.{padded_packet, all_tiles, regular_count, regular_tiles}
use Rattle.aoe_sender.specs.Tiles.{most_tiles}
use Rattle.aoe_sender.proofs.CutLemmas.{HasTiles, mode-is}
use Rattle.aoe_sender.proofs.KeepsLemmas.{has-tiles}
use Rattle.aoe_sender.proofs.LawsLemmas.{spells-due}
use Rattle.aoe_sender.proofs.MessageLemmas.{within}
use Rattle.lanes.proofs.WireLemmas.{is-mapped}

-- Cutting.

cut-none : payload_tiles [] ≡ []
unfolding payload_tiles parts_of_ten
cut-none = refl

cut-first : (first rest : List Bool) → length first ≡ 80
    → payload_tiles (first ++ rest) ≡ first ∷ payload_tiles rest
unfolding payload_tiles parts_of_ten
cut-first first rest e =
    let n : ℕ = (length rest + 79) / 80 in
    let count : (length (first ++ rest) + 79) / 80 ≡ suc n =
    omega (arith, length-append first rest, e) in
    ap (λ m. parts_of_ten m (first ++ rest)) count
    ∙ ap (λ tile. tile ∷ parts_of_ten n (drop 80 (first ++ rest))) (take_at first rest 80 e)
    ∙ ap (λ left. first ∷ parts_of_ten n left) (drop_at first rest 80 e)

cut-last : (last : List Bool) → 1 ≤ length last → length last ≤ 80 → payload_tiles last ≡ last ∷ []
unfolding payload_tiles parts_of_ten
cut-last last some few =
    let count : (length last + 79) / 80 ≡ 1 = omega arith in
    ap (λ m. parts_of_ten m last) count ∙ ap (λ tile. tile ∷ []) (take_all 80 last few)

take-no_tiles : (c : ℕ) → take {A = List Bool} c [] ≡ []
take-no_tiles zero = refl
take-no_tiles (suc c) = refl

drop-no_tiles : (k : ℕ) → drop {A = List Bool} k [] ≡ []
drop-no_tiles zero = refl
drop-no_tiles (suc k) = refl

abbrev IsCut : List (List Bool) → Type 0
IsCut tiles = payload_tiles (joined tiles) ≡ tiles

cut-take : (c mtu left : ℕ) (sizes : List ℕ) (bits : List Bool) → length bits ≡ left → 1 ≤ left
    → AreTiles mode.AckOnError mtu left sizes → IsCut (take c (parts sizes bits))
unfolding most_in_last
cut-take c mtu left [] bits e some are = absurd are
cut-take zero mtu left (size ∷ []) bits e some are = cut-none
cut-take (suc c) mtu left (size ∷ []) bits e some (all, fits) =
    let one : take size bits ≡ bits = take_all size bits (omega arith) in
    subst (λ (rest : List (List Bool)). IsCut (take size bits ∷ rest)) (sym (take-no_tiles c))
    (subst (λ (tile : List Bool). payload_tiles (tile ++ []) ≡ tile ∷ []) (sym one)
    (ap payload_tiles (append-nil bits) ∙ cut-last bits (omega arith) (omega arith)))
cut-take zero mtu left (size ∷ next ∷ sizes) bits e some are = cut-none
cut-take (suc c) mtu left (size ∷ next ∷ sizes) bits e some (more, same, rest) =
    let width : length (drop size bits) ≡ left - size = length-drop size bits ∙ omega arith in
    let first : length (take size bits) ≡ 80 = length-take-le size bits (omega arith) ∙ same in
    cut-first (take size bits) (joined (take c (parts (next ∷ sizes) (drop size bits)))) first
    ∙ ap (λ tiles. take size bits ∷ tiles)
    (cut-take c mtu (left - size) (next ∷ sizes) (drop size bits) width (omega arith) rest)

cut-part : (k c mtu left : ℕ) (sizes : List ℕ) (bits : List Bool) → length bits ≡ left → 1 ≤ left
    → AreTiles mode.AckOnError mtu left sizes → IsCut (take c (drop k (parts sizes bits)))
unfolding most_in_last
cut-part k c mtu left [] bits e some are = absurd are
cut-part zero c mtu left (size ∷ sizes) bits e some are =
    cut-take c mtu left (size ∷ sizes) bits e some are
cut-part (suc k) c mtu left (size ∷ []) bits e some are =
    subst (λ (tiles : List (List Bool)). IsCut (take c tiles)) (sym (drop-no_tiles k))
    (subst IsCut (sym (take-no_tiles c)) cut-none)
cut-part (suc k) c mtu left (size ∷ next ∷ sizes) bits e some (more, same, rest) =
    let width : length (drop size bits) ≡ left - size = length-drop size bits ∙ omega arith in
    cut-part k c mtu (left - size) (next ∷ sizes) (drop size bits) width (omega arith) rest

tiles-cut : (s : AoeSenderData) (k c : ℕ) → HasTiles s → IsCut (take c (drop k (all_tiles s)))
unfolding all_tiles padded_packet
tiles-cut s k c h =
    let some = h.some in
    let len : ℕ = length (padded s.bits) in
    let width : len ≡ 8 * ((length s.bits + 7) / 8) = length-padded s.bits in
    cut-part k c s.mtu len (tile_sizes s.params s.mtu len) (padded s.bits) refl (omega arith)
    (subst (λ m. AreTiles m s.mtu len (tile_sizes s.params s.mtu len)) (mode-is s h)
    (are-tiles s.params s.mtu len h.mtu))

-- a part of a front
front-part : (k c n : ℕ) (tiles : List (List Bool)) → k + c ≤ n
    → take c (drop k (take n tiles)) ≡ take c (drop k tiles)
front-part k c n tiles h =
    let whole : k + (n - k) ≡ n = omega arith in
    ap (λ m. take c (drop k (take m tiles))) (sym whole)
    ∙ ap (λ list. take c list) (drop-take k (n - k) tiles)
    ∙ take-take c (n - k) (drop k tiles) (omega arith)

-- Messages.

-- a Regular has a run of these tiles from its number on
abbrev pub HasRun : List (List Bool) → Message → List Bool → Type 0
HasRun tiles (form.Regular w fcn from) payload = (count : ℕ)
    × (payload_tiles payload ≡ take count (drop (tile_index (record { w = w; fcn = fcn })) tiles))
HasRun tiles (form.All1 w rcs from) payload = Unit {0}
HasRun tiles (form.Ack w c bitmap) payload = Unit {0}
HasRun tiles (form.AckReq w) payload = Unit {0}
HasRun tiles form.SenderAbort payload = Unit {0}
HasRun tiles form.ReceiverAbort payload = Unit {0}

regular-run : (s : AoeSenderData) (number more : ℕ) → IsAoeSender s
    → number + more < regular_count s
    → HasRun (regular_tiles s) (regular s number more).0 (regular s number more).1
unfolding regular regular_tiles
regular-run s number more is inside =
    let tiles = has-tiles s is in
    let all : List (List Bool) = all_tiles s in
    let n : ℕ = regular_count s in
    let below = (within s number more is inside).number in
    let same : tile_index (tile_number s.params.mode number) ≡ number =
    ap (λ m. tile_index (tile_number m number)) (mode-is s tiles)
    ∙ numbers-name number (omega arith) in (
      1 + more,
      tiles-cut s number (1 + more) tiles
          ∙ sym (front-part number (1 + more) n all (omega (arith, inside)))
          ∙ ap (λ (k : ℕ). take (1 + more) (drop k (take n all))) (sym same),
    )

due_in-run : (s : AoeSenderData) (state : AoeSenderState) → IsAoeSender s
    → IsStateOf (regular_count s) state
    → IfSome (due_in s state) (λ due. HasRun (regular_tiles s) due.0 due.1)
unfolding due_in run_after all1
due_in-run s (Sending [] attempts) is k = tt
due_in-run s (Sending (number ∷ numbers) attempts) is k =
    let all = run-is 63 (most_tiles s - 1) number (regular_count s) numbers k.1.0 k.1.1 in
    regular-run s number (run 63 (most_tiles s - 1) number numbers).0 is all.within
due_in-run s (Waiting attempts) is k = tt
due_in-run s Closing is k = tt
due_in-run s Quiet is k = tt

ok-same : (first second : Message) → ◌≡◌ {A = Result Message WireFault} (Ok first) (Ok second)
    → first ≡ second
ok-same first second e = cc

-- what is read of what is due
pub due-run : (s : AoeSenderData) (bytes : List ℕ) (message : Message) → IsAoeSender s
    → due_bytes s ≡ Some bytes → reading_in s.params.mode side.Fragments bytes ≡ Ok message
    → HasRun (regular_tiles s) message (payload_in message (octets bytes))
unfolding due_bytes due_message
due-run s bytes message is e read =
    let m = is-mapped (λ (due : Message × List Bool). written s.params due.0 due.1)
    (due_in s s.state) bytes e in
    let spells : Spells s.params side.Fragments m.it.0 m.it.1 (written s.params m.it.0 m.it.1) =
    spells-due s m.it is m.there in
    let there : Spells s.params side.Fragments m.it.0 m.it.1 bytes =
    subst (λ (b : List ℕ). Spells s.params side.Fragments m.it.0 m.it.1 b) m.image spells in
    let both : (reading_in s.params.mode side.Fragments bytes ≡ Ok m.it.0)
    × (m.it.1 ≡ payload_in m.it.0 (octets bytes)) =
    reading-spelled s.params.mode side.Fragments m.it.0 m.it.1 bytes there in
    let run : HasRun (regular_tiles s) m.it.0 m.it.1 =
    subst (λ (o : Option (Message × List Bool)). IfSome o
    (λ due. HasRun (regular_tiles s) due.0 due.1)) m.there (due_in-run s s.state is is.state)
    in
    subst (λ (other : Message). HasRun (regular_tiles s) other (payload_in other (octets bytes)))
    (ok-same m.it.0 message (sym both.0 ∙ read))
    (subst (HasRun (regular_tiles s) m.it.0) both.1 run)

-- a Regular has exactly the tiles of its run
pub record IsWhole (s : AoeSenderData) (number more : ℕ) : Type 0 where
  pub place : tile_index (tile_number s.params.mode number) ≡ number
  pub parts : payload_tiles (regular s number more).1 ≡ take (1 + more)
      (drop number (regular_tiles s))

-- a Regular with this tile and so many more, all of which go in Regulars, has exactly those tiles,
-- and its W and FCN lead back to the number of the first
pub regular-whole : (s : AoeSenderData) (number more : ℕ) → IsAoeSender s
    → number + more < regular_count s → IsWhole s number more
unfolding regular regular_tiles
regular-whole s number more is inside =
    let tiles = has-tiles s is in
    let below = (within s number more is inside).number in
    record {
      place = ap (λ m. tile_index (tile_number m number)) (mode-is s tiles)
          ∙ numbers-name number (omega arith);
      parts = tiles-cut s number (1 + more) tiles
          ∙ sym (front-part number (1 + more) (regular_count s) (all_tiles s)
          (omega (arith, inside)));
    }
