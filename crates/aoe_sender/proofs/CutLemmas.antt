-- The tiles of the padded packet, and what is written of them.
use Rattle.std.specs.Prelude.{ℕ, ◌≡◌, ◌+◌, ◌-◌, ◌*◌, ◌/◌, ◌%◌, ◌≤◌, zero, suc, min, Bool, List, []}
use Rattle.std.specs.Prelude.{◌∷◌, ◌++◌, length, take, drop}
use Rattle.std.proofs.Common.{arith, ap, refl, sym, subst, ◌∙◌, inl, inr}
use Rattle.std.proofs.lemmas.Bool.{cases_lt}
use Rattle.std.proofs.lemmas.List.{append_assoc, append-nil, length-drop, length-take-le, drop-drop}
use Rattle.std.proofs.lemmas.List.{drop_all, drop_at, take_all, take_min, drop_min}
use Rattle.std.proofs.lemmas.List.{take-append-drop, take-append-le}
use Rattle.std.proofs.Math.Seq.{take-add}
use Rattle.schc_bits.specs.Bits.{padded, bytes_of}
use Rattle.schc_bits.proofs.Octets.{padded-is, length-padded, padded-whole, padded-append}
use Rattle.schc_ids.specs.declared.ends.LastTile.{LastTile}
use Rattle.schc_ids.specs.declared.ends.LastTile.TheVariants.{InAll1, InRegular}
use Rattle.schc_ids.specs.declared.fragments.FragMode.TheVariants as mode
use Rattle.schc_ids.specs.declared.fragments.FragParams.{FragParams}
use Rattle.schc_ids.specs.Fragments.{params_of}
use Rattle.schc_ids.specs.Limits.{IsMtu}
use Rattle.frag_wire.specs.declared.message.Message.{Message}
use Rattle.frag_wire.specs.Layouts.{head, written}
use Rattle.tiles_bitmap.specs.Laws.{joined}
use Rattle.tiles_bitmap.specs.Tiles.{AreTiles, most_in_last, parts, tile_sizes}
use Rattle.tiles_bitmap.proofs.TilesLemmas.{are-tiles, counts-tiles, tiles-join}
use Rattle.aoe_sender.specs.State.{AoeSenderData}
use Rattle.aoe_sender.specs.Tiles.{padded_packet, all_tiles, in_regulars, regular_count}
use Rattle.aoe_sender.specs.Tiles.{regular_tiles, all1_tile, last_window}

-- the bits of some tiles and further ones are those of the first, and then those of the others
pub joined-append : (xs ys : List (List Bool)) → joined (xs ++ ys) ≡ joined xs ++ joined ys
joined-append [] ys = refl
joined-append (x ∷ xs) ys = ap (λ bits. x ++ bits) (joined-append xs ys)
    ∙ sym (append_assoc x (joined xs) (joined ys))

joined-take_none : (c : ℕ) → joined (take {A = List Bool} c []) ≡ []
joined-take_none zero = refl
joined-take_none (suc c) = refl

take-no_bits : (c : ℕ) → take {A = Bool} c [] ≡ []
take-no_bits zero = refl
take-no_bits (suc c) = refl

drop-no_tiles : (k : ℕ) → drop {A = List Bool} k [] ≡ []
drop-no_tiles zero = refl
drop-no_tiles (suc k) = refl

times-more : (c : ℕ) → 80 * suc c ≡ 80 + 80 * c
times-more c = omega arith

-- tiles from the first one on
joined-take : (c mtu left : ℕ) (sizes : List ℕ) (bits : List Bool) → length bits ≡ left
    → AreTiles mode.AckOnError mtu left sizes
    → joined (take c (parts sizes bits)) ≡ take (80 * c) bits
unfolding most_in_last
joined-take c mtu left [] bits e are = absurd are
joined-take zero mtu left (size ∷ []) bits e are = refl
joined-take (suc c) mtu left (size ∷ []) bits e (all, fits) =
    let one : take size bits ≡ bits = take_all size bits (omega arith) in
    let whole : take (80 * suc c) bits ≡ bits = take_all (80 * suc c) bits (omega arith) in
    ap (λ rest. take size bits ++ rest) (joined-take_none c) ∙ append-nil (take size bits) ∙ one
    ∙ sym whole
joined-take zero mtu left (size ∷ next ∷ sizes) bits e are = refl
joined-take (suc c) mtu left (size ∷ next ∷ sizes) bits e (more, same, rest) =
    let width : length (drop size bits) ≡ left - size = length-drop size bits ∙ omega arith in
    ap (λ list. take size bits ++ list)
    (joined-take c mtu (left - size) (next ∷ sizes) (drop size bits) width rest)
    ∙ ap (λ n. take n bits ++ take (80 * c) (drop n bits)) same
    ∙ sym (take-add 80 (80 * c) bits)
    ∙ ap (λ n. take n bits) (sym (times-more c))

-- tiles from any one on
pub joined-part : (k c mtu left : ℕ) (sizes : List ℕ) (bits : List Bool) → length bits ≡ left
    → AreTiles mode.AckOnError mtu left sizes
    → joined (take c (drop k (parts sizes bits))) ≡ take (80 * c) (drop (80 * k) bits)
unfolding most_in_last
joined-part k c mtu left [] bits e are = absurd are
joined-part zero c mtu left (size ∷ sizes) bits e are =
    joined-take c mtu left (size ∷ sizes) bits e are
joined-part (suc k) c mtu left (size ∷ []) bits e (all, fits) =
    let none : drop (80 * suc k) bits ≡ [] = drop_all (80 * suc k) bits (omega arith) in
    ap (λ list. joined (take c list)) (drop-no_tiles k) ∙ joined-take_none c
    ∙ sym (take-no_bits (80 * c)) ∙ ap (λ list. take (80 * c) list) (sym none)
joined-part (suc k) c mtu left (size ∷ next ∷ sizes) bits e (more, same, rest) =
    let width : length (drop size bits) ≡ left - size = length-drop size bits ∙ omega arith in
    joined-part k c mtu (left - size) (next ∷ sizes) (drop size bits) width rest
    ∙ ap (λ n. take (80 * c) (drop (80 * k) (drop n bits))) same
    ∙ ap (λ list. take (80 * c) list) (drop-drop (80 * k) 80 bits)
    ∙ ap (λ n. take (80 * c) (drop n bits)) (sym (times-more k))

-- bits are cut in as many tiles as there are sizes
pub length-parts : (sizes : List ℕ) (bits : List Bool) → length (parts sizes bits) ≡ length sizes
length-parts [] bits = refl
length-parts (size ∷ sizes) bits = ap suc (length-parts sizes (drop size bits))

-- what the lemmas below need of a sender
pub record HasTiles (s : AoeSenderData) : Type 0 where
  pub row : s.params ≡ params_of mode.AckOnError
  pub mtu : IsMtu s.mtu
  pub some : 1 ≤ length s.bits

-- the mode in a sender's parameters is ACK-on-Error
pub mode-is : (s : AoeSenderData) → HasTiles s → s.params.mode ≡ mode.AckOnError
mode-is s h = ap (λ (p : FragParams). p.mode) h.row

pub tiles-part : (s : AoeSenderData) (k c : ℕ) → HasTiles s
    → joined (take c (drop k (all_tiles s))) ≡ take (80 * c) (drop (80 * k) (padded s.bits))
unfolding all_tiles padded_packet
tiles-part s k c h =
    let len : ℕ = length (padded s.bits) in
    joined-part k c s.mtu len (tile_sizes s.params s.mtu len) (padded s.bits) refl
    (subst (λ m. AreTiles m s.mtu len (tile_sizes s.params s.mtu len)) (mode-is s h)
    (are-tiles s.params s.mtu len h.mtu))

-- the padded packet has a tile for each 80 bits of the SCHC packet, and one for fewer that are left
pub count-tiles : (s : AoeSenderData) → HasTiles s
    → length (all_tiles s) ≡ (length s.bits + 79) / 80
unfolding all_tiles padded_packet
count-tiles s h =
    let some = h.some in
    let len : ℕ = length (padded s.bits) in
    let width : len ≡ 8 * ((length s.bits + 7) / 8) = length-padded s.bits in
    length-parts (tile_sizes s.params s.mtu len) (padded s.bits)
    ∙ counts-tiles s.params s.mtu len (mode-is s h) (omega arith) ∙ omega arith

-- of the packet's tiles of 80 bits, all go in Regulars, or all but the one in the All-1
pub regular_count-is : (s : AoeSenderData) → HasTiles s
    → regular_count s ≡ in_regulars s.last ((length s.bits + 79) / 80)
unfolding regular_count
regular_count-is s h = ap (in_regulars s.last) (count-tiles s h)

-- the window that the All-1 names is that of the last of the packet's tiles of 80 bits
pub last_window-is : (s : AoeSenderData) → HasTiles s
    → last_window s ≡ ((length s.bits + 79) / 80 - 1) / 63
unfolding last_window
last_window-is s h = ap (λ n. (n - 1) / 63) (count-tiles s h)

-- a part of the padded packet is the same part of the packet, padded
drop-padded : (k : ℕ) (bits : List Bool) → k % 8 ≡ 0 → drop k (padded bits) ≡ padded (drop k bits)
drop-padded k bits whole =
    elim (cases_lt (length bits) k) [
      | inl short ↦
          let all : length (padded bits) ≡ 8 * ((length bits + 7) / 8) = length-padded bits in
          drop_all k (padded bits) (omega arith) ∙ sym (padded-whole [] refl)
          ∙ ap padded (sym (drop_all k bits (omega arith)))
      | inr long ↦
          let width : length (take k bits) ≡ k = length-take-le k bits long in
          let even : length (take k bits) % 8 ≡ 0 = rw width whole in
          ap (λ list. drop k (padded list)) (sym (take-append-drop k bits))
          ∙ ap (λ list. drop k list) (padded-append (take k bits) (drop k bits) even)
          ∙ drop_at (take k bits) (padded (drop k bits)) k width
    ]

take-padded_bits : (n : ℕ) (bits : List Bool) → n % 8 ≡ 0
    → take n (padded bits) ≡ padded (take n bits)
take-padded_bits n bits whole =
    elim (cases_lt (length bits) n) [
      | inl short ↦
          let width : length (padded bits) ≡ 8 * ((length bits + 7) / 8) = length-padded bits in
          take_all n (padded bits) (omega arith) ∙ ap padded (sym (take_all n bits (omega arith)))
      | inr long ↦
          let width : length (take n bits) ≡ n = length-take-le n bits long in
          ap (λ list. take n list) (padded-is bits) ∙ take-append-le n bits _ long
          ∙ sym (padded-whole (take n bits) (rw width whole))
    ]

pub part-padded : (k n : ℕ) (bits : List Bool) → k % 8 ≡ 0 → n % 8 ≡ 0
    → take n (drop k (padded bits)) ≡ padded (take n (drop k bits))
part-padded k n bits ek en = ap (λ list. take n list) (drop-padded k bits ek)
    ∙ take-padded_bits n (drop k bits) en

-- bits that are padded already get no more padding
pub padded-twice : (bits : List Bool) → padded (padded bits) ≡ padded bits
padded-twice bits = let width : length (padded bits) ≡ 8 * ((length bits + 7) / 8) =
    length-padded bits in padded-whole (padded bits) (omega arith)

-- it makes no difference whether a payload is padded before it is written
pub written-padded : (params : FragParams) (message : Message) (payload : List Bool)
    → length (head params message) % 8 ≡ 0
    → written params message (padded payload) ≡ written params message payload
written-padded params message payload even =
    ap bytes_of
    (padded-append (head params message) (padded payload) even
    ∙ ap (λ list. head params message ++ list) (padded-twice payload)
    ∙ sym (padded-append (head params message) payload even))

-- the payload of a Regular
pub regular-payload : (s : AoeSenderData) (k c : ℕ) → HasTiles s
    → joined (take c (drop k (all_tiles s))) ≡ padded (take (80 * c) (drop (80 * k) s.bits))
regular-payload s k c h = tiles-part s k c h
    ∙ part-padded (80 * k) (80 * c) s.bits (omega arith) (omega arith)

in_regulars-least : (last : LastTile) (n : ℕ) → n ≤ in_regulars last n + 1
in_regulars-least InAll1 n = omega arith
in_regulars-least InRegular n = omega arith

in_regulars-most : (last : LastTile) (n : ℕ) → in_regulars last n ≤ n
in_regulars-most InAll1 n = omega arith
in_regulars-most InRegular n = omega arith

-- the tile in the All-1 is one alone
pub all1-payload : (s : AoeSenderData) → HasTiles s
    → all1_tile s ≡ padded (take (80 * 1) (drop (80 * regular_count s) s.bits))
unfolding all1_tile regular_count
all1-payload s h =
    let n : ℕ = length (all_tiles s) in
    let c : ℕ = in_regulars s.last n in
    let few : length (drop c (all_tiles s)) ≤ 1 =
    omega (arith, length-drop c (all_tiles s), in_regulars-least s.last n) in
    ap joined (sym (take_all 1 (drop c (all_tiles s)) few)) ∙ regular-payload s c 1 h

-- the part of the bits that these tiles are
pub part-is : (bits : List Bool) (from count : ℕ)
    → take (min (length (drop (min (length bits) from) bits)) count)
    (drop (min (length bits) from) bits) ≡ take count (drop from bits)
part-is bits from count = rw (least-drop from bits, least-take count (drop from bits))
  where
    least-drop : (k : ℕ) (list : List Bool) → drop (min (length list) k) list ≡ drop k list
    least-drop k list = let turned : min (length list) k ≡ min k (length list) = omega arith in
        ap (λ m. drop m list) turned ∙ drop_min k list

    least-take : (k : ℕ) (list : List Bool) → take (min (length list) k) list ≡ take k list
    least-take k list = let turned : min (length list) k ≡ min k (length list) = omega arith in
        ap (λ m. take m list) turned ∙ take_min k list

-- the tiles of the Regulars in their order, and then the tile in the All-1, are the padded packet
pub tiles-joined : (s : AoeSenderData) → HasTiles s
    → joined (regular_tiles s) ++ all1_tile s ≡ padded_packet s
unfolding regular_tiles all1_tile all_tiles
tiles-joined s h =
    sym (joined-append (take (regular_count s) (all_tiles s))
    (drop (regular_count s) (all_tiles s)))
    ∙ ap joined (take-append-drop (regular_count s) (all_tiles s))
    ∙ tiles-join s.params s.mtu (padded_packet s) h.mtu
