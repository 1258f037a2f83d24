-- The bits of a buffer, and bits of a byte put behind others.
use Rattle.std.specs.Prelude.{ℕ, ◌≡◌, ◌+◌, ◌-◌, ◌*◌, ◌/◌, ◌%◌, ◌^◌, ◌<◌, ◌≤◌, ◌==◌, Bool, true}
use Rattle.std.specs.Prelude.{false, List, [], ◌∷◌, ◌++◌, zero, suc, length, get_or, set, take}
use Rattle.std.specs.Prelude.{drop}
use Rattle.std.proofs.Common.{arith, ap, sym, subst, ◌∙◌}
use Rattle.std.proofs.lemmas.List.{length-append, length-drop, length-take-le, append_assoc}
use Rattle.std.proofs.lemmas.List.{take-append-le, take-append-drop, take-take, take_all, drop-drop}
use Rattle.std.proofs.lemmas.List.{drop-append-le}
use Rattle.std.proofs.lemmas.Bool.{leb-true, lt-leb}
use Rattle.std.proofs.lemmas.Nat.{shl_below, shr_below}
use Rattle.std.proofs.Math.Nat.{mul-div_cancel}
use Rattle.std.proofs.Math.Pow.{pow_pos}
use Rattle.std.proofs.Math.Seq.{take-append-add}
use Rattle.schc_bits.specs.Bits.{number_bits, octets}
use Rattle.schc_bits.proofs.NumberBits.{length-number_bits, take-number_bits}
use Rattle.schc_bits.proofs.Octets.{length-octets, take-octets, drop-octets}
use Rattle.rcs.specs.Division.{rcs_of}
use Rattle.rcs.specs.Words.{Sum, Sums}
use Rattle.rcs.proofs.SumLemmas.{join-bits, window-below, shl-small}
use Rattle.reassembly.specs.Joining.{has_room, passes}

-- as many bits are kept as are counted, where the buffer has so many
pub length-kept : (count : ℕ) (bytes : List ℕ) → count ≤ 8 * length bytes
    → length (take count (octets bytes)) ≡ count
length-kept count bytes h =
    length-take-le count (octets bytes) (omega (arith, h, length-octets bytes))

-- the bits from an index on are those of the bytes from its byte on
pub tail-bits : (from : ℕ) (bytes : List ℕ)
    → drop (from % 8) (octets (drop (from / 8) bytes)) ≡ drop from (octets bytes)
tail-bits from bytes =
    let place : 8 * (from / 8) + from % 8 ≡ from = omega arith in
    ap (λ bits. drop (from % 8) bits) (sym (drop-octets (from / 8) bytes))
    ∙ drop-drop (from % 8) (8 * (from / 8)) (octets bytes)
    ∙ ap (λ n. drop n (octets bytes)) place

-- the bits from an index on are eight for each byte, less the index
pub length-tail : (from : ℕ) (bytes : List ℕ)
    → length (drop from (octets bytes)) ≡ 8 * length bytes - from
length-tail from bytes = length-drop from (octets bytes) ∙ ap (λ n. n - from) (length-octets bytes)

-- the front of the bits is in the bytes that it begins
pub front-bits : (count whole : ℕ) (bytes : List ℕ) → count ≤ 8 * whole
    → take count (octets (take whole bytes)) ≡ take count (octets bytes)
front-bits count whole bytes h = ap (λ bits. take count bits) (sym (take-octets whole bytes))
    ∙ take-take count (8 * whole) (octets bytes) h

-- what is kept of a byte and what is put behind it
joined-bits : (byte used low value width : ℕ) → used + low ≡ 8 → value < 2 ^ width
    → number_bits (used + width) (byte / 2 ^ low * 2 ^ width + value) ≡ take used
    (number_bits 8 byte) ++ number_bits width value
joined-bits byte used low value width e h =
    sym (join-bits used (byte / 2 ^ low) width value h)
    ∙ ap (λ bits. bits ++ number_bits width value)
    (sym (take-number_bits used low byte) ∙ ap (λ n. take used (number_bits n byte)) e)

-- the byte that is joined begins with the first `used` bits of the old one; the value's bits follow
pub with-bits : (byte used value width : ℕ) → used + width ≤ 8 → value < 2 ^ width
    → take (used + width)
    (number_bits 8 ((byte / 2 ^ (8 - used) * 2 ^ width + value) * 2 ^ (8 - used - width))) ≡ take
    used (number_bits 8 byte) ++ number_bits width value
with-bits byte used value width h k =
    let rest : ℕ = 8 - used - width in
    let joined : ℕ = byte / 2 ^ (8 - used) * 2 ^ width + value in
    let whole : used + width + rest ≡ 8 = omega (arith, h) in
    let low : used + (8 - used) ≡ 8 = omega (arith, h) in
    ap (λ n. take (used + width) (number_bits n (joined * 2 ^ rest))) (sym whole)
    ∙ take-number_bits (used + width) rest (joined * 2 ^ rest)
    ∙ ap (λ n. number_bits (used + width) n) (mul-div_cancel joined (pow_pos rest))
    ∙ joined-bits byte used (8 - used) value width low k

-- the numbers that are joined are as small as a byte
pub joined-below : (byte used value width : ℕ) → byte < 256 → used + width ≤ 8 → value < 2 ^ width
    → byte / 2 ^ (8 - used) * 2 ^ width + value < 2 ^ (used + width)
joined-below byte used value width small h k =
    let all : used + (8 - used) ≡ 8 = omega (arith, h) in
    let front : byte / 2 ^ (8 - used) < 2 ^ used =
    shr_below byte used (8 - used) (subst (λ n. byte < 2 ^ n) (sym all) small) in
    window-below used (byte / 2 ^ (8 - used)) width value front k

-- to join it in words of 32 bits loses none of its bits
pub with-exact : (word byte used value width : ℕ) → word ≡ byte → byte < 256 → used + width ≤ 8
    → value < 2 ^ width
    → (word / 2 ^ (8 - used) * 2 ^ width % 4294967296 + value) * 2 ^
    (8 - used - width) % 4294967296 ≡ (byte / 2 ^ (8 - used) * 2 ^ width + value) * 2 ^
    (8 - used - width)
with-exact word byte used value width same small h k =
    let all : used + (8 - used) ≡ 8 = omega (arith, h) in
    let front : byte / 2 ^ (8 - used) < 2 ^ used =
    shr_below byte used (8 - used) (subst (λ n. byte < 2 ^ n) (sym all) small) in
    ap (λ n. (n / 2 ^ (8 - used) * 2 ^ width % 4294967296 + value) * 2 ^
    (8 - used - width) % 4294967296) same
    ∙ ap (λ n. (n + value) * 2 ^ (8 - used - width) % 4294967296)
    (shl-small (byte / 2 ^ (8 - used)) width used front (omega (arith, h)))
    ∙ shl-small (byte / 2 ^ (8 - used) * 2 ^ width + value) (8 - used - width) (used + width)
    (joined-below byte used value width small h k) (omega (arith, h))

-- what is joined so fits in a byte
pub with-fits : (byte used value width : ℕ) → byte < 256 → used + width ≤ 8 → value < 2 ^ width
    → (byte / 2 ^ (8 - used) * 2 ^ width + value) * 2 ^ (8 - used - width) < 256
with-fits byte used value width small h k =
    let rest : ℕ = 8 - used - width in
    let whole : used + width + rest ≡ 8 = omega (arith, h) in
    subst (λ n. (byte / 2 ^ (8 - used) * 2 ^ width + value) * 2 ^ rest < 2 ^ n) whole
    (shl_below (byte / 2 ^ (8 - used) * 2 ^ width + value) (used + width) rest
    (joined-below byte used value width small h k))

-- a byte of the bytes is set, and so the bits that it begins with
pub put-bits : (bytes : List ℕ) (i used width now default : ℕ) (more : List Bool) → i < length bytes
    → used + width ≤ 8
    → take (used + width) (number_bits 8 now) ≡ take used
    (number_bits 8 (get_or bytes i default)) ++ more
    → take (8 * i + (used + width)) (octets (set bytes i now)) ≡ take (8 * i + used)
    (octets bytes) ++ more
put-bits [] i used width now default more h k e = absurd (omega (arith, h))
put-bits (byte ∷ bytes) zero used width now default more h k e =
    let place : 8 * 0 + (used + width) ≡ used + width = omega arith in
    let begin : 8 * 0 + used ≡ used = omega arith in
    ap (λ n. take n (number_bits 8 now ++ octets bytes)) place
    ∙ take-append-le (used + width) (number_bits 8 now) (octets bytes)
    (omega (arith, k, length-number_bits 8 now))
    ∙ e
    ∙ ap (λ bits. bits ++ more)
    (sym (ap (λ n. take n (number_bits 8 byte ++ octets bytes)) begin
    ∙ take-append-le used (number_bits 8 byte) (octets bytes)
    (omega (arith, k, length-number_bits 8 byte))))
put-bits (byte ∷ bytes) (suc i) used width now default more h k e =
    let place : 8 * suc i + (used + width) ≡ length
    (number_bits 8 byte) + (8 * i + (used + width)) =
    omega (arith, length-number_bits 8 byte) in
    let begin : 8 * suc i + used ≡ length (number_bits 8 byte) + (8 * i + used) =
    omega (arith, length-number_bits 8 byte) in
    ap (λ n. take n (number_bits 8 byte ++ octets (set bytes i now))) place
    ∙ take-append-add (number_bits 8 byte) (octets (set bytes i now)) (8 * i + (used + width))
    ∙ ap (λ bits. number_bits 8 byte ++ bits)
    (put-bits bytes i used width now default more (omega (arith, h)) k e)
    ∙ sym (append_assoc (number_bits 8 byte) (take (8 * i + used) (octets bytes)) more)
    ∙ ap (λ bits. bits ++ more)
    (sym (ap (λ n. take n (number_bits 8 byte ++ octets bytes)) begin
    ∙ take-append-add (number_bits 8 byte) (octets bytes) (8 * i + used)))

-- when the byte in which the bits end goes on with more, these stand behind those that were kept
pub put-kept : (bytes : List ℕ) (count width now default : ℕ) (more : List Bool)
    → count / 8 < length bytes → count % 8 + width ≤ 8
    → take (count % 8 + width) (number_bits 8 now) ≡ take (count % 8)
    (number_bits 8 (get_or bytes (count / 8) default)) ++ more
    → take (count + width) (octets (set bytes (count / 8) now)) ≡ take count (octets bytes) ++ more
put-kept bytes count width now default more h k e =
    let place : 8 * (count / 8) + (count % 8 + width) ≡ count + width = omega arith in
    let begin : 8 * (count / 8) + count % 8 ≡ count = omega arith in
    ap (λ n. take n (octets (set bytes (count / 8) now))) (sym place)
    ∙ put-bits bytes (count / 8) (count % 8) width now default more h k e
    ∙ ap (λ n. take n (octets bytes) ++ more) begin

-- a byte's bits in two pieces
pub two-pieces : (byte first width value rest later : ℕ) (old now end : List Bool)
    → first + width + rest ≡ 8
    → number_bits width value ≡ take width (drop first (number_bits 8 byte))
    → number_bits rest later ≡ take rest (drop (first + width) (number_bits 8 byte))
    → now ≡ old ++ number_bits width value → end ≡ now ++ number_bits rest later
    → end ≡ old ++ drop first (number_bits 8 byte)
two-pieces byte first width value rest later old now end whole e f g h =
    let bits : List Bool = number_bits 8 byte in
    let behind : drop (first + width) bits ≡ drop width (drop first bits) =
    sym (drop-drop width first bits) in
    let all : take rest (drop (first + width) bits) ≡ drop (first + width) bits =
    take_all rest (drop (first + width) bits)
    (omega (arith, whole, length-drop (first + width) bits, length-number_bits 8 byte))
    in
    h ∙ ap (λ x. x ++ number_bits rest later) g
    ∙ append_assoc old (number_bits width value) (number_bits rest later)
    ∙ ap (λ x. old ++ (x ++ number_bits rest later)) e
    ∙ ap (λ x. old ++ (take width (drop first bits) ++ x)) (f ∙ all ∙ behind)
    ∙ ap (λ x. old ++ x) (take-append-drop width (drop first bits))

-- a piece up to the byte's end puts all of its bits from `first` on behind those that were kept
pub one-piece : (byte first width value : ℕ) (old now : List Bool) → 8 ≤ first + width
    → number_bits width value ≡ take width (drop first (number_bits 8 byte))
    → now ≡ old ++ number_bits width value → now ≡ old ++ drop first (number_bits 8 byte)
one-piece byte first width value old now whole e g =
    g ∙ ap (λ x. old ++ x)
    (e ∙ take_all width (drop first (number_bits 8 byte))
    (omega (arith, whole, length-drop first (number_bits 8 byte), length-number_bits 8 byte)))

-- how much is left of the bytes, from the byte of an index on
pub part-left : (from : ℕ) (bytes : List ℕ) → from ≤ 8 * length bytes
    → 8 * (length bytes - from / 8) - from % 8 ≡ length (drop from (octets bytes))
part-left from bytes h =
    let e : 8 * (length bytes - from / 8) - from % 8 ≡ 8 * length bytes - from = omega (arith, h) in
    e ∙ sym (length-tail from bytes)

-- where there is room for a part, it and what is kept have at most 20,240 bits
pub has-room : (kept part : List Bool) → has_room kept part ≡ true
    → length kept + length part ≤ 20240
unfolding has_room
has-room kept part h = leb-true (length kept + length part) 20240 h

-- for a part of more than 20,240 bits there is no room, whatever is kept
pub has-no-room : (kept part : List Bool) → 20240 < length part → false ≡ has_room kept part
unfolding has_room
has-no-room kept part h = sym (lt-leb (length kept + length part) 20240 (omega (arith, h)))

-- a part's next byte
byte-off : (first byte : ℕ) (rest later : List ℕ) → first < 8 → rest ≡ byte ∷ later
    → drop first (octets rest) ≡ drop first (number_bits 8 byte) ++ octets later
byte-off first byte rest later h e =
    ap (λ bytes. drop first (octets bytes)) e
    ∙ drop-append-le first (number_bits 8 byte) (octets later)
    (omega (arith, h, length-number_bits 8 byte))

-- of a part for which there was room, the next byte has room behind what is kept by then
pub room-for-byte : (old now part : List Bool) (first byte : ℕ) (rest later : List ℕ) → first < 8
    → rest ≡ byte ∷ later → now ++ drop first (octets rest) ≡ old ++ part → has_room old part ≡ true
    → length now + (8 - first) ≤ 20240
room-for-byte old now part first byte rest later h e f room =
    let all = ap (λ bits. now ++ bits) (sym (byte-off first byte rest later h e)) ∙ f in
    let sizes = ap length all in
    omega (
      arith,
      h,
      sizes,
      has-room old part room,
      length-append now (drop first (number_bits 8 byte) ++ octets later),
      length-append (drop first (number_bits 8 byte)) (octets later),
      length-append old part,
      length-drop first (number_bits 8 byte),
      length-number_bits 8 byte,
    )

-- with the bits of the next byte behind it, what is kept and the part's later bytes are still all
pub byte-kept : (all now new : List Bool) (first byte : ℕ) (rest later : List ℕ) → first < 8
    → rest ≡ byte ∷ later → now ++ drop first (octets rest) ≡ all
    → new ≡ now ++ drop first (number_bits 8 byte) → new ++ octets later ≡ all
byte-kept all now new first byte rest later h e f g =
    ap (λ bits. bits ++ octets later) g
    ∙ append_assoc now (drop first (number_bits 8 byte)) (octets later)
    ∙ ap (λ bits. now ++ bits) (sym (byte-off first byte rest later h e))
    ∙ f

-- the check over what is kept and over a part that begins in some byte
pub part-sums : (begin front all : Sum) (kept : List Bool) (buffer bytes rest : List ℕ)
    (count from : ℕ) → from ≤ 8 * length bytes → rest ≡ drop (from / 8) bytes
    → take count (octets buffer) ≡ kept → Sums begin []
    → ((bits : List Bool) → Sums begin bits
    → Sums front (bits ++ take (count - 0) (drop 0 (octets buffer))))
    → ((bits : List Bool) → Sums front bits
    → Sums all (bits ++ take (8 * length rest - from % 8) (drop (from % 8) (octets rest))))
    → Sums all (kept ++ drop from (octets bytes))
part-sums begin front all kept buffer bytes rest count from h e view s f g =
    let first : Sums front kept =
    subst (λ bits. Sums front bits)
    (let e : [] ++ take (count - 0) (octets buffer) ≡ kept =
    ap (λ n. take n (octets buffer)) (let z : count - 0 ≡ count = omega arith in z) ∙ view in e)
    (f [] s) in
    let part : drop (from % 8) (octets rest) ≡ drop from (octets bytes) =
    ap (λ x. drop (from % 8) (octets x)) e ∙ tail-bits from bytes in
    let size : length (drop (from % 8) (octets rest)) ≤ 8 * length rest - from % 8 =
    omega (arith, length-tail (from % 8) rest) in
    subst (λ bits. Sums all (kept ++ bits))
    (take_all (8 * length rest - from % 8) (drop (from % 8) (octets rest)) size ∙ part)
    (g kept first)

-- the check passes exactly where the check sequence of the kept bits and the part is the one sent
pub checked : (value rcs : ℕ) (kept part : List Bool) → value ≡ rcs_of (kept ++ part)
    → (value == rcs) ≡ passes kept part rcs
unfolding passes
checked value rcs kept part e = ap (λ n. n == rcs) e

-- the bits that are copied
pub kept-copied : (kept : List Bool) (buffer front : List ℕ) (count whole : ℕ) → count ≤ 8 * whole
    → front ≡ take whole buffer → take count (octets buffer) ≡ kept
    → take count (octets front) ≡ kept
kept-copied kept buffer front count whole h e view = ap (λ bytes. take count (octets bytes)) e
    ∙ front-bits count whole buffer h ∙ view

-- as far as a part for which there was room is put in, at most 20,240 bits are kept
pub room-kept : (old now part more : List Bool) → now ++ more ≡ old ++ part
    → has_room old part ≡ true → length now ≤ 20240
room-kept old now part more e room =
    let sizes = ap length e in
    omega (arith, sizes, has-room old part room, length-append now more, length-append old part)
