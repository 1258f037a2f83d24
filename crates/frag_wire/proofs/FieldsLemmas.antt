-- Numbers in the bits of some bytes.
use Rattle.std.specs.Prelude.{ℕ, ◌≡◌, ◌+◌, ◌-◌, ◌*◌, ◌/◌, ◌%◌, ◌^◌, ◌==◌, ◌<◌, ◌≤◌, zero, suc, Bool}
use Rattle.std.specs.Prelude.{false, List, [], ◌∷◌, ◌++◌, length, get_or, take, drop}
use Rattle.std.proofs.Common.{arith, ap, sym, subst, ◌∙◌, inl, inr}
use Rattle.std.proofs.lemmas.Bool.{cases_lt}
use Rattle.std.proofs.lemmas.List.{get_or_append_left, get_or-append_right, get_or-drop}
use Rattle.std.proofs.lemmas.List.{append_assoc, length-drop, length-take-le, take_at, drop_at}
use Rattle.std.proofs.lemmas.List.{take-append-drop}
use Rattle.std.proofs.Math.Nat.{pow-suc}
use mir.Val.{bool_byte}
use Rattle.schc_bits.specs.Bits.{number_bits, bits_value, octets}
use Rattle.schc_bits.proofs.NumberBits.{length-number_bits, bits_value-number_bits, bits_value-more}
use Rattle.schc_bits.proofs.NumberBits.{bits_value-below, number_bits-bits_value, bool_byte-below}
use Rattle.schc_bits.proofs.Octets.{length-octets}
use Rattle.frag_wire.specs.Fields.{number_in}

get_or-number_bits : (count number i : ℕ) → i < count
    → get_or (number_bits count number) i false ≡ (number / 2 ^ (count - 1 - i) % 2 == 1)
unfolding number_bits
get_or-number_bits zero number i h = absurd (omega arith)
get_or-number_bits (suc count) number zero h =
    let e : suc count - 1 - 0 ≡ count = omega arith in
    rw e
get_or-number_bits (suc count) number (suc i) h =
    let e : suc count - 1 - suc i ≡ count - 1 - i = omega arith in
    rw e (get_or-number_bits count number i (omega arith))

-- a bit of the bytes is a bit of one of them
pub get_or-octets : (bytes : List ℕ) (i : ℕ) → i < 8 * length bytes
    → (get_or bytes (i / 8) 0 / 2 ^ (7 - i % 8) % 2 == 1) ≡ get_or (octets bytes) i false
get_or-octets [] i h = absurd (omega arith)
get_or-octets (byte ∷ bytes) i h =
    elim (cases_lt i 8) [
      | inl first ↦
          let q : i / 8 ≡ 0 = omega arith in
          let r : 7 - i % 8 ≡ 8 - 1 - i = omega arith in
          rw (
            q,
            r,
            get_or_append_left (number_bits 8 byte) (octets bytes) false i
                (omega (arith, length-number_bits 8 byte)),
          ) (sym (get_or-number_bits 8 byte i first))
      | inr later ↦
          let q : i / 8 ≡ suc ((i - 8) / 8) = omega arith in
          let r : i % 8 ≡ (i - 8) % 8 = omega arith in
          rw (
            q,
            r,
            get_or-append_right (number_bits 8 byte) (octets bytes) 8 i false
                (length-number_bits 8 byte) (omega arith),
          ) (get_or-octets bytes (i - 8) (omega arith))
    ]

-- one bit more
pub number-more : (bytes : List ℕ) (from passed number digit : ℕ) (bit : Bool)
    → from + passed < 8 * length bytes
    → number ≡ bits_value (take passed (drop from (octets bytes)))
    → bit ≡ get_or (octets bytes) (from + passed) false → digit ≡ bool_byte bit
    → number * 2 + digit ≡ bits_value (take (passed + 1) (drop from (octets bytes)))
number-more bytes from passed number digit bit h e b d =
    bits_value-more (drop from (octets bytes)) passed number digit
    (omega (arith, length-drop from (octets bytes), length-octets bytes))
    e
    (d ∙ ap bool_byte (b ∙ sym (get_or-drop from (octets bytes) passed false)))

-- a number that fits its width, with one bit more, fits a width of one bit more
pub number-below : (passed number digit : ℕ) (bit : Bool) → number < 2 ^ passed
    → digit ≡ bool_byte bit → number * 2 + digit < 2 ^ (passed + 1)
number-below passed number digit bit h d =
    let e : 2 ^ (passed + 1) ≡ 2 ^ passed * 2 =
    rw (let e : passed + 1 ≡ suc passed = omega arith in e) (pow-suc 2 passed) in
    omega (arith, e, bool_byte-below bit)

-- a number that stands after other bits is found there
pub number_in-is : (bytes : List ℕ) (front rest : List Bool) (from count number : ℕ)
    → octets bytes ≡ front ++ number_bits count number ++ rest → length front ≡ from
    → number < 2 ^ count → number_in from count bytes ≡ number
unfolding number_in
number_in-is bytes front rest from count number e f h =
    ap (λ bits. bits_value (take count (drop from bits)))
    (e ∙ append_assoc front (number_bits count number) rest)
    ∙ ap (λ bits. bits_value (take count bits))
    (drop_at front (number_bits count number ++ rest) from f)
    ∙ ap bits_value
    (take_at (number_bits count number) rest count (length-number_bits count number))
    ∙ bits_value-number_bits count number h

-- the bits from a place on begin with the number that is found there
pub number_in-splits : (bytes : List ℕ) (from count : ℕ) → from + count ≤ 8 * length bytes
    → drop from (octets bytes) ≡ number_bits count (number_in from count bytes) ++ drop count
    (drop from (octets bytes))
unfolding number_in
number_in-splits bytes from count h =
    let bits : List Bool = drop from (octets bytes) in
    let width : length (take count bits) ≡ count =
    length-take-le count bits
    (omega (arith, length-drop from (octets bytes), length-octets bytes)) in
    let written : number_bits count (bits_value (take count bits)) ≡ take count bits =
    subst (λ w. number_bits w (bits_value (take count bits)) ≡ take count bits) width
    (number_bits-bits_value (take count bits))
    in
    rw written (sym (take-append-drop count bits))

-- a number that is read from bits that are all there fits in as many
pub number_in-below : (bytes : List ℕ) (from count : ℕ) → from + count ≤ 8 * length bytes
    → number_in from count bytes < 2 ^ count
unfolding number_in
number_in-below bytes from count h =
    let bits : List Bool = drop from (octets bytes) in
    let width : length (take count bits) ≡ count =
    length-take-le count bits
    (omega (arith, length-drop from (octets bytes), length-octets bytes)) in
    subst (λ w. bits_value (take count bits) < 2 ^ w) width (bits_value-below (take count bits))
