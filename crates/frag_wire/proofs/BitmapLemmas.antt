-- What is sent of a bitmap, and what is read of it.
use Rattle.std.specs.Prelude.{ℕ, ◌≡◌, ◌≢◌, ◌+◌, ◌-◌, ◌*◌, ◌/◌, ◌%◌, ◌^◌, ◌==◌, ◌<◌, ◌≤◌, zero, suc}
use Rattle.std.specs.Prelude.{min, Bool, true, false, List, [], ◌∷◌, ◌++◌, length, take, drop}
use Rattle.std.specs.Prelude.{replicate}
use Rattle.std.proofs.Common.{arith, ap, refl, sym, subst, ◌∙◌, inl, inr}
use Rattle.std.proofs.lemmas.Bool.{cases_lt, eq-eqb, ne_eqb}
use Rattle.std.proofs.lemmas.List.{append_assoc, append-nil, length-drop, length-replicate}
use Rattle.std.proofs.lemmas.List.{length-take-le, take_all, take_at, take-append-le}
use Rattle.std.proofs.lemmas.List.{take-append-drop, take-replicate}
use Rattle.std.proofs.lemmas.Nat.{pow-add, pow_pos}
use Rattle.std.proofs.Math.Nat.{pow-suc, pow-le-pow_right, mod-eq_of_lt, mul-le-mul_right}
use Rattle.std.proofs.Math.Nat.{le-mul_of_pos_right, div-lt_iff_lt-mul}
use Rattle.std.proofs.Math.Seq.{take-append-add}
use Rattle.schc_bits.specs.Bits.{number_bits, bits_value, octets}
use Rattle.schc_bits.proofs.NumberBits.{length-number_bits, number_bits-append, bits_value-append}
use Rattle.schc_bits.proofs.NumberBits.{take-number_bits}
use Rattle.schc_bits.proofs.Octets.{length-octets}
use Rattle.frag_wire.specs.Fields.{number_in}
use Rattle.frag_wire.specs.Answers.{after_bit, after_last_zero, kept_length, kept_bits, bitmap_in}

-- a 1 behind changes nothing
after-one : (bits : List Bool) → after_last_zero (bits ++ true ∷ []) ≡ after_last_zero bits
after-one [] = refl
after-one (bit ∷ bits) = ap (after_bit bit) (after-one bits)

-- a 0 behind is the last
after-zero : (bits : List Bool) → after_last_zero (bits ++ false ∷ []) ≡ suc (length bits)
after-zero [] = refl
after-zero (bit ∷ bits) = ap (after_bit bit) (after-zero bits)

number_bits-last : (count number : ℕ)
    → number_bits (count + 1) number ≡ number_bits count (number / 2) ++ (number % 2 == 1) ∷ []
unfolding number_bits
number_bits-last count number =
    let half : number / 2 ^ 1 ≡ number / 2 = refl in
    let whole : number / 1 ≡ number = omega arith in
    number_bits-append count 1 number
    ∙ ap (λ n. number_bits count (number / 2) ++ (n % 2 == 1) ∷ []) whole

-- one step to the left over a 1
pub place-step : (place left : ℕ) → 0 < place → left % 2 ≡ 1
    → after_last_zero (number_bits (place - 1) (left / 2)) ≡ after_last_zero
    (number_bits place left)
place-step place left h one =
    let e : place - 1 + 1 ≡ place = omega arith in
    sym (after-one (number_bits (place - 1) (left / 2)))
    ∙ ap (λ bit. after_last_zero (number_bits (place - 1) (left / 2) ++ bit ∷ []))
    (sym (eq-eqb (left % 2) 1 one))
    ∙ ap after_last_zero (sym (number_bits-last (place - 1) left))
    ∙ ap (λ n. after_last_zero (number_bits n left)) e

-- no step over a 0
pub place-stop : (place left : ℕ) → 0 < place → left % 2 ≢ 1
    → place ≡ after_last_zero (number_bits place left)
place-stop place left h other =
    let e : place - 1 + 1 ≡ place = omega arith in
    let width : suc (length (number_bits (place - 1) (left / 2))) ≡ place =
    omega (arith, length-number_bits (place - 1) (left / 2)) in
    sym width
    ∙ sym (after-zero (number_bits (place - 1) (left / 2)))
    ∙ ap (λ bit. after_last_zero (number_bits (place - 1) (left / 2) ++ bit ∷ []))
    (sym (ne_eqb (left % 2) 1 other))
    ∙ ap after_last_zero (sym (number_bits-last (place - 1) left))
    ∙ ap (λ n. after_last_zero (number_bits n left)) e

-- of no bits the place after the last 0 bit is 0
pub place-none : (place left : ℕ) → place ≤ 0 → place ≡ after_last_zero (number_bits place left)
unfolding number_bits
place-none zero left h = refl
place-none (suc place) left h = absurd (omega arith)

-- from the place after the last 0 bit to the next boundary of a byte, or to the bitmap's end: so
-- many bits of an answer are sent
pub kept_length-is : (header window bitmap place : ℕ)
    → place ≡ after_last_zero (number_bits window bitmap)
    → min (8 * ((header + place + 7) / 8)) (header + window) ≡ kept_length header
    (number_bits window bitmap)
unfolding kept_length
kept_length-is header window bitmap place e =
    let width : window ≡ length (number_bits window bitmap) =
    sym (length-number_bits window bitmap) in
    ap (λ n. min (8 * ((header + n + 7) / 8)) (header + window)) e
    ∙ ap (λ n. min (8 * ((header + after_last_zero (number_bits window bitmap) + 7) / 8))
    (header + n)) width

-- the place is one of the bitmap
after_bit-within : (bit : Bool) (place most : ℕ) → place ≤ most → after_bit bit place ≤ suc most
after_bit-within true zero most h = omega arith
after_bit-within false zero most h = omega arith
after_bit-within true (suc place) most h = omega arith
after_bit-within false (suc place) most h = omega arith

after-within : (bits : List Bool) → after_last_zero bits ≤ length bits
after-within [] = omega arith
after-within (bit ∷ bits) =
    after_bit-within bit (after_last_zero bits) (length bits) (after-within bits)

after_bit-none : (bit : Bool) (place : ℕ) → after_bit bit place ≤ 0 → (bit ≡ true) × (place ≤ 0)
after_bit-none true zero h = (refl, omega arith)
after_bit-none false zero h = absurd (omega arith)
after_bit-none true (suc place) h = absurd (omega arith)
after_bit-none false (suc place) h = absurd (omega arith)

after_bit-below : (bit : Bool) (place most : ℕ) → after_bit bit place ≤ suc most → place ≤ most
after_bit-below true zero most h = omega arith
after_bit-below false zero most h = omega arith
after_bit-below true (suc place) most h = omega arith
after_bit-below false (suc place) most h = omega arith

-- what comes after the last 0 bit is ones
drop-ones : (bits : List Bool) (k : ℕ) → after_last_zero bits ≤ k
    → drop k bits ≡ replicate (length bits - k) true
drop-ones [] zero h = refl
drop-ones [] (suc k) h =
    let e : 0 ≡ 0 - suc k = omega arith in
    ap (λ n. replicate n true) e
drop-ones (bit ∷ bits) zero h =
    let none : (bit ≡ true) × (after_last_zero bits ≤ 0) =
    after_bit-none bit (after_last_zero bits) h in
    let rest : bits ≡ replicate (length bits - 0) true = drop-ones bits 0 none.1 in
    let all : length bits - 0 ≡ length bits = omega arith in
    let e : suc (length bits) ≡ suc (length bits) - 0 = omega arith in
    ap (λ b. b ∷ bits) none.0 ∙ ap (λ list. true ∷ list) (rest ∙ ap (λ n. replicate n true) all)
    ∙ ap (λ n. replicate n true) e
drop-ones (bit ∷ bits) (suc k) h =
    let e : suc (length bits) - suc k ≡ length bits - k = omega arith in
    drop-ones bits k (after_bit-below bit (after_last_zero bits) k h)
    ∙ ap (λ n. replicate n true) (sym e)

-- ones that were left out come back
take-ones : (bits : List Bool) (k : ℕ) → k ≤ length bits → after_last_zero bits ≤ k
    → take (length bits) (take k bits ++ replicate (length bits) true) ≡ bits
take-ones bits k h ones =
    let width : length (take k bits) ≡ k = length-take-le k bits h in
    let n : length bits ≡ length (take k bits) + (length bits - k) = omega (arith, width) in
    ap (λ m. take m (take k bits ++ replicate (length bits) true)) n
    ∙ take-append-add (take k bits) (replicate (length bits) true) (length bits - k)
    ∙ ap (λ list. take k bits ++ list)
    (take-replicate (length bits - k) (length bits) true (omega arith))
    ∙ ap (λ list. take k bits ++ list) (sym (drop-ones bits k ones))
    ∙ take-append-drop k bits

-- what is sent of an answer has all before the bitmap and each 0 of it, and no more than all of it
pub kept-bounds : (header : ℕ) (bits : List Bool) → (header ≤ kept_length header bits)
    × (kept_length header bits ≤ header + length bits)
    × (header + after_last_zero bits ≤ kept_length header bits)
unfolding kept_length
kept-bounds header bits =
    let within : after_last_zero bits ≤ length bits = after-within bits in
    (omega (arith, within), omega (arith, within), omega (arith, within))

-- an answer whose bitmap isn't sent to its end fills whole bytes
pub kept-boundary : (header : ℕ) (bits : List Bool) → kept_length header bits < header + length bits
    → kept_length header bits % 8 ≡ 0
unfolding kept_length
kept-boundary header bits h = omega arith

-- the bits before the bitmap and those of it that are sent are all that is sent of an answer
pub length-kept_bits : (header : ℕ) (bits : List Bool)
    → header + length (kept_bits header bits) ≡ kept_length header bits
unfolding kept_bits
length-kept_bits header bits =
    let bounds : (header ≤ kept_length header bits)
    × (kept_length header bits ≤ header + length bits)
    × (header + after_last_zero bits ≤ kept_length header bits) = kept-bounds header bits in
    omega (
      arith,
      length-take-le (kept_length header bits - header) bits (omega (arith, bounds.1)),
      bounds.0,
    )

-- what is sent of a bitmap, and the zero bits after it, are read as the bitmap
pub kept-reads : (header zeros : ℕ) (bits : List Bool)
    → zeros ≡ (8 - kept_length header bits % 8) % 8
    → bits ≡ take (length bits)
    ((kept_bits header bits ++ replicate zeros false) ++ replicate (length bits) true)
unfolding kept_bits
kept-reads header zeros bits z =
    let bounds : (header ≤ kept_length header bits)
    × (kept_length header bits ≤ header + length bits)
    × (header + after_last_zero bits ≤ kept_length header bits) = kept-bounds header bits in
    let k : ℕ = kept_length header bits - header in
    elim (cases_lt (kept_length header bits) (header + length bits)) [
      | inl short ↦
          let none : zeros ≡ 0 = omega (arith, z, kept-boundary header bits short) in
          sym
          (
          ap (λ n. take (length bits)
          ((take k bits ++ replicate n false) ++ replicate (length bits) true)) none
          ∙ ap (λ list. take (length bits) (list ++ replicate (length bits) true))
          (append-nil (take k bits))
          ∙ take-ones bits k (omega (arith, bounds.1)) (omega (arith, bounds.2))
          )
      | inr all ↦
          let whole : take k bits ≡ bits = take_all k bits (omega (arith, bounds.0)) in
          sym
          (
          ap (λ list. take (length bits)
          ((list ++ replicate zeros false) ++ replicate (length bits) true)) whole
          ∙ ap (λ list. take (length bits) list)
          (append_assoc bits (replicate zeros false) (replicate (length bits) true))
          ∙ take_at bits (replicate zeros false ++ replicate (length bits) true) (length bits) refl
          )
    ]

pub bits_value-ones : (count : ℕ) → bits_value (replicate count true) + 1 ≡ 2 ^ count
bits_value-ones zero = refl
bits_value-ones (suc count) =
    rw (length-replicate count true, pow-suc 2 count) (omega (arith, bits_value-ones count))

-- a number and ones after it
pub filled-value : (bits : List Bool) (number there size : ℕ)
    → number ≡ bits_value (take there bits) → there ≡ min (length bits) size
    → (number + 1) * 2 ^ (size - there) ≡ bits_value (take size (bits ++ replicate size true)) + 1
filled-value bits number there size e t =
    elim (cases_lt (length bits) size) [
      | inl short ↦
          let all : there ≡ length bits = omega arith in
          let n : size ≡ length bits + (size - length bits) = omega arith in
          let taken : take size (bits ++ replicate size true) ≡ bits ++ replicate
          (size - length bits) true =
          ap (λ m. take m (bits ++ replicate size true)) n
          ∙ take-append-add bits (replicate size true) (size - length bits)
          ∙ ap (λ list. bits ++ list) (take-replicate (size - length bits) size true (omega arith))
          in
          let whole : number ≡ bits_value bits = e ∙ ap (λ m. bits_value (take m bits)) all
          ∙ ap bits_value (take_all (length bits) bits (omega arith)) in
          let value : bits_value (bits ++ replicate (size - length bits) true) ≡ bits_value
          bits * 2 ^ (size - length bits) + bits_value (replicate (size - length bits) true) =
          bits_value-append bits (replicate (size - length bits) true)
          ∙ ap (λ m. bits_value bits * 2 ^ m + bits_value (replicate (size - length bits) true))
          (length-replicate (size - length bits) true)
          in
          rw (taken, value, whole, all) (omega (arith, bits_value-ones (size - length bits)))
      | inr long ↦
          let all : there ≡ size = omega arith in
          let none : size - there ≡ 0 = omega arith in
          let taken : take size (bits ++ replicate size true) ≡ take size bits =
          take-append-le size bits (replicate size true) long in
          let whole : number ≡ bits_value (take size bits) = e
          ∙ ap (λ m. bits_value (take m bits)) all in
          rw (taken, none, whole) (omega arith)
    ]

-- the shift loses no bit
pub filled-fits : (number there size : ℕ) → number < 2 ^ there → there ≤ size → size ≤ 63
    → ((number + 1) * 2 ^ (size - there) % 2 ^ 64 ≡ (number + 1) * 2 ^ (size - there))
    × (1 ≤ (number + 1) * 2 ^ (size - there))
filled-fits number there size h w s =
    let most : (number + 1) * 2 ^ (size - there) ≤ 2 ^ there * 2 ^ (size - there) =
    mul-le-mul_right (2 ^ (size - there)) (let l : number + 1 ≤ 2 ^ there = omega arith in l) in
    let whole : 2 ^ there * 2 ^ (size - there) ≡ 2 ^ size = sym (pow-add 2 there (size - there))
    ∙ (let e : there + (size - there) ≡ size = omega arith in ap (λ n. 2 ^ n) e) in
    let top : 2 ^ size ≤ 2 ^ 63 = pow-le-pow_right (omega arith) s in
    let some : number + 1 ≤ (number + 1) * 2 ^ (size - there) =
    le-mul_of_pos_right (number + 1) (pow_pos (size - there)) in
    (mod-eq_of_lt (omega (arith, most, whole, top)), omega (arith, some))

-- of a bitmap of at most 63 bits, the number in those that are there, filled up with ones, is what
-- the bitmap is read as
pub bitmap_in-value : (bytes : List ℕ) (from size there number : ℕ) → from ≤ 8 * length bytes
    → size ≤ 63 → there ≡ min (8 * length bytes - from) size → number ≡ number_in from there bytes
    → number < 2 ^ there
    → (number + 1) * 2 ^ (size - there) % 2 ^ 64 - 1 ≡ bitmap_in from size bytes
unfolding bitmap_in number_in
bitmap_in-value bytes from size there number h s t e b =
    let width : length (drop from (octets bytes)) ≡ 8 * length bytes - from =
    length-drop from (octets bytes) ∙ omega (arith, length-octets bytes) in
    let same : there ≡ min (length (drop from (octets bytes))) size = omega (arith, width) in
    omega (
      arith,
      filled-value (drop from (octets bytes)) number there size e same,
      (filled-fits number there size b (omega arith) s).0,
    )

-- the bits of the bitmap that are sent, as a number
pub kept-number : (header size bitmap count : ℕ) → bitmap < 2 ^ size
    → count ≡ kept_length header (number_bits size bitmap) - header → (count ≤ size)
    × (bitmap / 2 ^ (size - count) < 2 ^ count)
    × (number_bits count (bitmap / 2 ^ (size - count)) ≡ kept_bits header (number_bits size bitmap))
unfolding kept_bits
kept-number header size bitmap count h e =
    let bits : List Bool = number_bits size bitmap in
    let bounds : (header ≤ kept_length header bits)
    × (kept_length header bits ≤ header + length bits)
    × (header + after_last_zero bits ≤ kept_length header bits) = kept-bounds header bits in
    let within : count ≤ size = omega (arith, e, bounds.1, length-number_bits size bitmap) in
    let whole : count + (size - count) ≡ size = omega arith in
    let top : bitmap < 2 ^ count * 2 ^ (size - count) =
    subst (λ n. bitmap < n) (ap (λ n. 2 ^ n) (sym whole) ∙ pow-add 2 count (size - count)) h in (
      within,
      (div-lt_iff_lt-mul {k = 2 ^ (size - count)} {x = bitmap} {y = 2 ^ count}
          (pow_pos (size - count))).1 top,
      sym (take-number_bits count (size - count) bitmap)
          ∙ ap (λ n. take count (number_bits n bitmap)) whole ∙ ap (λ n. take n bits) e,
    )
