-- Hex digits of bits, and back.
use Rattle.std.specs.Prelude.{ℕ, ◌≡◌, ◌+◌, ◌-◌, ◌*◌, ◌/◌, ◌^◌, ◌<◌, ◌≤◌, zero, suc, Bool, true}
use Rattle.std.specs.Prelude.{false, List, [], ◌∷◌, ◌++◌, length, take, drop, replicate}
use Rattle.std.specs.Prelude.{slice_index, Some, None}
use Rattle.std.proofs.Common.{arith, ap, refl, sym, ◌∙◌, subst}
use Rattle.std.proofs.lemmas.Bool.{lt-ltb, le-ltb}
use Rattle.std.proofs.lemmas.List.{append_assoc, append-nil, length-append, length-replicate}
use Rattle.std.proofs.lemmas.List.{length-drop, length-take-le, take-append-drop, nil_from_length}
use Rattle.std.proofs.lemmas.Nat.{pow_pos}
use Rattle.hex.specs.Hex.{hex_digit_value, lower_digits}
use Rattle.hex.proofs.HexLemmas.{IsDigits-lower_digits}
use Rattle.schc_bits.specs.Bits.{number_bits, bits_value}
use Rattle.schc_bits.proofs.NumberBits.{bits_value-below, number_bits-bits_value, bits_value-append}
use Rattle.schc_bits.proofs.NumberBits.{bits_value-replicate_false}
use Rattle.rule_json.specs.Digits.{digit_bits, fitting, first_digits}

-- ---- numbers in a width

-- the number of some bits, in as many bits
pub fitting-own : (bits : List Bool) → fitting (length bits) (bits_value bits) ≡ Some bits
fitting-own bits =
    rw (
      lt-ltb (bits_value bits) (2 ^ length bits) (bits_value-below bits),
      number_bits-bits_value
          bits,
    )

-- zero bits in front don't change a number
pub bits_value-zeros : (count : ℕ) (bits : List Bool)
    → bits_value (replicate count false ++ bits) ≡ bits_value bits
bits_value-zeros count bits =
    rw (bits_value-append (replicate count false) bits, bits_value-replicate_false count)
    (omega arith)

length-zeros : (count : ℕ) (bits : List Bool)
    → length (replicate count false ++ bits) ≡ count + length bits
length-zeros count bits =
    rw (length-append (replicate count false) bits, length-replicate count false)

-- in more bits
pub fitting-wide : (width : ℕ) (bits : List Bool) → length bits ≤ width
    → fitting width (bits_value bits) ≡ Some (replicate (width - length bits) false ++ bits)
fitting-wide width bits h =
    let wide = replicate (width - length bits) false ++ bits in
    let long : length wide ≡ width = length-zeros (width - length bits) bits ∙ (omega arith) in
    subst (λ n. fitting width n ≡ Some wide) (bits_value-zeros (width - length bits) bits)
    (subst (λ w. fitting w (bits_value wide) ≡ Some wide) long (fitting-own wide))

-- no bit is set
abbrev AreZero : List Bool → Type 0
AreZero bits = bits ≡ replicate (length bits) false

zero_value : (bits : List Bool) → AreZero bits → bits_value bits ≡ 0
zero_value bits none =
    subst (λ these. bits_value these ≡ 0) (sym none) (bits_value-replicate_false (length bits))

some_value : (bits : List Bool) → ¬ AreZero bits → 0 < bits_value bits
some_value [] other = absurd (other refl)
some_value (true ∷ bits) other = omega (arith, pow_pos (length bits))
some_value (false ∷ bits) other =
    omega (arith, some_value bits (λ none. other (ap (λ these. false ∷ these) none)))

-- in fewer bits, where those that go are zero
pub fitting-narrow : (width : ℕ) (front rest : List Bool) → length rest ≡ width → AreZero front
    → fitting width (bits_value (front ++ rest)) ≡ Some rest
fitting-narrow width front rest long h =
    let same : bits_value (front ++ rest) ≡ bits_value rest =
    rw (bits_value-append front rest, zero_value front h) (omega arith) in
    rw (same, sym long) (fitting-own rest)

at_least : (a w v : ℕ) → 0 < a → w ≤ a * w + v
at_least zero w v h = absurd (omega arith)
at_least (suc a) w v h = omega arith

-- there is no room, where one of those that go isn't zero
pub fitting-over : (width : ℕ) (front rest : List Bool) → length rest ≡ width → ¬ AreZero front
    → fitting width (bits_value (front ++ rest)) ≡ None
fitting-over width front rest long h =
    let more : 2 ^ length rest ≤ bits_value front * 2 ^ length rest + bits_value rest =
    at_least (bits_value front) (2 ^ length rest) (bits_value rest) (some_value front h) in
    let past : 2 ^ width ≤ bits_value (front ++ rest) =
    rw (bits_value-append front rest, sym long) more in
    rw (le-ltb (bits_value (front ++ rest)) (2 ^ width) past)

-- the same, of bits that are cut at their last `width`
pub fitting-cut : (width : ℕ) (bits : List Bool) → width < length bits → (front : List Bool)
    → front ≡ take (length bits - width) bits
    → AreZero front → fitting width (bits_value bits) ≡ Some (drop (length bits - width) bits)
fitting-cut width bits h front cut none =
    let long : length (drop (length bits - width) bits) ≡ width =
    length-drop (length bits - width) bits ∙ (omega arith) in
    subst (λ whole. fitting width (bits_value whole) ≡ Some (drop (length bits - width) bits))
    (take-append-drop (length bits - width) bits)
    (fitting-narrow width (take (length bits - width) bits) (drop (length bits - width) bits) long
    (subst AreZero cut none))

-- bits don't fit in `width` bits, where one of those in front of their last `width` is 1
pub fitting-none : (width : ℕ) (bits : List Bool) → width < length bits → (front : List Bool)
    → front ≡ take (length bits - width) bits
    → ¬ AreZero front → fitting width (bits_value bits) ≡ None
fitting-none width bits h front cut some =
    let long : length (drop (length bits - width) bits) ≡ width =
    length-drop (length bits - width) bits ∙ (omega arith) in
    subst (λ whole. fitting width (bits_value whole) ≡ None)
    (take-append-drop (length bits - width) bits)
    (fitting-over width (take (length bits - width) bits) (drop (length bits - width) bits) long
    (subst (λ f. ¬ AreZero f) cut some))

-- ---- digits

pub first_digits-more : (bits : List Bool) → 4 ≤ length bits
    → first_digits (length bits / 4) bits ≡ slice_index lower_digits
    (bits_value (take 4 bits)) ∷ first_digits (length (drop 4 bits) / 4) (drop 4 bits)
unfolding first_digits
first_digits-more bits h =
    let count : length bits / 4 ≡ suc (length (drop 4 bits) / 4) =
    rw (length-drop 4 bits) (omega arith) in
    rw count

pub first_digits-none : (bits : List Bool) → length bits < 4
    → first_digits (length bits / 4) bits ≡ []
unfolding first_digits
first_digits-none bits h =
    let none : length bits / 4 ≡ 0 = omega arith in
    rw none

-- one digit on, after those that stand already
pub first_digits-next : (old : List ℕ) (rest first later : List Bool) (digit : ℕ) → 4 ≤ length rest
    → first ≡ take 4 rest → later ≡ drop 4 rest
    → digit ≡ bits_value first
    → (old ++ slice_index lower_digits digit ∷ []) ++ first_digits (length later / 4)
    later ≡ old ++ first_digits (length rest / 4) rest
first_digits-next old rest first later digit h f l d =
    rw (d, f, l, first_digits-more rest h) (append_assoc old _ _)

-- no digit is left
pub first_digits-done : (now : List ℕ) (rest bits : List Bool) → length rest < 4
    → now ++ first_digits (length rest / 4) rest ≡ first_digits (length bits / 4) bits
    → now ≡ first_digits (length bits / 4) bits
first_digits-done now rest bits h e = rw (first_digits-none rest h, append-nil) at e

-- there are as many digits as are asked for
pub length-first_digits : (count : ℕ) (bits : List Bool) → length (first_digits count bits) ≡ count
unfolding first_digits
length-first_digits zero bits = refl
length-first_digits (suc count) bits = ap suc (length-first_digits count (drop 4 bits))

-- a digit reads as the four bits that it was made of
digit-back : (four : List Bool) → length four ≡ 4
    → hex_digit_value (slice_index lower_digits (bits_value four)) ≡ Some (bits_value four)
digit-back four h =
    let below : bits_value four < 16 =
    subst (λ n. bits_value four < 2 ^ n) h (bits_value-below four) in
    IsDigits-lower_digits (bits_value four) below

four-back : (four : List Bool) → length four ≡ 4 → number_bits 4 (bits_value four) ≡ four
four-back four h =
    subst (λ n. number_bits n (bits_value four) ≡ four) h (number_bits-bits_value four)

-- the digits of whole digits read as the bits
pub digit_bits-first_digits : (count : ℕ) (bits : List Bool) → length bits ≡ 4 * count
    → digit_bits (first_digits count bits) ≡ Some bits
unfolding digit_bits first_digits
digit_bits-first_digits zero bits h = ap Some (sym (nil_from_length bits h))
digit_bits-first_digits (suc count) bits h =
    let four : length (take 4 bits) ≡ 4 = length-take-le 4 bits (omega arith) in
    let later : length (drop 4 bits) ≡ 4 * count = length-drop 4 bits ∙ (omega arith) in
    rw (
      digit-back (take 4 bits) four,
      digit_bits-first_digits count (drop 4 bits) later,
      four-back
          (take 4 bits) four,
      take-append-drop 4 bits,
    )
