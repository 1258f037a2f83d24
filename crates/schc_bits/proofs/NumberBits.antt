-- Numbers written in bits.
use Rattle.std.specs.Prelude.{ℕ, ◌≡◌, ◌+◌, ◌-◌, ◌*◌, ◌/◌, ◌%◌, ◌^◌, ◌==◌, ◌<◌, ◌≤◌, zero, suc, Bool}
use Rattle.std.specs.Prelude.{true, false, if◌then◌else◌, List, [], ◌∷◌, ◌++◌, length, get_or, take}
use Rattle.std.specs.Prelude.{drop, replicate}
use Rattle.std.proofs.Common.{arith, ap, refl, sym, ◌∙◌}
use Rattle.std.proofs.lemmas.List.{append-nil, length-append, take_more, take_at, drop_at}
use Rattle.std.proofs.lemmas.Nat.{pow-add, shr-shr, mod-pow-add, field_of, div-mul-add, mod-mul-add}
use Rattle.std.proofs.Math.Nat.{pow-suc, zero-div, mod-eq_of_lt}
use Rattle.std.proofs.Math.Pow.{pow_mono}
use mir.Val.{bool_byte}
use Rattle.schc_bits.specs.Bits.{number_bits, bits_value, octets}

-- the first bit, and those after it
pub number_bits-more : (count number : ℕ) → 0 < count
    → number_bits count number ≡ (number / 2 ^ (count - 1) % 2 == 1) ∷ number_bits (count - 1)
    number
unfolding number_bits
number_bits-more zero number h = absurd (omega arith)
number_bits-more (suc count) number h = rw (let e : suc count - 1 ≡ count = omega arith in e)

-- no bit is left
pub number_bits-done : (now old : List Bool) (left count number : ℕ) → left ≤ 0
    → now ++ number_bits left number ≡ old ++ number_bits count number
    → now ≡ old ++ number_bits count number
unfolding number_bits
number_bits-done now old zero count number h e = rw append-nil at e
number_bits-done now old (suc left) count number h e = absurd (omega arith)

-- a number written in `count` bits takes `count` bits
pub length-number_bits : (count number : ℕ) → length (number_bits count number) ≡ count
unfolding number_bits
length-number_bits zero number = refl
length-number_bits (suc count) number = ap suc (length-number_bits count number)

-- the high bits, then the low bits
pub number_bits-append : (high low number : ℕ)
    → number_bits (high + low) number ≡ number_bits high (number / 2 ^ low) ++ number_bits low
    number
unfolding number_bits
number_bits-append zero low number = rw (let e : 0 + low ≡ low = omega arith in e)
number_bits-append (suc high) low number =
    let e : suc high + low ≡ suc (high + low) = omega arith in
    let f : high + low ≡ low + high = omega arith in
    rw (e, number_bits-append high low number, f, shr-shr number low high)

-- a bit of the low part is that bit of the whole
low_bit : (number high low : ℕ) → number % 2 ^ (suc high + low) / 2 ^ low % 2 ≡ number / 2 ^ low % 2
low_bit number high low =
    let e : suc high ≡ high + 1 = omega arith in
    rw (field_of number (suc high) low, e, mod-pow-add (number / 2 ^ low) high 1) (omega arith)

-- bits above the lowest `count` are not written
number_bits-mod_more : (count more number : ℕ)
    → number_bits count (number % 2 ^ (more + count)) ≡ number_bits count number
unfolding number_bits
number_bits-mod_more zero more number = refl
number_bits-mod_more (suc count) more number =
    let e : more + suc count ≡ suc more + count = omega arith in
    rw (e, low_bit number more count, number_bits-mod_more count (suc more) number)

-- in `count` bits a number is written as its remainder by 2 ^ `count` is
pub number_bits-mod : (count number : ℕ)
    → number_bits count (number % 2 ^ count) ≡ number_bits count number
number_bits-mod count number =
    let e : 0 + count ≡ count = omega arith in
    rw e at (number_bits-mod_more count 0 number)

-- a bit at its place
bit_number : (n : ℕ) → n < 2 → (w : ℕ) → (if n == 1 then w else 0) ≡ n * w
bit_number zero h w = omega arith
bit_number (suc zero) h w = omega arith
bit_number (suc (suc n)) h w = absurd (omega arith)

-- what was written is the number, as far as the bits reach
pub bits_value-number_bits_mod : (count number : ℕ)
    → bits_value (number_bits count number) ≡ number % 2 ^ count
unfolding number_bits
bits_value-number_bits_mod zero number = omega arith
bits_value-number_bits_mod (suc count) number =
    let e : suc count ≡ 1 + count = omega arith in
    rw (
      length-number_bits count number,
      bits_value-number_bits_mod count number,
      bit_number
          (number / 2 ^ count % 2) (omega arith) (2 ^ count),
      e,
      mod-pow-add number 1 count,
    )

-- a number that fits is read as it was written
pub bits_value-number_bits : (count number : ℕ) → number < 2 ^ count
    → bits_value (number_bits count number) ≡ number
bits_value-number_bits count number h = bits_value-number_bits_mod count number ∙ mod-eq_of_lt h

-- the number that bits write is below 2 to the power of how many they are
pub bits_value-below : (bits : List Bool) → bits_value bits < 2 ^ length bits
bits_value-below [] = omega arith
bits_value-below (true ∷ bits) = rw (pow-suc 2 (length bits)) (omega (arith, bits_value-below bits))
bits_value-below (false ∷ bits) =
    rw (pow-suc 2 (length bits)) (omega (arith, bits_value-below bits))

first_bit : (bit : Bool) (w v : ℕ) → v < w → (((if bit then w else 0) + v) / w % 2 == 1) ≡ bit
first_bit true w v h =
    let e : w + v ≡ 1 * w + v = omega arith in
    rw (e, div-mul-add 1 w v h)
first_bit false w v h =
    let e : 0 + v ≡ 0 * w + v = omega arith in
    rw (e, div-mul-add 0 w v h)

later_bits : (bit : Bool) (w v : ℕ) → v < w → ((if bit then w else 0) + v) % w ≡ v
later_bits true w v h =
    let e : w + v ≡ 1 * w + v = omega arith in
    rw (e, mod-mul-add 1 w v h)
later_bits false w v h =
    let e : 0 + v ≡ 0 * w + v = omega arith in
    rw (e, mod-mul-add 0 w v h)

-- the bits are the writing of their number
pub number_bits-bits_value : (bits : List Bool) → number_bits (length bits) (bits_value bits) ≡ bits
unfolding number_bits
number_bits-bits_value [] = refl
number_bits-bits_value (bit ∷ bits) =
    let first : ((bits_value (bit ∷ bits)) / 2 ^ length bits % 2 == 1) ≡ bit =
    first_bit bit (2 ^ length bits) (bits_value bits) (bits_value-below bits) in
    let low : bits_value (bit ∷ bits) % 2 ^ length bits ≡ bits_value bits =
    later_bits bit (2 ^ length bits) (bits_value bits) (bits_value-below bits) in
    let same : number_bits (length bits) (bits_value (bit ∷ bits) % 2 ^ length bits) ≡ number_bits
    (length bits) (bits_value (bit ∷ bits)) =
    number_bits-mod (length bits) (bits_value (bit ∷ bits)) in
    let rest : number_bits (length bits) (bits_value bits) ≡ bits = number_bits-bits_value bits in
    cc

high_bit : (bit : Bool) (a b v w : ℕ)
    → (if bit then a * b else 0) + (v * b + w) ≡ ((if bit then a else 0) + v) * b + w
high_bit true a b v w = omega arith
high_bit false a b v w = omega arith

-- high bits with low ones behind them write the high number, moved up, plus the low one
pub bits_value-append : (high low : List Bool)
    → bits_value (high ++ low) ≡ bits_value high * 2 ^ length low + bits_value low
bits_value-append [] low = omega arith
bits_value-append (bit ∷ high) low =
    rw (length-append high low, pow-add 2 (length high) (length low), bits_value-append high low)
    (high_bit bit (2 ^ length high) (2 ^ length low) (bits_value high) (bits_value low))

-- one bit more at the end
pub bits_value-push : (bits : List Bool) (bit : Bool)
    → bits_value (bits ++ bit ∷ []) ≡ 2 * bits_value bits + (if bit then 1 else 0)
bits_value-push bits true = omega (arith, bits_value-append bits (true ∷ []))
bits_value-push bits false = omega (arith, bits_value-append bits (false ∷ []))

-- zero bits write 0, however many they are
pub bits_value-replicate_false : (count : ℕ) → bits_value (replicate count false) ≡ 0
bits_value-replicate_false zero = refl
bits_value-replicate_false (suc count) = omega (arith, bits_value-replicate_false count)

-- 0 is written in zero bits alone
pub number_bits-zero : (count : ℕ) → number_bits count 0 ≡ replicate count false
unfolding number_bits
number_bits-zero zero = refl
number_bits-zero (suc count) = rw (zero-div (2 ^ count), number_bits-zero count)

-- a bit as a byte is 0 or 1
pub bool_byte-below : (bit : Bool) → bool_byte bit ≤ 1
bool_byte-below true = omega arith
bool_byte-below false = omega arith

bool_byte-is : (bit : Bool) → (if bit then 1 else 0) ≡ bool_byte bit
bool_byte-is true = refl
bool_byte-is false = refl

-- the number of one bit more
pub bits_value-more : (bits : List Bool) (i number digit : ℕ) → i < length bits
    → number ≡ bits_value (take i bits) → digit ≡ bool_byte (get_or bits i false)
    → number * 2 + digit ≡ bits_value (take (i + 1) bits)
bits_value-more bits i number digit h e d =
    rw (
      take_more bits i false h,
      bits_value-push (take i bits) (get_or bits i false),
      bool_byte-is
          (get_or bits i false),
      d,
      e,
    ) (omega arith)

-- two numbers that fit are the same if they are written the same
pub number_bits-injective : (count first second : ℕ) → first < 2 ^ count → second < 2 ^ count
    → number_bits count first ≡ number_bits count second → first ≡ second
number_bits-injective count first second h k e = sym (bits_value-number_bits count first h)
    ∙ ap bits_value e ∙ bits_value-number_bits count second k

-- the first `high` bits of a number write it without its `low` lowest bits
pub take-number_bits : (high low number : ℕ)
    → take high (number_bits (high + low) number) ≡ number_bits high (number / 2 ^ low)
take-number_bits high low number =
    rw (number_bits-append high low number)
    (take_at (number_bits high (number / 2 ^ low)) (number_bits low number) high
    (length-number_bits high (number / 2 ^ low)))

-- behind the first `high` bits of a number stand its `low` lowest bits
pub drop-number_bits : (high low number : ℕ)
    → drop high (number_bits (high + low) number) ≡ number_bits low number
drop-number_bits high low number =
    rw (number_bits-append high low number)
    (drop_at (number_bits high (number / 2 ^ low)) (number_bits low number) high
    (length-number_bits high (number / 2 ^ low)))

-- two bytes, the more significant first
pub number_bits-two_bytes : (number : ℕ)
    → number_bits 16 number ≡ octets (number / 256 ∷ number % 256 ∷ [])
number_bits-two_bytes number =
    rw (
      number_bits-append 8 8 number,
      append-nil (number_bits 8 (number % 256)),
      number_bits-mod 8
          number,
    )

-- one bit
pub number_bits-bit : (bit : Bool) → number_bits 1 (bool_byte bit) ≡ bit ∷ []
unfolding number_bits
number_bits-bit true = refl
number_bits-bit false = refl

-- some bits of a byte write its quotient by the bits behind them, without the bits before them
pub within-bits : (byte first width low : ℕ) → first + (width + low) ≡ 8
    → number_bits width (byte / 2 ^ low % 2 ^ width) ≡ take width (drop first (number_bits 8 byte))
within-bits byte first width low e =
    number_bits-mod width (byte / 2 ^ low)
    ∙ sym (take-number_bits width low byte)
    ∙ ap (λ bits. take width bits) (sym (drop-number_bits first (width + low) byte))
    ∙ ap (λ n. take width (drop first (number_bits n byte))) e

-- a one that is moved up to at most 8 bits loses nothing in a word of 32 bits
pub one-shl : (k : ℕ) → k ≤ 8 → 1 * 2 ^ k % 4294967296 ≡ 2 ^ k
one-shl k h = let few : 2 ^ k ≤ 2 ^ 8 = pow_mono h in omega (arith, few)
