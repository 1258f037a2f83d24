-- The division, a bit and a byte at a time, over a word of 32 bits.
use Rattle.std.specs.Prelude.{ℕ, ◌≡◌, ◌+◌, ◌-◌, ◌*◌, ◌/◌, ◌%◌, ◌^◌, ◌==◌, ◌<◌, ◌≤◌, zero, suc, Bool}
use Rattle.std.specs.Prelude.{true, false, not, if◌then◌else◌, List, [], ◌∷◌, ◌++◌, length, map}
use Rattle.std.specs.Prelude.{drop, replicate}
use Rattle.std.specs.Int.Bits.{bit_xor, xor_zero_r}
use Rattle.std.proofs.Common.{arith, ap, refl, sym, subst, ◌∙◌}
use Rattle.std.proofs.lemmas.List.{length-append, append_assoc}
use Rattle.std.proofs.lemmas.Nat.{xor_shr, xor_mod, xor_lt, xor_comm}
use Rattle.std.proofs.Math.Nat.{pow-suc}
use Rattle.schc_bits.specs.Bits.{AreBytes}
use Rattle.rcs.specs.Division.{divisor, coefficients, is_among, bit_sum, plus, remainder, low_bits}
use Rattle.rcs.specs.Division.{low_value, lowest_first, dividend_of, check_of}
use Rattle.rcs.specs.Words.{bit_step, bit_steps, byte_step, word_after}

bit_sum-assoc : (a b c : Bool) → bit_sum (bit_sum a b) c ≡ bit_sum a (bit_sum b c)
bit_sum-assoc true true true = refl
bit_sum-assoc true true false = refl
bit_sum-assoc true false c = refl
bit_sum-assoc false b c = refl

plus-assoc : (xs ys zs : List Bool) → plus (plus xs ys) zs ≡ plus xs (plus ys zs)
unfolding plus
plus-assoc [] ys zs = refl
plus-assoc (x ∷ xs) [] zs = refl
plus-assoc (x ∷ xs) (y ∷ ys) [] = refl
plus-assoc (x ∷ xs) (y ∷ ys) (z ∷ zs) = rw (bit_sum-assoc x y z, plus-assoc xs ys zs) refl

parity : (x y : ℕ) → x < 2 → y < 2 → (bit_xor x y == 1) ≡ bit_sum (x == 1) (y == 1)
parity zero zero h k = refl
parity zero (suc zero) h k = refl
parity (suc zero) zero h k = refl
parity (suc zero) (suc zero) h k = refl
parity (suc (suc x)) y h k = absurd (omega (arith, h))
parity zero (suc (suc y)) h k = absurd (omega (arith, k))
parity (suc zero) (suc (suc y)) h k = absurd (omega (arith, k))

xor_parity : (a b : ℕ) → (bit_xor a b % 2 == 1) ≡ bit_sum (a % 2 == 1) (b % 2 == 1)
xor_parity a b = rw (xor_mod a b 1) (parity (a % 2) (b % 2) (omega arith) (omega arith))

-- the bits of a sum of words
pub low_bits-xor : (n a b : ℕ) → low_bits n (bit_xor a b) ≡ plus (low_bits n a) (low_bits n b)
unfolding low_bits plus
low_bits-xor zero a b = refl
low_bits-xor (suc n) a b = rw (xor_parity a b, xor_shr a b 1, low_bits-xor n (a / 2) (b / 2)) refl

-- the bits of 0 are all 0
pub low_bits-zero : (k : ℕ) → low_bits k 0 ≡ replicate k false
unfolding low_bits
low_bits-zero zero = refl
low_bits-zero (suc k) = rw (low_bits-zero k) refl

half : (v n : ℕ) → v < 2 ^ suc n → v / 2 < 2 ^ n
half v n h = let e : v < 2 ^ n * 2 = subst (λ m. v < m) (pow-suc 2 n) h in omega (arith, e)

low_bits-more : (n k v : ℕ) → v < 2 ^ n → low_bits (n + k) v ≡ low_bits n v ++ replicate k false
unfolding low_bits
low_bits-more zero k v h = let none : v ≡ 0 = omega (arith, h) in ap (λ n. low_bits (0 + k) n) none
    ∙ ap (λ n. low_bits n 0) (let e : 0 + k ≡ k = omega arith in e) ∙ low_bits-zero k
low_bits-more (suc n) k v h =
    ap (λ m. low_bits m v) (let e : suc n + k ≡ suc (n + k) = omega arith in e)
    ∙ ap (λ bits. (v % 2 == 1) ∷ bits) (low_bits-more n k (v / 2) (half v n h))

-- a number in n bits, the lowest first, is n bits
pub length-low_bits : (n v : ℕ) → length (low_bits n v) ≡ n
unfolding low_bits
length-low_bits zero v = refl
length-low_bits (suc n) v = rw (length-low_bits n (v / 2)) refl

-- zeros change nothing where the other list is as long
pub plus-zeros_left : (k : ℕ) (rest : List Bool) → k ≤ length rest
    → plus (replicate k false) rest ≡ rest
unfolding plus
plus-zeros_left zero rest h = refl
plus-zeros_left (suc k) [] h = absurd (omega (arith, h))
plus-zeros_left (suc k) (x ∷ rest) h = rw (plus-zeros_left k rest (omega (arith, h))) refl

bit_sum-false : (x : Bool) → bit_sum x false ≡ x
bit_sum-false true = refl
bit_sum-false false = refl

-- to add zeros, as many as there are coefficients, changes nothing
pub plus-zeros_right : (xs : List Bool) → plus xs (replicate (length xs) false) ≡ xs
unfolding plus
plus-zeros_right [] = refl
plus-zeros_right (x ∷ xs) = rw (bit_sum-false x, plus-zeros_right xs) refl

-- zeros behind the shorter list are nothing
plus-behind : (xs : List Bool) (k : ℕ) (rest : List Bool) → length xs + k ≤ length rest
    → plus (xs ++ replicate k false) rest ≡ plus xs rest
unfolding plus
plus-behind [] k rest h = plus-zeros_left k rest (omega (arith, h))
plus-behind (x ∷ xs) k [] h = absurd (omega (arith, h))
plus-behind (x ∷ xs) k (y ∷ rest) h =
    ap (λ zs. bit_sum x y ∷ zs) (plus-behind xs k rest (omega (arith, h)))

plus-front : (xs : List Bool) (k : ℕ) (rest : List Bool) → k ≤ length rest
    → plus (xs ++ replicate k false) (replicate (length xs) false ++ rest) ≡ xs ++ rest
unfolding plus
plus-front [] k rest h = plus-zeros_left k rest h
plus-front (x ∷ xs) k rest h = rw (bit_sum-false x, plus-front xs k rest h) refl

low_divisor : drop 1 divisor ≡ low_bits 32 3988292384
unfolding divisor coefficients is_among low_bits
low_divisor = refl

-- the divisor's first coefficient is 1
plus-divisor : (rest : List Bool)
    → drop 1 (plus divisor (true ∷ rest)) ≡ plus (low_bits 32 3988292384) rest
unfolding divisor coefficients is_among low_bits plus
plus-divisor rest = refl

choice : (b : Bool) → (if b then 3988292384 else 0) < 2 ^ 32
choice true = omega arith
choice false = omega arith

pub bit_step-below : (u : ℕ) → u < 2 ^ 32 → bit_step u < 2 ^ 32
unfolding bit_step
bit_step-below u h =
    xor_lt 32 (u / 2) (if u % 2 == 1 then 3988292384 else 0) (omega (arith, h))
    (choice (u % 2 == 1))

pub bit_steps-below : (n u : ℕ) → u < 2 ^ 32 → bit_steps n u < 2 ^ 32
unfolding bit_steps
bit_steps-below zero u h = h
bit_steps-below (suc n) u h = bit_steps-below n (bit_step u) (bit_step-below u h)

short_half : (u : ℕ) (rest : List Bool) → u < 2 ^ 32 → 32 ≤ length rest
    → plus (low_bits 31 (u / 2)) rest ≡ plus (low_bits 32 (u / 2)) rest
short_half u rest h l =
    sym (plus-behind (low_bits 31 (u / 2)) 1 rest (rw (length-low_bits 31 (u / 2)) l))
    ∙ ap (λ bits. plus bits rest) (sym (low_bits-more 31 1 (u / 2) (omega (arith, h))))

step_by : (bit : Bool) (half count : ℕ) (rest : List Bool)
    → remainder (suc count) (bit ∷ plus (low_bits 32 half) rest) ≡ remainder count
    (plus (low_bits 32 (bit_xor half (if bit then 3988292384 else 0))) rest)
unfolding remainder
step_by true half count rest =
    ap (λ bits. remainder count bits)
    (
    plus-divisor (plus (low_bits 32 half) rest)
    ∙ sym (plus-assoc (low_bits 32 3988292384) (low_bits 32 half) rest)
    ∙ ap (λ bits. plus bits rest) (sym (low_bits-xor 32 3988292384 half))
    ∙ ap (λ n. plus (low_bits 32 n) rest) (xor_comm 3988292384 half)
    )
step_by false half count rest =
    ap (λ n. remainder count (plus (low_bits 32 n) rest)) (sym (xor_zero_r half))

zero_front : (u : ℕ) (rest : List Bool)
    → plus (low_bits 32 u) (false ∷ rest) ≡ (u % 2 == 1) ∷ plus (low_bits 31 (u / 2)) rest
unfolding low_bits plus
zero_front u rest = ap (λ b. b ∷ plus (low_bits 31 (u / 2)) rest) (bit_sum-false (u % 2 == 1))

-- one step, where the dividend goes on with a zero
zero-step : (u count : ℕ) (rest : List Bool) → u < 2 ^ 32 → 32 ≤ length rest
    → remainder (suc count) (plus (low_bits 32 u) (false ∷ rest)) ≡ remainder count
    (plus (low_bits 32 (bit_step u)) rest)
unfolding bit_step
zero-step u count rest h l =
    ap (λ bits. remainder (suc count) bits)
    (zero_front u rest ∙ ap (λ bits. (u % 2 == 1) ∷ bits) (short_half u rest h l))
    ∙ step_by (u % 2 == 1) (u / 2) count rest

-- many steps
pub zero-steps : (n u count : ℕ) (rest : List Bool) → u < 2 ^ 32 → 32 ≤ length rest
    → remainder (n + count) (plus (low_bits 32 u) (replicate n false ++ rest)) ≡ remainder count
    (plus (low_bits 32 (bit_steps n u)) rest)
unfolding bit_steps
zero-steps zero u count rest h l =
    ap (λ n. remainder n (plus (low_bits 32 u) rest)) (let e : 0 + count ≡ count = omega arith in e)
zero-steps (suc n) u count rest h l =
    ap (λ m. remainder m (plus (low_bits 32 u) (replicate (suc n) false ++ rest)))
    (let e : suc n + count ≡ suc (n + count) = omega arith in e)
    ∙ zero-step u (n + count) (replicate n false ++ rest) h
    (rw (length-append (replicate n false) rest) (omega (arith, l)))
    ∙ zero-steps n (bit_step u) count rest (bit_step-below u h) l

-- the eight bits of a byte are added to the word
byte-in : (w v : ℕ) (rest : List Bool) → v < 256 → 32 ≤ length rest
    → plus (low_bits 32 w) (low_bits 8 v ++ rest) ≡ plus (low_bits 32 (bit_xor w v))
    (replicate 8 false ++ rest)
byte-in w v rest h l =
    let wide : low_bits 32 v ≡ low_bits 8 v ++ replicate 24 false = low_bits-more 8 24 v h in
    let front : plus (low_bits 8 v ++ replicate 24 false) (replicate 8 false ++ rest) ≡ low_bits 8
    v ++ rest =
    subst (λ n. plus (low_bits 8 v ++ replicate 24 false) (replicate n false ++ rest) ≡ low_bits 8
    v ++ rest) (length-low_bits 8 v)
    (plus-front (low_bits 8 v) 24 rest (omega (arith, l)))
    in
    ap (λ bits. plus (low_bits 32 w) bits)
    (sym front ∙ ap (λ bits. plus bits (replicate 8 false ++ rest)) (sym wide))
    ∙ sym (plus-assoc (low_bits 32 w) (low_bits 32 v) (replicate 8 false ++ rest))
    ∙ ap (λ bits. plus bits (replicate 8 false ++ rest)) (sym (low_bits-xor 32 w v))

pub byte_step-below : (w v : ℕ) → w < 2 ^ 32 → v < 256 → byte_step w v < 2 ^ 32
unfolding byte_step
byte_step-below w v h k = bit_steps-below 8 (bit_xor w v) (xor_lt 32 w v h (omega (arith, k)))

-- eight steps of the division, where a word is added to a byte and more behind it, are its step
pub byte-step : (w v count : ℕ) (rest : List Bool) → w < 2 ^ 32 → v < 256 → 32 ≤ length rest
    → remainder (8 + count) (plus (low_bits 32 w) (low_bits 8 v ++ rest)) ≡ remainder count
    (plus (low_bits 32 (byte_step w v)) rest)
unfolding byte_step
byte-step w v count rest h k l =
    ap (λ bits. remainder (8 + count) bits) (byte-in w v rest k l)
    ∙ zero-steps 8 (bit_xor w v) count rest (xor_lt 32 w v h (omega (arith, k))) l

pub word_after-below : (bytes : List ℕ) (w : ℕ) → w < 2 ^ 32 → AreBytes bytes
    → word_after w bytes < 2 ^ 32
unfolding word_after
word_after-below [] w h small = h
word_after-below (byte ∷ bytes) w h small =
    word_after-below bytes (byte_step w byte) (byte_step-below w byte h small.0) small.1

-- the word after more bytes is the one that they make of the word after the bytes before
pub word_after-append : (front back : List ℕ) (w : ℕ)
    → word_after w (front ++ back) ≡ word_after (word_after w front) back
unfolding word_after
word_after-append [] back w = refl
word_after-append (byte ∷ front) back w = word_after-append front back (byte_step w byte)

length-lowest_first : (bytes : List ℕ) → length (lowest_first bytes) ≡ 8 * length bytes
unfolding lowest_first
length-lowest_first [] = refl
length-lowest_first (byte ∷ bytes) =
    rw (length-append (low_bits 8 byte) (lowest_first bytes), length-low_bits 8 byte)
    (omega (arith, length-lowest_first bytes))

remainder-bytes : (bytes : List ℕ) (w : ℕ) → w < 2 ^ 32 → AreBytes bytes
    → remainder (length (lowest_first bytes))
    (plus (low_bits 32 w) (lowest_first bytes ++ replicate 32 false)) ≡ low_bits 32
    (word_after w bytes)
unfolding lowest_first remainder word_after
remainder-bytes [] w h small =
    subst (λ n. plus (low_bits 32 w) (replicate n false) ≡ low_bits 32 w) (length-low_bits 32 w)
    (plus-zeros_right (low_bits 32 w))
remainder-bytes (byte ∷ bytes) w h small =
    let count : length (low_bits 8 byte ++ lowest_first bytes) ≡ 8 + length (lowest_first bytes) =
    length-append (low_bits 8 byte) (lowest_first bytes)
    ∙ ap (λ n. n + length (lowest_first bytes)) (length-low_bits 8 byte)
    in
    let enough : 32 ≤ length (lowest_first bytes ++ replicate 32 false) =
    rw (length-append (lowest_first bytes) (replicate 32 false)) (omega arith) in
    ap (λ n. remainder n
    (plus (low_bits 32 w) ((low_bits 8 byte ++ lowest_first bytes) ++ replicate 32 false)))
    count
    ∙ ap (λ bits. remainder (8 + length (lowest_first bytes)) (plus (low_bits 32 w) bits))
    (append_assoc (low_bits 8 byte) (lowest_first bytes) (replicate 32 false))
    ∙ byte-step w byte (length (lowest_first bytes)) (lowest_first bytes ++ replicate 32 false) h
    small.0 enough
    ∙ remainder-bytes bytes (byte_step w byte) (byte_step-below w byte h small.0) small.1

ones : replicate 32 true ≡ low_bits 32 4294967295
unfolding low_bits
ones = refl

by_bit : (r x left : ℕ) (power : ℕ) → x % 2 ≡ r → left + x / 2 + 1 ≡ power
    → (if not (r == 1) then 1 else 0) + 2 * left + x + 1 ≡ power * 2
by_bit zero x left power e ih = omega (arith, e, ih)
by_bit (suc zero) x left power e ih = omega (arith, e, ih)
by_bit (suc (suc r)) x left power e ih = absurd (omega (arith, e))

-- the complement
complement : (n x : ℕ) → x < 2 ^ n → low_value (map not (low_bits n x)) + x + 1 ≡ 2 ^ n
unfolding low_value low_bits
complement zero x h = omega (arith, h)
complement (suc n) x h =
    rw (pow-suc 2 n)
    (by_bit (x % 2) x (low_value (map not (low_bits n (x / 2)))) (2 ^ n) refl
    (complement n (x / 2) (half x n h)))

-- the check of whole bytes, by the word
pub check_of-bytes : (bytes : List ℕ) → AreBytes bytes
    → check_of (lowest_first bytes) ≡ 2 ^ 32 - 1 - word_after 4294967295 bytes
unfolding check_of dividend_of
check_of-bytes bytes small =
    let left : remainder (length (lowest_first bytes))
    (plus (replicate 32 true) (lowest_first bytes ++ replicate 32 false)) ≡ low_bits 32
    (word_after 4294967295 bytes) =
    ap (λ bits. remainder (length (lowest_first bytes))
    (plus bits (lowest_first bytes ++ replicate 32 false))) ones
    ∙ remainder-bytes bytes 4294967295 (omega arith) small
    in
    let sum : low_value (map not (low_bits 32 (word_after 4294967295 bytes))) + word_after
    4294967295 bytes + 1 ≡ 2 ^ 32 =
    complement 32 (word_after 4294967295 bytes)
    (word_after-below bytes 4294967295 (omega arith) small)
    in
    rw left (omega (arith, sum))
