-- RFC 8724, section 8.2.3: the reassembly check sequence is the CRC-32 of IEEE 802.3, the remainder
-- of a division of polynomials over the two numbers 0 and 1. A polynomial is the list of its
-- coefficients, the highest power first.
use Rattle.std.specs.Prelude.{ℕ, ◌+◌, ◌*◌, ◌/◌, ◌%◌, ◌==◌, zero, suc, Bool, true, false, not}
use Rattle.std.specs.Prelude.{if◌then◌else◌, List, [], ◌∷◌, ◌++◌, length, map, drop, replicate}
use Rattle.schc_bits.specs.Bits.{padded, bytes_of}

-- the power is one of the powers
unfoldable pub is_among : ℕ → List ℕ → Bool
is_among power [] = false
is_among power (first ∷ powers) = if power == first then true else is_among power powers

-- the coefficients of the powers below `count`, 1 at the powers that are named
unfoldable pub coefficients : ℕ → List ℕ → List Bool
coefficients zero powers = []
coefficients (suc count) powers = is_among count powers ∷ coefficients count powers

-- x^32 + x^26 + x^23 + .. + x^2 + x + 1
unfoldable pub divisor : List Bool
divisor = coefficients 33 (32 ∷ 26 ∷ 23 ∷ 22 ∷ 16 ∷ 12 ∷ 11 ∷ 10 ∷ 8 ∷ 7 ∷ 5 ∷ 4 ∷ 2 ∷ 1 ∷ 0 ∷ [])

abbrev pub bit_sum : Bool → Bool → Bool
bit_sum true true = false
bit_sum true false = true
bit_sum false bit = bit

-- the sum of two polynomials whose highest powers are the same; the longer list goes on behind the
-- shorter one. To add and to subtract is the same.
unfoldable pub plus : List Bool → List Bool → List Bool
plus [] ys = ys
plus (x ∷ xs) [] = x ∷ xs
plus (x ∷ xs) (y ∷ ys) = bit_sum x y ∷ plus xs ys

-- what is left of the dividend after `count` steps of the division: where its first coefficient is
-- 1, the divisor is taken away; then that coefficient is 0 and goes
unfoldable pub remainder : ℕ → List Bool → List Bool
remainder zero dividend = dividend
remainder (suc count) [] = []
remainder (suc count) (true ∷ rest) = remainder count (drop 1 (plus divisor (true ∷ rest)))
remainder (suc count) (false ∷ rest) = remainder count rest

-- the number in `count` bits, the lowest first
unfoldable pub low_bits : ℕ → ℕ → List Bool
low_bits zero number = []
low_bits (suc count) number = (number % 2 == 1) ∷ low_bits count (number / 2)

-- the number that the bits write, the lowest first
unfoldable pub low_value : List Bool → ℕ
low_value [] = 0
low_value (bit ∷ bits) = (if bit then 1 else 0) + 2 * low_value bits

-- the bits of each byte, the lowest first
unfoldable pub lowest_first : List ℕ → List Bool
lowest_first [] = []
lowest_first (byte ∷ bytes) = low_bits 8 byte ++ lowest_first bytes

-- 32 zeros are appended, and the first 32 bits are complemented
unfoldable pub dividend_of : List Bool → List Bool
dividend_of bits = plus (replicate 32 true) (bits ++ replicate 32 false)

-- the complement of the remainder; its highest coefficient is the lowest bit of the number
unfoldable pub check_of : List Bool → ℕ
check_of bits = low_value (map not (remainder (length bits) (dividend_of bits)))

-- RFC 8724, section 8.2.3: the reassembly check sequence of the bits, padded to whole bytes
unfoldable pub rcs_of : List Bool → ℕ
rcs_of bits = check_of (lowest_first (bytes_of (padded bits)))
