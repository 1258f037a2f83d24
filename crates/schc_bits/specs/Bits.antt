-- RFC 8724, section 8: bits are sent most significant first.
use Rattle.std.specs.Prelude.{ℕ, ◌+◌, ◌-◌, ◌/◌, ◌%◌, ◌^◌, ◌==◌, ◌<◌, zero, suc, Bool, false}
use Rattle.std.specs.Prelude.{if◌then◌else◌, List, [], ◌∷◌, ◌++◌, length, take, drop, replicate}
use Rattle.std.specs.Prelude.{nat_le, Option, Some, None}
use Rattle.std.specs.List.{AllByRecursion}

-- the number, written in `count` bits, the most significant first
unfoldable pub number_bits : ℕ → ℕ → List Bool
number_bits zero number = []
number_bits (suc count) number = (number / 2 ^ count % 2 == 1) ∷ number_bits count number

-- the number that the bits write, the most significant first
abbrev pub bits_value : List Bool → ℕ
bits_value [] = 0
bits_value (bit ∷ bits) = (if bit then 2 ^ length bits else 0) + bits_value bits

-- eight bits a byte
abbrev pub octets : List ℕ → List Bool
octets [] = []
octets (byte ∷ bytes) = number_bits 8 byte ++ octets bytes

-- RFC 8724, section 9: the bits, with the fewest zero bits after them that make whole bytes
unfoldable pub padded : List Bool → List Bool
padded bits = bits ++ replicate ((8 - length bits % 8) % 8) false

-- the first `count` bytes of the bits
unfoldable pub first_bytes : ℕ → List Bool → List ℕ
first_bytes zero bits = []
first_bytes (suc count) bits = bits_value (take 8 bits) ∷ first_bytes count (drop 8 bits)

-- the whole bytes of the bits; up to seven bits behind the last one are left out
unfoldable pub bytes_of : List Bool → List ℕ
bytes_of bits = first_bytes (length bits / 8) bits

-- each number is a byte
abbrev pub AreBytes : List ℕ → Type 0
AreBytes bytes = AllByRecursion (λ byte. byte < 256) bytes

-- the next `count` bits, and the bits after them; none where fewer are there
unfoldable pub bits_at : ℕ → List Bool → Option (List Bool × List Bool)
bits_at count bits =
    if nat_le count (length bits) then Some (take count bits, drop count bits) else None

-- the number that the next `count` bits write, and the bits after them; none where fewer are there
unfoldable pub number_at : ℕ → List Bool → Option (ℕ × List Bool)
number_at count bits =
    if nat_le count (length bits) then Some (bits_value (take count bits), drop count bits)
    else None
