-- Numbers in the bits of some bytes.
use Rattle.std.specs.Prelude.{ℕ, List, take, drop}
use Rattle.schc_bits.specs.Bits.{bits_value, octets}

-- the number in the `count` bits from the bit `from` on
unfoldable pub number_in : ℕ → ℕ → List ℕ → ℕ
number_in from count bytes = bits_value (take count (drop from (octets bytes)))
