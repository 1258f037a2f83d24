-- The number that a target writes.
use Rattle.std.proofs.Common.{◌≡◌, ℕ, ◌+◌, ◌*◌, ◌<◌, min, Bool, false, List, length, take, get_or}
use Rattle.std.proofs.Common.{refl, arith}
use mir.Val.{bool_byte}
use Rattle.schc_bits.specs.Bits.{bits_value}
use Rattle.schc_bits.proofs.NumberBits.{bits_value-more}

-- one bit more of a number that stops at 255
pub small_value-more : (bits : List Bool) (i value digit : ℕ) → i < length bits
    → value ≡ min (bits_value (take i bits)) 255 → digit ≡ bool_byte (get_or bits i false)
    → min (2 * value + digit) 255 ≡ min (bits_value (take (i + 1) bits)) 255
small_value-more bits i value digit h v d =
    let more = bits_value-more bits i (bits_value (take i bits)) digit h refl d in
    rw (← more) (omega arith)
