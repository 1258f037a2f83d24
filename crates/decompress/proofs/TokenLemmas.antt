-- The length of a token: more bytes than any list has are as good as all.
use Rattle.std.specs.Prelude.{ℕ, ◌/◌, Err, ◌≡◌, ◌+◌, ◌*◌, ◌<◌, ◌≤◌, min, Bool, false, List, length}
use Rattle.std.specs.Prelude.{take, get_or, ok_or}
use Rattle.std.proofs.Common.{arith, ap, refl}
use mir.Val.{bool_byte}
use Rattle.schc_bits.specs.Bits.{bits_value}
use Rattle.schc_bits.proofs.NumberBits.{bits_value-more}
use Rattle.schc_bits.proofs.Reading.{bits_at-short}
use Rattle.schc_ids.specs.declared.faults.ResidueFault.TheVariants.{Short}
use Rattle.decompress.specs.Reading.{taken_at}

-- one bit more of a number that stops at `most`
pub capped-more : (most : ℕ) (bits : List Bool) (i value digit : ℕ) → i < length bits
    → value ≡ min (bits_value (take i bits)) most → digit ≡ bool_byte (get_or bits i false)
    → min (2 * value + digit) most ≡ min (bits_value (take (i + 1) bits)) most
capped-more most bits i value digit h v d =
    let more = bits_value-more bits i (bits_value (take i bits)) digit h refl d in
    rw (← more) (omega arith)

-- more bytes than are left
pub taken_at-more : (most count bytes left : ℕ) (bits : List Bool) → bytes ≡ min count most
    → left ≡ length bits → left / 8 < bytes → taken_at (8 * count) bits ≡ Err Short
taken_at-more most count bytes left bits b l h =
    ap (λ found. ok_or found Short) (bits_at-short (8 * count) bits (omega arith))

-- as many bytes as are left, or fewer
pub taken_at-bytes : (most count bytes left : ℕ) (bits : List Bool) → bytes ≡ min count most
    → left < 8 * most → bytes ≤ left / 8 → taken_at (8 * count) bits ≡ taken_at (8 * bytes) bits
taken_at-bytes most count bytes left bits b l h = let same : count ≡ bytes = omega arith in
    ap (λ n. taken_at (8 * n) bits) same
