-- The lengths of the codes of sizes.
use Rattle.std.specs.Prelude.{ℕ, ◌≡◌, ◌<◌, ◌≤◌, length, ◌++◌}
use Rattle.std.proofs.lemmas.List.{length-append}
use Rattle.schc_bits.specs.Bits.{number_bits}
use Rattle.schc_bits.proofs.NumberBits.{length-number_bits}
use Rattle.rule_model.specs.Residue.{size_code}
use Rattle.rule_model.proofs.ResidueLemmas.{size_code-short, size_code-byte, size_code-long}

-- a size below 15 takes 4 bits
pub length-short : (size : ℕ) → size < 15 → 4 ≡ length (size_code size)
length-short size h = rw (size_code-short size h, length-number_bits 4 size)

-- a size of 15 to 254 takes 12 bits
pub length-byte : (size : ℕ) → 15 ≤ size → size < 255 → 12 ≡ length (size_code size)
length-byte size h k =
    rw (
      size_code-byte size h k,
      length-append (number_bits 4 15) (number_bits 8 size),
      length-number_bits 4 15,
      length-number_bits 8 size,
    )

-- a size from 255 on takes 28 bits
pub length-long : (size : ℕ) → 255 ≤ size → 28 ≡ length (size_code size)
length-long size h =
    rw (
      size_code-long size h,
      length-append (number_bits 4 15)
          (number_bits 8 255 ++ number_bits 16 size),
      length-append (number_bits 8 255)
          (number_bits 16 size),
      length-number_bits 4 15,
      length-number_bits 8 255,
      length-number_bits
          16 size,
    )
