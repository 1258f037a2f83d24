-- Bits against the number that they write.
use Rattle.std.specs.Prelude.{ℕ, ◌≡◌, ◌^◌, ◌<◌, ◌==◌, Bool, List, length}
use Rattle.std.proofs.Common.{ap, sym, ◌∙◌}
use Rattle.std.proofs.lemmas.Bool.{eqb-true, eq-eqb}
use Rattle.schc_bits.specs.Bits.{number_bits, bits_value}
use Rattle.schc_bits.proofs.NumberBits.{length-number_bits, bits_value-number_bits}
use Rattle.schc_bits.proofs.NumberBits.{number_bits-bits_value}
use Rattle.rule_model.specs.Findings.{same_bits}
use Rattle.rule_model.proofs.ResidueLemmas.{same_bits-is}

-- bits of the right length are the number's, exactly where the number that is read from them is the
-- number
pub number-read : (value : List Bool) (width number read : ℕ) → number < 2 ^ width
    → length value ≡ width → read ≡ bits_value value
    → (read == number) ≡ same_bits (number_bits width number) value
number-read value width number read fits long e =
    same_bits-is (number_bits width number) value (read == number) (
      λ h.
          let same : bits_value value ≡ number = sym e ∙ eqb-true read number h in
          let written : number_bits (length value) (bits_value value) ≡ value =
          number_bits-bits_value value in
          let in_width : number_bits width number ≡ value = rw (long, same) at written in
          in_width,
      λ h. eq-eqb read number
          (e ∙ ap bits_value (sym h) ∙ bits_value-number_bits width number fits),
    )

-- bits of another length are not the number's
pub number-long : (value : List Bool) (width number read : ℕ) (b : Bool) → read ≡ length value
    → ((read == width) ≡ b) → ¬ (read ≡ width) → b ≡ same_bits (number_bits width number) value
number-long value width number read b e t other =
    same_bits-is (number_bits width number) value b (
      λ h. absurd (other (eqb-true read width (t ∙ h))),
      λ h. absurd
          (other (e ∙ ap length (sym h) ∙ length-number_bits width number)),
    )
