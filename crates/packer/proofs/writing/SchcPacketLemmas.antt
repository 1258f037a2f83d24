-- The RuleID of an SCHC packet.
use Rattle.std.specs.Prelude.{ℕ, ◌≡◌, ◌<◌, ◌≤◌, ◌==◌, Bool, false, nat_lt, List, ◌++◌, length, Some}
use Rattle.std.specs.Prelude.{None}
use Rattle.std.proofs.Common.{arith, ap, refl, inl, inr}
use Rattle.std.proofs.lemmas.Bool.{cases_Bool, or_parts, ltb-false}
use Rattle.std.proofs.lemmas.List.{length-append}
use Rattle.schc_bits.specs.Bits.{number_bits}
use Rattle.schc_bits.proofs.NumberBits.{length-number_bits}
use Rattle.rule_model.specs.declared.finding.FindingKind.TheVariants as kind
use Rattle.rule_model.specs.Data.{RuleData}
use Rattle.rule_model.specs.Findings.{id_out_of_range, place_of, IsAdmitted}

-- the RuleID of an admitted rule is in range
in_range : (rule : RuleData) → IsAdmitted rule → id_out_of_range rule ≡ false
in_range rule admitted =
    elim (cases_Bool (id_out_of_range rule)) [
      | inl t ↦ let there : place_of kind.IdOutOfRange rule ≡ Some 0 = rw t refl in
          let none : place_of kind.IdOutOfRange rule ≡ None = admitted kind.IdOutOfRange in
          absurd (cc)
      | inr f ↦ f
    ]

-- the RuleID of an admitted rule fits 8 bits
pub id-small : (rule : RuleData) → IsAdmitted rule → rule.id < 256
id-small rule admitted =
    omega (
      arith,
      ltb-false 223 rule.id
          (or_parts (rule.id == 0) (nat_lt 223 rule.id) (in_range rule admitted)).1,
    )

-- bits that begin with a RuleID
pub with_id : (front : List Bool) (id : ℕ) (bits : List Bool) → bits ≡ front ++ number_bits 8 id
    → 8 ≤ length bits
with_id front id bits e =
    omega (
      arith,
      ap (λ (bits : List Bool). length bits) e,
      length-append front (number_bits 8 id),
      length-number_bits 8 id,
    )

-- 8 bits or more are as many still with others behind them
pub with-more : (bits more longer : List Bool) → longer ≡ bits ++ more → 8 ≤ length bits
    → 8 ≤ length longer
with-more bits more longer e h =
    omega (arith, ap (λ (bits : List Bool). length bits) e, length-append bits more)
