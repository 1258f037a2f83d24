-- The eight steps of a byte, by the word of its lowest eight bits.
use Rattle.std.specs.Prelude.{ℕ, ◌≡◌, ◌+◌, ◌*◌, ◌/◌, ◌%◌, ◌^◌, ◌==◌, ◌<◌, ◌≤◌, zero, suc, false}
use Rattle.std.specs.Prelude.{if◌then◌else◌, List, ◌++◌, length, get_or, replicate}
use Rattle.std.specs.Int.Bits.{bit_xor, xor_assoc, xor_shifted}
use Rattle.std.proofs.Common.{arith, ap, refl, sym, subst, ◌∙◌}
use Rattle.std.proofs.lemmas.List.{length-append}
use Rattle.std.proofs.lemmas.Nat.{xor_shr, xor_mod}
use Rattle.std.proofs.Math.Nat.{pow-suc}
use Rattle.rcs.specs.Division.{plus, remainder, low_bits}
use Rattle.rcs.specs.Words.{bit_step, bit_steps, byte_step, words_from}
use Rattle.rcs.specs.declared.words.TheConstants.{TABLE}
use Rattle.rcs.proofs.Steps.{byte-step, low_bits-zero, length-low_bits, plus-zeros_left}
use Rattle.rcs.proofs.Steps.{plus-zeros_right}

-- what stands above the lowest bit goes through a step
step_above : (high low : ℕ) → bit_step (bit_xor (high * 2) low) ≡ bit_xor high (bit_step low)
unfolding bit_step
step_above high low =
    let even : high * 2 % 2 ^ 1 ≡ 0 = omega arith in
    let same : high * 2 / 2 ^ 1 ≡ high = omega arith in
    let lowest : bit_xor (high * 2) low % 2 ≡ low % 2 = xor_mod (high * 2) low 1
    ∙ ap (λ n. bit_xor n (low % 2)) even in
    let rest : bit_xor (high * 2) low / 2 ≡ bit_xor high (low / 2) = xor_shr (high * 2) low 1
    ∙ ap (λ n. bit_xor n (low / 2)) same in
    rw (lowest, rest) (xor_assoc high (low / 2) (if low % 2 == 1 then 3988292384 else 0))

steps_above : (n high low : ℕ)
    → bit_steps n (bit_xor (high * 2 ^ n) low) ≡ bit_xor high (bit_steps n low)
unfolding bit_steps
steps_above zero high low = let e : high * 2 ^ 0 ≡ high = omega arith in rw e refl
steps_above (suc n) high low =
    let e : high * 2 ^ suc n ≡ high * 2 ^ n * 2 = rw (pow-suc 2 n) (omega arith) in
    ap (λ m. bit_steps n (bit_step (bit_xor m low))) e
    ∙ ap (λ m. bit_steps n m) (step_above (high * 2 ^ n) low)
    ∙ steps_above n high (bit_step low)

pub eight-steps : (word : ℕ) → bit_steps 8 word ≡ bit_xor (word / 256) (bit_steps 8 (word % 256))
eight-steps word =
    let parts : bit_xor (word / 256 * 2 ^ 8) (word % 256) ≡ word =
    xor_shifted (word / 256) 8 (word % 256) (omega arith) ∙ omega arith in
    ap (λ n. bit_steps 8 n) (sym parts) ∙ steps_above 8 (word / 256) (word % 256)

pub words_from-at : (count first i default : ℕ) → i < count
    → get_or (words_from count first) i default ≡ bit_steps 8 (first + i)
unfolding words_from
words_from-at zero first i default h = absurd (omega (arith, h))
words_from-at (suc count) first zero default h = ap (λ n. bit_steps 8 n) (omega arith)
words_from-at (suc count) first (suc i) default h =
    words_from-at count (suc first) i default (omega (arith, h))
    ∙ ap (λ n. bit_steps 8 n) (omega arith)

-- the eight steps of a byte are the division of its bits
pub steps-divide : (byte : ℕ) → byte < 256
    → low_bits 32 (bit_steps 8 byte) ≡ remainder 8 (low_bits 8 byte ++ replicate 32 false)
unfolding byte_step remainder
steps-divide byte h =
    let enough : 32 ≤ length (low_bits 8 byte ++ replicate 32 false) =
    rw (length-append (low_bits 8 byte) (replicate 32 false)) (omega arith) in
    let none : plus (low_bits 32 0) (low_bits 8 byte ++ replicate 32 false) ≡ low_bits 8
    byte ++ replicate 32 false =
    ap (λ bits. plus bits (low_bits 8 byte ++ replicate 32 false)) (low_bits-zero 32)
    ∙ plus-zeros_left 32 (low_bits 8 byte ++ replicate 32 false) enough
    in
    let last : plus (low_bits 32 (bit_steps 8 byte)) (replicate 32 false) ≡ low_bits 32
    (bit_steps 8 byte) =
    subst (λ n. plus (low_bits 32 (bit_steps 8 byte)) (replicate n false) ≡ low_bits 32
    (bit_steps 8 byte)) (length-low_bits 32 (bit_steps 8 byte))
    (plus-zeros_right (low_bits 32 (bit_steps 8 byte)))
    in
    sym last ∙ sym (byte-step 0 byte 0 (replicate 32 false) (omega arith) h (omega arith))
    ∙ ap (λ bits. remainder 8 bits) none

table_is : TABLE ≡ words_from 256 0
unfolding words_from bit_steps bit_step
table_is = refl

-- at each number below 256 the table has the word that the eight steps make of it
pub table-at : (k default : ℕ) → k < 256 → get_or TABLE k default ≡ bit_steps 8 k
table-at k default h =
    ap (λ (words : List ℕ). get_or words k default) table_is ∙ words_from-at 256 0 k default h
    ∙ ap (λ n. bit_steps 8 n) (let e : 0 + k ≡ k = omega arith in e)

-- the step of a byte, by the table's word at the lowest eight bits of word and byte summed
pub table-step : (word byte mixed : ℕ) → mixed ≡ bit_xor word byte
    → bit_xor (mixed / 256) (get_or TABLE (mixed % 256) 0) ≡ byte_step word byte
unfolding byte_step
table-step word byte mixed e =
    ap (λ n. bit_xor (mixed / 256) n) (table-at (mixed % 256) 0 (omega arith))
    ∙ sym (eight-steps mixed) ∙ ap (λ n. bit_steps 8 n) e
