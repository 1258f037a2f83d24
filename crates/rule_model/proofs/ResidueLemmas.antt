-- The width of an index, and the codes of sizes.
use Rattle.std.specs.Prelude.{ℕ, ◌≡◌, ◌+◌, ◌-◌, ◌*◌, ◌/◌, ◌%◌, ◌^◌, ◌<◌, ◌≤◌, ◌↔◌, zero, suc, Bool}
use Rattle.std.specs.Prelude.{true, false, not, nat_le, List, [], ◌∷◌, Option, Some, None, position}
use Rattle.std.specs.Prelude.{unwrap_or, ◌⊎◌, ◌++◌, length, get_or}
use Rattle.std.specs.List.{range_with_len}
use Rattle.std.proofs.Common.{arith, ap, refl, sym, ◌∙◌, subst, inl, inr}
use Rattle.std.proofs.lemmas.Bool.{cases_Bool, cases_lt, le-leb, lt-leb, leb-true, leb-false}
use Rattle.std.proofs.lemmas.Bool.{lt-ltb, le-ltb}
use Rattle.std.proofs.lemmas.List.{append_assoc}
use Rattle.std.proofs.lemmas.List.FromFn.{length-range_with_len, get_or-range_with_len}
use Rattle.std.proofs.lemmas.List.Quantifiers.{position-Some}
use Rattle.std.proofs.lemmas.List.Sums.{prefix_len-le-length, position_or_len_is, passes_at_first}
use Rattle.std.proofs.lemmas.List.Sums.{fails_before_first}
use Rattle.std.proofs.Math.Nat.{pow-suc, pow-le-pow_right}
use Rattle.schc_bits.specs.Bits.{number_bits}
use Rattle.schc_bits.proofs.NumberBits.{number_bits-append, number_bits-mod}
use Rattle.rule_model.specs.Findings.{same_bits}
use Rattle.rule_model.specs.Residue.{index_width, index_of, size_code}

-- a number has no more bits than itself
below_pow : (n : ℕ) → n < 2 ^ n
below_pow zero = omega arith
below_pow (suc n) = rw (pow-suc 2 n) (omega (arith, below_pow n))

-- at a width of the list the test is that of the width
fits_at : (count k d : ℕ) → k < count → get_or (range_with_len 0 count) k d ≡ k
fits_at count k d h = get_or-range_with_len 0 count k d h ∙ omega arith

-- the width at which `count` fits and below which it doesn't
pub index_width-is : (count width : ℕ) → count ≤ 2 ^ width → ((k : ℕ) → k < width → 2 ^ k < count)
    → index_width count ≡ width
unfolding index_width
index_width-is count width h below =
    let n : length (range_with_len 0 count) ≡ count = length-range_with_len 0 count in
    let within : width ≤ count =
    elim (cases_lt count width) [
      | inl l ↦ absurd (omega (arith, below count l, below_pow count))
      | inr l ↦ l
    ]
    in
    position_or_len_is (λ w. nat_le count (2 ^ w)) (range_with_len 0 count) width 0 (omega arith)
    (λ k l. rw (fits_at count k 0 (omega arith)) (lt-leb count (2 ^ k) (below k l)))
    (λ l. rw (fits_at count width 0 (omega arith)) (le-leb count (2 ^ width) h))

-- all indices below `count` fit
pub index_width-fits : (count : ℕ) → count ≤ 2 ^ index_width count
unfolding index_width
index_width-fits count =
    let n : length (range_with_len 0 count) ≡ count = length-range_with_len 0 count in
    elim (cases_lt (index_width count) count) [
      | inl l ↦
          leb-true _ _
          (subst (λ w. nat_le count (2 ^ w) ≡ true) (fits_at count (index_width count) 0 l)
          (passes_at_first (λ w. nat_le count (2 ^ w)) (range_with_len 0 count) 0
          (omega arith)))
      | inr l ↦
          let more : 2 ^ count ≤ 2 ^ index_width count = pow-le-pow_right (omega arith) l in
          omega (arith, below_pow count)
    ]

-- and in no fewer bits
pub index_width-fewest : (count width : ℕ) → count ≤ 2 ^ width → index_width count ≤ width
unfolding index_width
index_width-fewest count width h =
    let n : length (range_with_len 0 count) ≡ count = length-range_with_len 0 count in
    elim (cases_lt width (index_width count)) [
      | inl l ↦
          let most : index_width count ≤ length (range_with_len 0 count) =
          prefix_len-le-length (λ w. not (nat_le count (2 ^ w))) (range_with_len 0 count) in
          let same : get_or (range_with_len 0 count) width 0 ≡ width =
          fits_at count width 0 (omega arith) in
          let fails : nat_le count (2 ^ width) ≡ false =
          subst (λ w. nat_le count (2 ^ w) ≡ false) same
          (fails_before_first (λ w. nat_le count (2 ^ w)) (range_with_len 0 count) width 0 l)
          in
          let less : 2 ^ width < count = leb-false _ _ fails in
          absurd (omega arith)
      | inr l ↦ l
    ]

-- the width by the highest bit of the last index
pub index_width-from_last : (count high : ℕ) → 1 < count → 2 ^ high ≤ count - 1
    → count - 1 < 2 * 2 ^ high → high + 1 ≡ index_width count
index_width-from_last count high h low top =
    let one : high + 1 ≡ suc high = omega arith in
    let e : 2 ^ (high + 1) ≡ 2 * 2 ^ high = rw one (omega (arith, pow-suc 2 high)) in
    sym (index_width-is count (high + 1) (omega arith)
    (λ k l. let less : 2 ^ k ≤ 2 ^ high =
    pow-le-pow_right (omega arith) (let m : k ≤ high = omega arith in m) in omega arith))

-- one target needs no bits
pub index_width-one : (count : ℕ) → count ≤ 1 → 0 ≡ index_width count
index_width-one count h = sym (index_width-is count 0 (omega arith) (λ k l. absurd (omega arith)))

-- the test of two lists of bits
pub same_bits-true : (xs ys : List Bool) → same_bits xs ys ≡ true → xs ≡ ys
same_bits-true [] [] h = refl
same_bits-true [] (y ∷ ys) h = absurd cc
same_bits-true (x ∷ xs) [] h = absurd cc
same_bits-true (true ∷ xs) (true ∷ ys) h = ap (λ zs. true ∷ zs) (same_bits-true xs ys h)
same_bits-true (true ∷ xs) (false ∷ ys) h = absurd cc
same_bits-true (false ∷ xs) (true ∷ ys) h = absurd cc
same_bits-true (false ∷ xs) (false ∷ ys) h = ap (λ zs. false ∷ zs) (same_bits-true xs ys h)

-- each list of bits passes the test with itself
pub same_bits-itself : (xs : List Bool) → same_bits xs xs ≡ true
same_bits-itself [] = refl
same_bits-itself (true ∷ xs) = same_bits-itself xs
same_bits-itself (false ∷ xs) = same_bits-itself xs

-- a test that is true exactly for equal lists
pub same_bits-is : (xs ys : List Bool) (b : Bool) → (b ≡ true) ↔ (xs ≡ ys) → b ≡ same_bits xs ys
same_bits-is xs ys true h =
    sym (subst (λ zs. same_bits xs zs ≡ true) (h.0 refl) (same_bits-itself xs))
same_bits-is xs ys false h =
    elim (cases_Bool (same_bits xs ys)) [
      | inl e ↦ h.1 (same_bits-true xs ys e) ∙ sym e
      | inr e ↦ sym e
    ]

-- a size below 15
pub size_code-short : (size : ℕ) → size < 15 → size_code size ≡ number_bits 4 size
unfolding size_code
size_code-short size h = rw (lt-ltb size 15 h)

-- a size below 255: four ones, and a byte
pub size_code-byte : (size : ℕ) → 15 ≤ size → size < 255
    → size_code size ≡ number_bits 4 15 ++ number_bits 8 size
unfolding size_code number_bits
size_code-byte size h k = rw (le-ltb size 15 h, lt-ltb size 255 k)

-- a size from 255 on: four ones and eight ones, and two bytes
pub size_code-long : (size : ℕ) → 255 ≤ size
    → size_code size ≡ number_bits 4 15 ++ (number_bits 8 255 ++ number_bits 16 size)
unfolding size_code number_bits
size_code-long size h = rw (le-ltb size 15 (omega arith), le-ltb size 255 h)

-- both at once
pub size_code-twelve : (size : ℕ) → 15 ≤ size → size < 255
    → size_code size ≡ number_bits 12 (3840 + size)
size_code-twelve size h k =
    let high : (3840 + size) / 2 ^ 8 ≡ 15 = omega arith in
    let low : (3840 + size) % 2 ^ 8 ≡ size = omega arith in
    size_code-byte size h k
    ∙ sym (number_bits-append 4 8 (3840 + size)
    ∙ rw (high, ← number_bits-mod 8 (3840 + size), low))

-- a size from 255 to 65,535, its twelve ones and two bytes as one number of 28 bits
pub size_code-twenty_eight : (size : ℕ) → 255 ≤ size → size ≤ 65535
    → size_code size ≡ number_bits 28 (268369920 + size)
unfolding number_bits
size_code-twenty_eight size h k =
    let high : (268369920 + size) / 2 ^ 16 ≡ 4095 = omega arith in
    let low : (268369920 + size) % 2 ^ 16 ≡ size = omega arith in
    size_code-long size h
    ∙ sym (append_assoc (number_bits 4 15) (number_bits 8 255) (number_bits 16 size))
    ∙ ap (λ ones. ones ++ number_bits 16 size) (sym (number_bits-append 4 8 4095))
    ∙ sym (number_bits-append 12 16 (268369920 + size)
    ∙ rw (high, ← number_bits-mod 16 (268369920 + size), low))

index_cases : (targets : List (List Bool)) (value : List Bool) (found : Option ℕ)
    → position (λ target. same_bits target value) targets ≡ found
    → ((unwrap_or found 0 < length targets)
    × (same_bits (get_or targets (unwrap_or found 0) []) value ≡ true)) ⊎ (found ≡ None)
index_cases targets value None e = inr refl
index_cases targets value (Some i) e = let at =
    position-Some (λ target. same_bits target value) targets i [] e in inl (at.0, at.1)

-- the index of a value that is a target; or else no target is the value
pub index_of-cases : (targets : List (List Bool)) (value : List Bool)
    → ((index_of targets value < length targets)
    × (same_bits (get_or targets (index_of targets value) []) value ≡ true))
    ⊎ (position (λ target. same_bits target value) targets ≡ None)
index_of-cases targets value =
    index_cases targets value (position (λ target. same_bits target value) targets) refl

-- the index fits its width
pub index_of-fits : (targets : List (List Bool)) (value : List Bool)
    → index_of targets value < 2 ^ index_width (length targets)
index_of-fits targets value =
    elim (index_of-cases targets value) [
      | inl h ↦ omega (arith, index_width-fits (length targets), h.0)
      | inr h ↦
          let index : index_of targets value ≡ 0 = ap (λ found. unwrap_or found 0) h in
          omega (arith, below_pow (index_width (length targets)))
    ]
