-- What is read is what was written: bits, numbers and sizes.
use Rattle.std.specs.Prelude.{ℕ, ◌≡◌, ◌≢◌, ◌^◌, ◌<◌, ◌≤◌, Bool, List, ◌++◌, length, Option, Some}
use Rattle.std.specs.Prelude.{None, Result, Ok, Err, ok_or}
use Rattle.std.proofs.Common.{arith, ap, refl, sym, ◌∙◌, inl, inr}
use Rattle.std.proofs.lemmas.Bool.{cases_eq, cases_lt, lt-ltb, le-ltb, eq-eqb, ne_eqb}
use Rattle.std.proofs.lemmas.List.{append_assoc}
use Rattle.schc_bits.specs.Bits.{number_bits, bits_at, number_at}
use Rattle.schc_bits.proofs.Reading.{bits_at-again, bits_at-takes, number_at-again, number_at-takes}
use Rattle.schc_ids.specs.declared.faults.ResidueFault.{ResidueFault}
use Rattle.schc_ids.specs.declared.faults.ResidueFault.TheVariants.{Short, NonMinimalSize}
use Rattle.rule_model.specs.Residue.{size_code}
use Rattle.rule_model.proofs.ResidueLemmas.{size_code-short, size_code-byte, size_code-long}
use Rattle.decompress.specs.Reading.{then_read, taken_at, counted_at, minimal, long_size_at}
use Rattle.decompress.specs.Reading.{byte_size_from, size_from, size_at}

-- what is read at once is one
pub ok-parts : {A E : Type 0} → (read : Result (A × List Bool) E) (a c : A) (b d : List Bool)
    → read ≡ Ok (a, b) → read ≡ Ok (c, d) → (a ≡ c) × (b ≡ d)
ok-parts {A} read a c b d e f =
    let parts : (a, b) ≡ (c, d) = cc in
    (ap (λ (p : A × List Bool). p.0) parts, ap (λ (p : A × List Bool). p.1) parts)

-- what goes on was read
pub then_read-ok : {A B : Type 0}
    → (read : Result (A × List Bool) ResidueFault)
    (next : A → List Bool → Result (B × List Bool) ResidueFault) (x : B) (rest : List Bool)
    → then_read read next ≡ Ok (x, rest) → (r : A × List Bool) × (read ≡ Ok r)
    × (next r.0 r.1 ≡ Ok (x, rest))
then_read-ok (Err fault) next x rest e = absurd (cc)
then_read-ok (Ok r) next x rest e = (r, refl, e)

ok_or-ok : {A : Type 0} → (found : Option A) (x : A) → ok_or found Short ≡ Ok x → found ≡ Some x
ok_or-ok None x e = absurd (cc)
ok_or-ok (Some y) x e = cc

-- so many bits in front of others are taken, and the others are left
pub taken_at-again : (count : ℕ) (front rest : List Bool) → length front ≡ count
    → taken_at count (front ++ rest) ≡ Ok (front, rest)
taken_at-again count front rest h =
    ap (λ found. ok_or found Short) (bits_at-again count front rest h)

-- the bits that are taken stood in front of those left, and are as many as was asked for
pub taken_at-takes : (count : ℕ) (bits front rest : List Bool)
    → taken_at count bits ≡ Ok (front, rest) → (bits ≡ front ++ rest) × (length front ≡ count)
taken_at-takes count bits front rest e =
    bits_at-takes count bits front rest (ok_or-ok (bits_at count bits) (front, rest) e)

-- a number that was written in a width that it fits is read, and the bits after it are left
pub counted_at-again : (count number : ℕ) (rest : List Bool) → number < 2 ^ count
    → counted_at count (number_bits count number ++ rest) ≡ Ok (number, rest)
counted_at-again count number rest h =
    ap (λ found. ok_or found Short) (number_at-again count number rest h)

-- a number that is read in a width stood there in it, and fits it
pub counted_at-takes : (count : ℕ) (bits : List Bool) (number : ℕ) (rest : List Bool)
    → counted_at count bits ≡ Ok (number, rest) → (bits ≡ number_bits count number ++ rest)
    × (number < 2 ^ count)
counted_at-takes count bits number rest e =
    number_at-takes count bits number rest (ok_or-ok (number_at count bits) (number, rest) e)

-- a size in each of its forms is read back
size-short : (size : ℕ) (rest : List Bool) → size < 15
    → size_at (number_bits 4 size ++ rest) ≡ Ok (size, rest)
unfolding size_at
size-short size rest h =
    rw (counted_at-again 4 size rest (omega arith), ne_eqb size 15 (λ e. omega arith))

size-byte : (size : ℕ) (rest : List Bool) → 15 ≤ size → size < 255
    → size_at (number_bits 4 15 ++ (number_bits 8 size ++ rest)) ≡ Ok (size, rest)
unfolding size_at
size-byte size rest h k =
    rw (
      counted_at-again 4 15 (number_bits 8 size ++ rest) (omega arith),
      counted_at-again 8 size
          rest (omega arith),
      ne_eqb size 255 (λ e. omega arith),
      le-ltb size 15 h,
    )

size-long : (size : ℕ) (rest : List Bool) → 255 ≤ size → size ≤ 65535
    → size_at (number_bits 4 15 ++ (number_bits 8 255 ++ (number_bits 16 size ++ rest))) ≡ Ok
    (size, rest)
unfolding size_at
size-long size rest h k =
    rw (
      counted_at-again 4 15 (number_bits 8 255 ++ (number_bits 16 size ++ rest)) (omega arith),
      counted_at-again 8 255 (number_bits 16 size ++ rest) (omega arith),
      counted_at-again 16 size
          rest (omega arith),
      le-ltb size 255 h,
    )

-- a size of at most 65,535 is read in its shortest form, and the bits after it are left
pub size_at-again : (size : ℕ) (rest : List Bool) → size ≤ 65535
    → size_at (size_code size ++ rest) ≡ Ok (size, rest)
size_at-again size rest h =
    elim (cases_lt size 15) [
      | inl short ↦ rw (size_code-short size short) (size-short size rest short)
      | inr more ↦
          elim (cases_lt size 255) [
            | inl byte ↦
                rw (
                  size_code-byte size more byte,
                  append_assoc (number_bits 4 15)
                      (number_bits 8 size) rest,
                ) (size-byte size rest more byte)
            | inr long ↦
                rw (
                  size_code-long size long,
                  append_assoc (number_bits 4 15)
                      (number_bits 8 255 ++ number_bits 16 size) rest,
                  append_assoc
                      (number_bits 8 255) (number_bits 16 size) rest,
                ) (size-long size rest long h)
          ]
    ]

minimal-takes : (least size number : ℕ) (bits rest : List Bool)
    → minimal least number bits ≡ Ok (size, rest) → (number ≡ size) × (bits ≡ rest) × (least ≤ size)
minimal-takes least size number bits rest e =
    elim (cases_lt number least) [
      | inl l ↦ let wrong : minimal least number bits ≡ Err NonMinimalSize =
          rw (lt-ltb number least l) in absurd (cc)
      | inr l ↦
          let right : minimal least number bits ≡ Ok (number, bits) = rw (le-ltb number least l) in
          let parts : (number ≡ size) × (bits ≡ rest) =
          ok-parts (minimal least number bits) number size bits rest right e in
          (parts.0, parts.1, omega (arith, parts.0))
    ]

long-takes : (bits : List Bool) (size : ℕ) (rest : List Bool) → long_size_at bits ≡ Ok (size, rest)
    → (bits ≡ number_bits 16 size ++ rest) × (255 ≤ size) × (size ≤ 65535)
long-takes bits size rest e =
    let r = then_read-ok (counted_at 16 bits) (minimal 255) size rest e in
    let read : (bits ≡ number_bits 16 r.0.0 ++ r.0.1) × (r.0.0 < 2 ^ 16) =
    counted_at-takes 16 bits r.0.0 r.0.1 r.1 in
    let least : (r.0.0 ≡ size) × (r.0.1 ≡ rest) × (255 ≤ size) =
    minimal-takes 255 size r.0.0 r.0.1 rest r.2 in (
      read.0 ∙ ap (λ n. number_bits 16 n ++ r.0.1) least.0
          ∙ ap (λ more. number_bits 16 size ++ more) least.1,
      least.2,
      omega (arith, read.1, least.0),
    )

byte-takes : (number : ℕ) (bits : List Bool) (size : ℕ) (rest : List Bool) → number < 256
    → byte_size_from number bits ≡ Ok (size, rest)
    → (number_bits 4 15 ++ (number_bits 8 number ++ bits) ≡ size_code size ++ rest) × (size ≤ 65535)
byte-takes number bits size rest h e =
    elim (cases_eq number 255) [
      | inl at ↦
          let long : byte_size_from number bits ≡ long_size_at bits = rw (eq-eqb number 255 at) in
          let read : (bits ≡ number_bits 16 size ++ rest) × (255 ≤ size) × (size ≤ 65535) =
          long-takes bits size rest (sym long ∙ e) in (
            rw (
              at,
              read.0,
              size_code-long size read.1,
              append_assoc (number_bits 4 15)
                  (number_bits 8 255 ++ number_bits 16 size) rest,
              append_assoc (number_bits 8 255)
                  (number_bits 16 size) rest,
            ),
            read.2,
          )
      | inr other ↦
          let small : byte_size_from number bits ≡ minimal 15 number bits =
          rw (ne_eqb number 255 other) in
          let least : (number ≡ size) × (bits ≡ rest) × (15 ≤ size) =
          minimal-takes 15 size number bits rest (sym small ∙ e) in
          let below : number ≢ 255 = other in
          let under : size < 255 = omega (arith, least.0) in (
            rw (
              least.0,
              least.1,
              size_code-byte size least.2 under,
              append_assoc (number_bits 4 15)
                  (number_bits 8 size) rest,
            ),
            omega arith,
          )
    ]

first-takes : (number : ℕ) (bits : List Bool) (size : ℕ) (rest : List Bool) → number < 16
    → size_from number bits ≡ Ok (size, rest)
    → (number_bits 4 number ++ bits ≡ size_code size ++ rest) × (size ≤ 65535)
first-takes number bits size rest h e =
    elim (cases_eq number 15) [
      | inl at ↦
          let more : size_from number bits ≡ then_read (counted_at 8 bits) byte_size_from =
          rw (eq-eqb number 15 at) in
          let r = then_read-ok (counted_at 8 bits) byte_size_from size rest (sym more ∙ e) in
          let read : (bits ≡ number_bits 8 r.0.0 ++ r.0.1) × (r.0.0 < 2 ^ 8) =
          counted_at-takes 8 bits r.0.0 r.0.1 r.1 in
          let whole : (number_bits 4 15 ++ (number_bits 8 r.0.0 ++ r.0.1) ≡ size_code size ++ rest)
          × (size ≤ 65535) = byte-takes r.0.0 r.0.1 size rest read.1 r.2 in (
            ap (λ n. number_bits 4 n ++ bits) at ∙ ap (λ more. number_bits 4 15 ++ more) read.0
                ∙ whole.0,
            whole.1,
          )
      | inr other ↦
          let right : size_from number bits ≡ Ok (number, bits) = rw (ne_eqb number 15 other) in
          let parts : (number ≡ size) × (bits ≡ rest) =
          ok-parts (size_from number bits) number size bits rest right e in
          let under : size < 15 = omega (arith, parts.0) in
          (rw (parts.0, parts.1, size_code-short size under), omega arith)
    ]

-- a size that is read stood there in its shortest form, and is at most 65,535
pub size_at-takes : (bits : List Bool) (size : ℕ) (rest : List Bool)
    → size_at bits ≡ Ok (size, rest) → (bits ≡ size_code size ++ rest) × (size ≤ 65535)
unfolding size_at
size_at-takes bits size rest e =
    let r = then_read-ok (counted_at 4 bits) size_from size rest e in
    let read : (bits ≡ number_bits 4 r.0.0 ++ r.0.1) × (r.0.0 < 2 ^ 4) =
    counted_at-takes 4 bits r.0.0 r.0.1 r.1 in
    let whole : (number_bits 4 r.0.0 ++ r.0.1 ≡ size_code size ++ rest) × (size ≤ 65535) =
    first-takes r.0.0 r.0.1 size rest read.1 r.2 in
    (read.0 ∙ whole.0, whole.1)
