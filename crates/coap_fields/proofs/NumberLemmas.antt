-- The numbers of options: four bits, and the bytes after them.
use Rattle.std.specs.Prelude.{ℕ, ◌≡◌, ◌+◌, ◌-◌, ◌*◌, ◌/◌, ◌%◌, ◌<◌, ◌≤◌, if◌then◌else◌, Bool, true}
use Rattle.std.specs.Prelude.{false, List, [], ◌∷◌, ◌++◌, length, Option, Some, None, Result, Ok}
use Rattle.std.specs.Prelude.{Err}
use Rattle.std.proofs.Common.{arith, ap, refl, sym, ◌∙◌, subst, inl, inr}
use Rattle.std.proofs.lemmas.Bool.{cases_lt, lt-ltb, le-ltb, cases_eq, eq-eqb, ne_eqb}
use Rattle.schc_bits.specs.Bits.{AreBytes}
use Rattle.coap_fields.specs.Message.{nibble, extension}
use Rattle.coap_fields.specs.Reading.{one_more, two_more, extended, then_number}

-- the parts of equal pairs
abbrev pub some_read : ℕ → List ℕ → Option (ℕ × List ℕ)
some_read a x = Some (a, x)

pub some-pair : (a b : ℕ) (x y : List ℕ) → some_read a x ≡ some_read b y → (a ≡ b) × (x ≡ y)
some-pair a b x y e =
    let parts : ◌≡◌ {A = ℕ × List ℕ} (a, x) (b, y) = cc in
    (ap (λ (p : ℕ × List ℕ). p.0) parts, ap (λ (p : ℕ × List ℕ). p.1) parts)

-- a number up to 12 stands in the four bits, and no byte follows
pub nibble-low : (n : ℕ) → n < 13 → (nibble n ≡ n) × (extension n ≡ [])
nibble-low n h = (rw (lt-ltb n 13 h), rw (lt-ltb n 13 h))

-- for a number from 13 to 268 the four bits are 13, and one byte with the number less 13 follows
pub nibble-middle : (n : ℕ) → 13 ≤ n → n < 269 → (nibble n ≡ 13) × (extension n ≡ (n - 13) ∷ [])
nibble-middle n h k = (rw (le-ltb n 13 h, lt-ltb n 269 k), rw (le-ltb n 13 h, lt-ltb n 269 k))

-- for a number from 269 on the four bits are 14, and the number less 269 follows in two bytes
pub nibble-high : (n : ℕ) → 269 ≤ n → (nibble n ≡ 14)
    × (extension n ≡ (n - 269) / 256 ∷ (n - 269) % 256 ∷ [])
nibble-high n h =
    let l : 13 ≤ n = omega arith in
    (rw (le-ltb n 13 l, le-ltb n 269 h), rw (le-ltb n 13 l, le-ltb n 269 h))

-- the four bits that stand for a number are never 15
pub nibble-small : (n : ℕ) → nibble n < 15
nibble-small n =
    elim (cases_lt n 13) [
      | inl low ↦ rw (nibble-low n low).0 (omega arith)
      | inr h ↦ elim (cases_lt n 269) [
        | inl k ↦ rw (nibble-middle n h k).0 (omega arith)
        | inr k ↦ rw (nibble-high n k).0 (omega arith)
      ]
    ]

extended-low : (bits : ℕ) (bytes : List ℕ) → bits < 13 → extended bits bytes ≡ Some (bits, bytes)
unfolding extended
extended-low bits bytes h = rw (lt-ltb bits 13 h)

extended-13 : (bytes : List ℕ) → extended 13 bytes ≡ one_more bytes
unfolding extended
extended-13 bytes = refl

extended-14 : (bytes : List ℕ) → extended 14 bytes ≡ two_more bytes
unfolding extended
extended-14 bytes = refl

-- a number that was spelled is read
pub extended-again : (n : ℕ) (rest : List ℕ)
    → extended (nibble n) (extension n ++ rest) ≡ Some (n, rest)
extended-again n rest =
    elim (cases_lt n 13) [
      | inl low ↦
          rw ((nibble-low n low).0, (nibble-low n low).1) (extended-low n rest low)
      | inr h ↦ elim (cases_lt n 269) [
        | inl k ↦
            let e : 13 + (n - 13) ≡ n = omega arith in
            rw ((nibble-middle n h k).0, (nibble-middle n h k).1, extended-13 ((n - 13) ∷ rest), e)
        | inr k ↦
            let e : 269 + 256 * ((n - 269) / 256) + (n - 269) % 256 ≡ n = omega arith in
            rw (
              (nibble-high n k).0,
              (nibble-high n k).1,
              extended-14
                  ((n - 269) / 256 ∷ (n - 269) % 256 ∷ rest),
              e,
            )
      ]
    ]

-- what is read of four bits and bytes was spelled
pub record IsNumber (bits : ℕ) (bytes : List ℕ) (n : ℕ) (rest : List ℕ) : Type 0 where
  pub bits_are : bits ≡ nibble n
  pub bytes_are : bytes ≡ extension n ++ rest
  pub most : n ≤ 65804
  pub rest_bytes : AreBytes rest

low-takes : (bits : ℕ) (bytes : List ℕ) (n : ℕ) (rest : List ℕ) → bits < 13 → AreBytes bytes
    → bits ≡ n → bytes ≡ rest → IsNumber bits bytes n rest
low-takes bits bytes n rest h a e f =
    let below : n < 13 = omega arith in
    record {
      bits_are = e ∙ sym (nibble-low n below).0;
      bytes_are = rw (nibble-low n below).1 f;
      most = omega arith;
      rest_bytes = subst AreBytes f a;
    }

one-takes : (bytes : List ℕ) (n : ℕ) (rest : List ℕ) → AreBytes bytes
    → one_more bytes ≡ Some (n, rest) → IsNumber 13 bytes n rest
one-takes [] n rest a e = absurd (cc)
one-takes (byte ∷ bytes) n rest a e =
    let parts : (13 + byte ≡ n) × (bytes ≡ rest) = some-pair (13 + byte) n bytes rest e in
    let low : 13 ≤ n = omega (arith, parts.0) in
    let high : n < 269 = omega (arith, parts.0, a.0) in
    let same : n - 13 ≡ byte = omega (arith, parts.0) in
    record {
      bits_are = sym (nibble-middle n low high).0;
      bytes_are = rw ((nibble-middle n low high).1, same, parts.1);
      most = omega arith;
      rest_bytes = subst AreBytes parts.1 a.1;
    }

two-takes : (bytes : List ℕ) (n : ℕ) (rest : List ℕ) → AreBytes bytes
    → two_more bytes ≡ Some (n, rest) → IsNumber 14 bytes n rest
two-takes [] n rest a e = absurd (cc)
two-takes (byte ∷ []) n rest a e = absurd (cc)
two-takes (high ∷ low ∷ bytes) n rest a e =
    let parts : (269 + 256 * high + low ≡ n) × (bytes ≡ rest) =
    some-pair (269 + 256 * high + low) n bytes rest e in
    let above : 269 ≤ n = omega (arith, parts.0) in
    let first : (n - 269) / 256 ≡ high = omega (arith, parts.0, a.1.0) in
    let second : (n - 269) % 256 ≡ low = omega (arith, parts.0, a.1.0) in
    record {
      bits_are = sym (nibble-high n above).0;
      bytes_are = rw ((nibble-high n above).1, first, second, parts.1);
      most = omega (arith, parts.0, a.0, a.1.0);
      rest_bytes = subst AreBytes parts.1 a.1.1;
    }

-- a number that is read from four bits below 15 and bytes is spelled so, and is at most 65,804
pub extended-takes : (bits : ℕ) (bytes : List ℕ) (n : ℕ) (rest : List ℕ) → bits < 15
    → AreBytes bytes → extended bits bytes ≡ Some (n, rest) → IsNumber bits bytes n rest
extended-takes bits bytes n rest h a e =
    elim (cases_lt bits 13) [
      | inl low ↦
          let parts : (bits ≡ n) × (bytes ≡ rest) =
          some-pair bits n bytes rest (sym (extended-low bits bytes low) ∙ e) in
          low-takes bits bytes n rest low a parts.0 parts.1
      | inr high ↦ elim (cases_lt bits 14) [
        | inl k ↦
            let is : bits ≡ 13 = omega arith in
            let read : one_more bytes ≡ Some (n, rest) = sym (extended-13 bytes)
            ∙ ap (λ b. extended b bytes) (sym is) ∙ e in
            subst (λ b. IsNumber b bytes n rest) (sym is) (one-takes bytes n rest a read)
        | inr k ↦
            let is : bits ≡ 14 = omega arith in
            let read : two_more bytes ≡ Some (n, rest) = sym (extended-14 bytes)
            ∙ ap (λ b. extended b bytes) (sym is) ∙ e in
            subst (λ b. IsNumber b bytes n rest) (sym is) (two-takes bytes n rest a read)
      ]
    ]

-- bytes that are left are no more than there were
one-shorter : (bytes : List ℕ) (n : ℕ) (rest : List ℕ) → one_more bytes ≡ Some (n, rest)
    → length rest ≤ length bytes
one-shorter [] n rest e = absurd (cc)
one-shorter (byte ∷ bytes) n rest e = rw (← (some-pair (13 + byte) n bytes rest e).1) (omega arith)

two-shorter : (bytes : List ℕ) (n : ℕ) (rest : List ℕ) → two_more bytes ≡ Some (n, rest)
    → length rest ≤ length bytes
two-shorter [] n rest e = absurd (cc)
two-shorter (byte ∷ []) n rest e = absurd (cc)
two-shorter (high ∷ low ∷ bytes) n rest e =
    rw (← (some-pair (269 + 256 * high + low) n bytes rest e).1) (omega arith)

-- reading a number leaves no more bytes than there were
pub extended-shorter : (bits : ℕ) (bytes : List ℕ) (n : ℕ) (rest : List ℕ)
    → extended bits bytes ≡ Some (n, rest) → length rest ≤ length bytes
unfolding extended
extended-shorter bits bytes n rest e =
    elim (cases_lt bits 13) [
      | inl low ↦ rw (← (some-pair bits n bytes rest (sym (extended-low bits bytes low) ∙ e)).1)
          (omega arith)
      | inr high ↦ elim (cases_eq bits 13) [
        | inl k ↦ one-shorter bytes n rest (rw (le-ltb bits 13 high, eq-eqb bits 13 k) at e)
        | inr k ↦ two-shorter bytes n rest (rw (le-ltb bits 13 high, ne_eqb bits 13 k) at e)
      ]
    ]

-- what goes on after a number was read
pub then_number-ok : {A : Type 0} (size : ℕ) (read : Option (ℕ × List ℕ))
    (next : ℕ → List ℕ → Result A ℕ) (value : A) → then_number size read next ≡ Ok value
    → (r : ℕ × List ℕ) × (read ≡ Some r) × (next r.0 r.1 ≡ Ok value)
then_number-ok size None next value e = absurd (cc)
then_number-ok size (Some r) next value e = (r, refl, e)

-- a test that would refuse didn't hold
pub guard-ok : {A E : Type 0} (test : Bool) (fault : E) (read : Result A E) (value : A)
    → (if test then Err fault else read) ≡ Ok value → (test ≡ false) × (read ≡ Ok value)
guard-ok true fault read value e = absurd (cc)
guard-ok false fault read value e = (refl, e)
