-- Bits read from a list.
use Rattle.std.specs.Prelude.{ℕ, ◌≡◌, ◌^◌, ◌<◌, ◌≤◌, Bool, List, ◌++◌, length, take, drop, Some}
use Rattle.std.specs.Prelude.{None}
use Rattle.std.proofs.Common.{arith, ap, sym, subst, inl, inr}
use Rattle.std.proofs.lemmas.Bool.{cases_lt, le-leb, lt-leb}
use Rattle.std.proofs.lemmas.List.{append_assoc, length-append, length-take-le, take_at, drop_at}
use Rattle.std.proofs.lemmas.List.{take-append-drop}
use Rattle.schc_bits.specs.Bits.{number_bits, bits_value, bits_at, number_at}
use Rattle.schc_bits.proofs.NumberBits.{length-number_bits, bits_value-number_bits}
use Rattle.schc_bits.proofs.NumberBits.{bits_value-below, number_bits-bits_value}

-- where `count` bits are there, they are taken, and the bits behind them are left
pub bits_at-enough : (count : ℕ) (bits : List Bool) → count ≤ length bits
    → bits_at count bits ≡ Some (take count bits, drop count bits)
unfolding bits_at
bits_at-enough count bits h = rw (le-leb count (length bits) h)

-- where fewer than `count` bits are there, none is taken
pub bits_at-short : (count : ℕ) (bits : List Bool) → length bits < count → bits_at count bits ≡ None
unfolding bits_at
bits_at-short count bits h = rw (lt-leb count (length bits) h)

-- where `count` bits are there, the number that they write is read, and the bits behind are left
pub number_at-enough : (count : ℕ) (bits : List Bool) → count ≤ length bits
    → number_at count bits ≡ Some (bits_value (take count bits), drop count bits)
unfolding number_at
number_at-enough count bits h = rw (le-leb count (length bits) h)

-- where fewer than `count` bits are there, no number is read
pub number_at-short : (count : ℕ) (bits : List Bool) → length bits < count
    → number_at count bits ≡ None
unfolding number_at
number_at-short count bits h = rw (lt-leb count (length bits) h)

-- what was put in front is taken
pub bits_at-again : (count : ℕ) (front rest : List Bool) → length front ≡ count
    → bits_at count (front ++ rest) ≡ Some (front, rest)
bits_at-again count front rest h =
    let enough : count ≤ length (front ++ rest) = rw (length-append front rest) (omega arith) in
    rw (
      bits_at-enough count (front ++ rest) enough,
      take_at front rest count h,
      drop_at front rest
          count h,
    )

-- what is taken was in front
pub bits_at-takes : (count : ℕ) (bits front rest : List Bool)
    → bits_at count bits ≡ Some (front, rest) → (bits ≡ front ++ rest) × (length front ≡ count)
bits_at-takes count bits front rest e =
    elim (cases_lt (length bits) count) [
      | inl short ↦
          let none : bits_at count bits ≡ None = bits_at-short count bits short in
          absurd (cc)
      | inr enough ↦
          let some : bits_at count bits ≡ Some (take count bits, drop count bits) =
          bits_at-enough count bits enough in
          let parts : (take count bits, drop count bits) ≡ (front, rest) = cc in
          let taken : take count bits ≡ front = ap (λ (p : List Bool × List Bool). p.0) parts in
          let left : drop count bits ≡ rest = ap (λ (p : List Bool × List Bool). p.1) parts in (
            rw (← taken, ← left) (sym (take-append-drop count bits)),
            rw (← taken)
                (length-take-le count bits enough),
          )
    ]

-- a number that was written is read
pub number_at-again : (count number : ℕ) (rest : List Bool) → number < 2 ^ count
    → number_at count (number_bits count number ++ rest) ≡ Some (number, rest)
number_at-again count number rest h =
    let width : length (number_bits count number) ≡ count = length-number_bits count number in
    let enough : count ≤ length (number_bits count number ++ rest) =
    rw (length-append (number_bits count number) rest) (omega arith) in
    rw (
      number_at-enough count (number_bits count number ++ rest) enough,
      take_at
          (number_bits count number) rest count width,
      drop_at (number_bits count number) rest count
          width,
      bits_value-number_bits count number h,
    )

-- a number that is read was written
pub number_at-takes : (count : ℕ) (bits : List Bool) (number : ℕ) (rest : List Bool)
    → number_at count bits ≡ Some (number, rest) → (bits ≡ number_bits count number ++ rest)
    × (number < 2 ^ count)
number_at-takes count bits number rest e =
    elim (cases_lt (length bits) count) [
      | inl short ↦
          let none : number_at count bits ≡ None = number_at-short count bits short in
          absurd (cc)
      | inr enough ↦
          let some : number_at count bits ≡ Some (bits_value (take count bits), drop count bits) =
          number_at-enough count bits enough in
          let parts : (bits_value (take count bits), drop count bits) ≡ (number, rest) = cc in
          let value : bits_value (take count bits) ≡ number =
          ap (λ (p : ℕ × List Bool). p.0) parts in
          let left : drop count bits ≡ rest = ap (λ (p : ℕ × List Bool). p.1) parts in
          let width : length (take count bits) ≡ count = length-take-le count bits enough in
          let written : number_bits count (bits_value (take count bits)) ≡ take count bits =
          subst (λ w. number_bits w (bits_value (take count bits)) ≡ take count bits) width
          (number_bits-bits_value (take count bits))
          in
          let below : bits_value (take count bits) < 2 ^ count =
          subst (λ w. bits_value (take count bits) < 2 ^ w) width
          (bits_value-below (take count bits)) in
          (rw (← value, ← left, written) (sym (take-append-drop count bits)), rw (← value) below)
    ]

pub bits_at-width : (count : ℕ) (bits taken rest : List Bool)
    → bits_at count bits ≡ Some (taken, rest) → length taken ≡ count
bits_at-width count bits taken rest e = (bits_at-takes count bits taken rest e).1

-- bits that come later change nothing
pub bits_at-append : (count : ℕ) (bits taken rest more : List Bool)
    → bits_at count bits ≡ Some (taken, rest)
    → bits_at count (bits ++ more) ≡ Some (taken, rest ++ more)
bits_at-append count bits taken rest more e =
    let parts : (bits ≡ taken ++ rest) × (length taken ≡ count) =
    bits_at-takes count bits taken rest e in
    rw (parts.0, append_assoc taken rest more) (bits_at-again count taken (rest ++ more) parts.1)

pub number_at-append : (count : ℕ) (bits : List Bool) (number : ℕ) (rest more : List Bool)
    → number_at count bits ≡ Some (number, rest)
    → number_at count (bits ++ more) ≡ Some (number, rest ++ more)
number_at-append count bits number rest more e =
    let parts : (bits ≡ number_bits count number ++ rest) × (number < 2 ^ count) =
    number_at-takes count bits number rest e in
    rw (parts.0, append_assoc (number_bits count number) rest more)
    (number_at-again count number (rest ++ more) parts.1)
