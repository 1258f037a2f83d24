-- One option: what was spelled is read, and what is read was spelled.
use Rattle.std.specs.Prelude.{ℕ, ◌≡◌, ◌+◌, ◌-◌, ◌*◌, ◌/◌, ◌%◌, ◌==◌, ◌<◌, ◌≤◌, nat_lt, zero, suc}
use Rattle.std.specs.Prelude.{false, ◌||◌, List, [], ◌∷◌, ◌++◌, length, take, drop, Result, Ok}
use Rattle.std.proofs.Common.{arith, ap, refl, sym, ◌∙◌}
use Rattle.std.proofs.lemmas.Bool.{le-ltb, ne_eqb, ltb-false, eqb-false, or_parts, or_from}
use Rattle.std.proofs.lemmas.List.{append_assoc, length-append, length-take-le, length-drop}
use Rattle.std.proofs.lemmas.List.{take_at, drop_at, take-append-drop}
use Rattle.schc_bits.specs.Bits.{AreBytes}
use Rattle.coap_fields.specs.Message.{OptionData, next_place, IsOption, nibble, extension}
use Rattle.coap_fields.specs.Message.{option_spelled}
use Rattle.coap_fields.specs.Reading.{extended, value_at, is_number_wrong, numbered_at, option_at}
use Rattle.coap_fields.proofs.NumberLemmas.{nibble-small, extended-again, IsNumber, extended-takes}
use Rattle.coap_fields.proofs.NumberLemmas.{extended-shorter, then_number-ok, guard-ok}

-- lists of bytes
pub take-bytes : (count : ℕ) (bytes : List ℕ) → AreBytes bytes → AreBytes (take count bytes)
take-bytes zero bytes a = tt
take-bytes (suc count) [] a = tt
take-bytes (suc count) (byte ∷ bytes) a = (a.0, take-bytes count bytes a.1)

-- what is left of bytes behind the first `count` is bytes
pub drop-bytes : (count : ℕ) (bytes : List ℕ) → AreBytes bytes → AreBytes (drop count bytes)
drop-bytes zero bytes a = a
drop-bytes (suc count) [] a = tt
drop-bytes (suc count) (byte ∷ bytes) a = drop-bytes count bytes a.1

-- the parts of equal readings
abbrev pub is_read : {A B : Type 0} → A → B → Result (A × B) ℕ
is_read a x = Ok (a, x)

-- where two reads are the same, so are what they read and what they leave
pub ok-pair : {A B : Type 0} (a b : A) (x y : B) → is_read a x ≡ is_read b y → (a ≡ b) × (x ≡ y)
ok-pair {A = A} {B = B} a b x y e =
    let parts : ◌≡◌ {A = A × B} (a, x) (b, y) = cc in
    (ap (λ (p : A × B). p.0) parts, ap (λ (p : A × B). p.1) parts)

value_at-again : (size number : ℕ) (value rest : List ℕ)
    → value_at size number (length value) (value ++ rest) ≡ Ok
    (record { number = number; value = value }, rest)
value_at-again size number value rest =
    let enough : length value ≤ length (value ++ rest) =
    rw (length-append value rest) (omega arith) in
    rw (
      le-ltb (length (value ++ rest)) (length value) enough,
      take_at value rest (length value)
          refl,
      drop_at value rest (length value) refl,
    )

number_right : (before place number : ℕ) → number ≤ 65535 → next_place before place number ≤ 65535
    → is_number_wrong before place number ≡ false
number_right before place number h k =
    or_from (nat_lt 65535 number) (nat_lt 65535 (next_place before place number))
    (le-ltb 65535 number h) (le-ltb 65535 (next_place before place number) k)

numbered_at-again : (size here before place : ℕ) (o : OptionData) (rest : List ℕ)
    → IsOption before place o
    → numbered_at size here before place (nibble (length o.value)) (o.number - before)
    (extension (length o.value) ++ (o.value ++ rest)) ≡ Ok (o, rest)
numbered_at-again size here before place o rest h =
    let sum : before + (o.number - before) ≡ o.number = omega (arith, h.ascends) in
    rw (
      sum,
      number_right before place o.number h.number h.repeats,
      extended-again (length o.value)
          (o.value ++ rest),
    ) (value_at-again size o.number o.value rest)

high_part : (a b : ℕ) → b < 15 → (16 * a + b) / 16 ≡ a
high_part a b h = omega arith

low_part : (a b : ℕ) → b < 15 → (16 * a + b) % 16 ≡ b
low_part a b h = omega arith

not_15 : (n : ℕ) → n < 15 → (n == 15) ≡ false
not_15 n h = ne_eqb n 15 (λ e. absurd (omega (arith, e)))

-- an option that was spelled is read
pub option_at-again : (size here before place : ℕ) (o : OptionData) (rest : List ℕ)
    → IsOption before place o
    → option_at size here before place (16 * nibble (o.number - before) + nibble (length o.value))
    (extension (o.number - before) ++ (extension (length o.value) ++ (o.value ++ rest))) ≡ Ok
    (o, rest)
unfolding option_at
option_at-again size here before place o rest h =
    let delta : ℕ = o.number - before in
    let a : nibble delta < 15 = nibble-small delta in
    let b : nibble (length o.value) < 15 = nibble-small (length o.value) in
    rw (
      high_part (nibble delta) (nibble (length o.value)) b,
      low_part (nibble delta)
          (nibble (length o.value)) b,
      not_15 (nibble delta) a,
      not_15 (nibble (length o.value)) b,
      extended-again delta (extension (length o.value) ++ (o.value ++ rest)),
    )
    (numbered_at-again size here before place o rest h)

-- what is read of an option was spelled
pub record IsRead (before place first : ℕ) (bytes : List ℕ) (o : OptionData) (rest : List ℕ) : Type
    0 where
  pub is_option : IsOption before place o
  pub bytes_are : first ∷ bytes ≡ option_spelled before o ++ rest
  pub rest_bytes : AreBytes rest

value_parts : (size number count : ℕ) (bytes : List ℕ) (o : OptionData) (rest : List ℕ)
    → value_at size number count bytes ≡ Ok (o, rest) → (count ≤ length bytes)
    × (record { number = number; value = take count bytes } ≡ o) × (drop count bytes ≡ rest)
value_parts size number count bytes o rest e =
    let g = guard-ok (nat_lt (length bytes) count) size _ (o, rest) e in
    let parts = ok-pair _ o (drop count bytes) rest g.1 in
    (ltb-false (length bytes) count g.0, parts.0, parts.1)

number_parts : (before place number : ℕ) → is_number_wrong before place number ≡ false
    → (number ≤ 65535) × (next_place before place number ≤ 65535)
number_parts before place number e =
    let p = or_parts (nat_lt 65535 number) (nat_lt 65535 (next_place before place number)) e in
    (ltb-false 65535 number p.0, ltb-false 65535 (next_place before place number) p.1)

-- from its parts
from_parts : (before place first : ℕ) (bytes after value_bytes : List ℕ) (delta count : ℕ)
    (o : OptionData) (rest : List ℕ) → IsNumber (first / 16) bytes delta after
    → IsNumber (first % 16) after count value_bytes → count ≤ length value_bytes
    → record { number = before + delta; value = take count value_bytes } ≡ o
    → drop count value_bytes ≡ rest → before + delta ≤ 65535
    → next_place before place (before + delta) ≤ 65535 → IsRead before place first bytes o rest
from_parts before place first bytes after value_bytes delta count o rest d l enough is left small
    repeats =
    let number : before + delta ≡ o.number = ap (λ (x : OptionData). x.number) is in
    let value : take count value_bytes ≡ o.value = ap (λ (x : OptionData). x.value) is in
    let size : length o.value ≡ count = rw (← value) (length-take-le count value_bytes enough) in
    let difference : o.number - before ≡ delta = omega (arith, number) in
    let most : count ≤ 65804 = l.most in
    let first_is : first ≡ 16 * nibble delta + nibble count =
    omega (arith, d.bits_are, l.bits_are) in
    let all : value_bytes ≡ o.value ++ rest =
    rw (← value, ← left) (sym (take-append-drop count value_bytes)) in
    let tail : bytes ≡ (extension delta ++ (extension count ++ o.value)) ++ rest =
    d.bytes_are
    ∙ ap (λ x. extension delta ++ x) (l.bytes_are ∙ ap (λ x. extension count ++ x) all)
    ∙ ap (λ x. extension delta ++ x) (sym (append_assoc (extension count) o.value rest))
    ∙ sym (append_assoc (extension delta) (extension count ++ o.value) rest)
    in
    record {
      is_option =
          record {
            ascends = omega (arith, number);
            number = rw (← number) small;
            repeats = rw (← number) repeats;
            size = rw size most;
            bytes = rw (← value) (take-bytes count value_bytes l.rest_bytes);
          };
      bytes_are = rw (difference, size, ← first_is, ← tail);
      rest_bytes = rw (← left) (drop-bytes count value_bytes l.rest_bytes);
    }

numbered_at-takes : (size here before place first : ℕ) (bytes after : List ℕ) (delta : ℕ)
    (o : OptionData) (rest : List ℕ) → first % 16 < 15 → IsNumber (first / 16) bytes delta after
    → numbered_at size here before place (first % 16) delta after ≡ Ok (o, rest)
    → IsRead before place first bytes o rest
numbered_at-takes size here before place first bytes after delta o rest small d e =
    let g = guard-ok (is_number_wrong before place (before + delta)) here _ (o, rest) e in
    let n = number_parts before place (before + delta) g.0 in
    let r = then_number-ok size (extended (first % 16) after) (value_at size (before + delta))
    (o, rest) g.1 in
    let v = value_parts size (before + delta) r.0.0 r.0.1 o rest r.2 in
    from_parts before place first bytes after r.0.1 delta r.0.0 o rest d
    (extended-takes (first % 16) after r.0.0 r.0.1 small d.rest_bytes r.1) v.0 v.1 v.2 n.0 n.1

small_first : (first : ℕ) → first < 256 → ((first / 16 == 15) || (first % 16 == 15)) ≡ false
    → (first / 16 < 15) × (first % 16 < 15)
small_first first h e =
    let p = or_parts (first / 16 == 15) (first % 16 == 15) e in
    let a : first / 16 ≡ 15 → ⊥ = eqb-false (first / 16) 15 p.0 in
    let b : first % 16 ≡ 15 → ⊥ = eqb-false (first % 16) 15 p.1 in
    (omega (arith, a), omega (arith, b))

-- an option that is read can stand after this number and place, and its spelling stood there
pub option_at-takes : (size here before place first : ℕ) (bytes : List ℕ) (o : OptionData)
    (rest : List ℕ) → first < 256 → AreBytes bytes
    → option_at size here before place first bytes ≡ Ok (o, rest)
    → IsRead before place first bytes o rest
unfolding option_at
option_at-takes size here before place first bytes o rest h a e =
    let g = guard-ok ((first / 16 == 15) || (first % 16 == 15)) here _ (o, rest) e in
    let s = small_first first h g.0 in
    let r = then_number-ok size (extended (first / 16) bytes)
    (numbered_at size here before place (first % 16)) (o, rest) g.1 in
    numbered_at-takes size here before place first bytes r.0.1 r.0.0 o rest s.1
    (extended-takes (first / 16) bytes r.0.0 r.0.1 s.0 a r.1) r.2

-- an option that is read leaves no more bytes than there were
value_at-shorter : (size number count : ℕ) (bytes : List ℕ) (o : OptionData) (rest : List ℕ)
    → value_at size number count bytes ≡ Ok (o, rest) → length rest ≤ length bytes
value_at-shorter size number count bytes o rest e =
    let v = value_parts size number count bytes o rest e in
    rw (← v.2) (omega (arith, length-drop count bytes))

numbered_at-shorter : (size here before place bits delta : ℕ) (bytes : List ℕ) (o : OptionData)
    (rest : List ℕ) → numbered_at size here before place bits delta bytes ≡ Ok (o, rest)
    → length rest ≤ length bytes
numbered_at-shorter size here before place bits delta bytes o rest e =
    let g = guard-ok (is_number_wrong before place (before + delta)) here _ (o, rest) e in
    let r = then_number-ok size (extended bits bytes) (value_at size (before + delta)) (o, rest) g.1
    in
    omega (
      arith,
      value_at-shorter size (before + delta) r.0.0 r.0.1 o rest r.2,
      extended-shorter
          bits bytes r.0.0 r.0.1 r.1,
    )

-- reading an option leaves no more bytes than stand behind its first one
pub option_at-shorter : (size here before place first : ℕ) (bytes : List ℕ) (o : OptionData)
    (rest : List ℕ) → option_at size here before place first bytes ≡ Ok (o, rest)
    → length rest ≤ length bytes
unfolding option_at
option_at-shorter size here before place first bytes o rest e =
    let g = guard-ok ((first / 16 == 15) || (first % 16 == 15)) here _ (o, rest) e in
    let r = then_number-ok size (extended (first / 16) bytes)
    (numbered_at size here before place (first % 16)) (o, rest) g.1 in
    omega (
      arith,
      numbered_at-shorter size here before place (first % 16) r.0.0 r.0.1 o rest r.2,
      extended-shorter (first / 16) bytes r.0.0 r.0.1 r.1,
    )
