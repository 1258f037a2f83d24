-- Eight bytes and a word.
use Rattle.std.specs.Prelude.{ℕ, ◌≡◌, ◌+◌, ◌-◌, ◌*◌, ◌%◌, ◌^◌, ◌<◌, ◌≤◌, Bool, List, [], ◌∷◌, ◌++◌}
use Rattle.std.specs.Prelude.{length, take, drop, min}
use Rattle.std.specs.Int.{w64, to_be_bytes, from_be_bytes}
use Rattle.std.proofs.Common.{arith, ap, refl, sym, subst, ◌∙◌}
use Rattle.std.proofs.lemmas.List.{append_assoc, append-nil, length-take-le, length-drop, drop-drop}
use Rattle.std.proofs.lemmas.List.{drop_all, take-append-drop}
use Rattle.std.proofs.lemmas.Nat.{from_be_bytes-to_be_bytes_8}
use Rattle.schc_bits.specs.Bits.{number_bits, bits_value, octets, padded, bytes_of, AreBytes}
use Rattle.schc_bits.proofs.NumberBits.{bits_value-number_bits, number_bits-bits_value}
use Rattle.schc_bits.proofs.NumberBits.{bits_value-append}
use Rattle.schc_bits.proofs.Octets.{AreBytes-take, length-octets, octets-append, bytes_of-octets}
use Rattle.schc_bits.proofs.Octets.{bytes_of-append, bytes_of-short, padded-append, padded-whole}
use Rattle.schc_bits.proofs.Octets.{bytes_of-padded-next}
use Rattle.schc_bits.proofs.PartBits.{bits_value-take, length-piece}

value_step : (byte : ℕ) (bytes : List ℕ) (width : ℕ) → byte < 256 → 8 * length bytes ≡ width
    → bits_value (octets (byte ∷ bytes)) ≡ byte * 2 ^ width + bits_value (octets bytes)
value_step byte bytes width h e =
    bits_value-append (number_bits 8 byte) (octets bytes)
    ∙ rw (bits_value-number_bits 8 byte h, length-octets bytes, e) refl

value_8 : (a b c d e f g h : ℕ) → AreBytes (a ∷ b ∷ c ∷ d ∷ e ∷ f ∷ g ∷ h ∷ [])
    → bits_value (octets (a ∷ b ∷ c ∷ d ∷ e ∷ f ∷ g ∷ h ∷ [])) ≡ from_be_bytes w64
    (a ∷ b ∷ c ∷ d ∷ e ∷ f ∷ g ∷ h ∷ [])
value_8 a b c d e f g h small =
    let at_a : bits_value
    (octets (a ∷ b ∷ c ∷ d ∷ e ∷ f ∷ g ∷ h ∷ [])) ≡ a * 72057594037927936 + bits_value
    (octets (b ∷ c ∷ d ∷ e ∷ f ∷ g ∷ h ∷ [])) =
    value_step a (b ∷ c ∷ d ∷ e ∷ f ∷ g ∷ h ∷ []) 56 small.0 refl in
    let at_b : bits_value
    (octets (b ∷ c ∷ d ∷ e ∷ f ∷ g ∷ h ∷ [])) ≡ b * 281474976710656 + bits_value
    (octets (c ∷ d ∷ e ∷ f ∷ g ∷ h ∷ [])) =
    value_step b (c ∷ d ∷ e ∷ f ∷ g ∷ h ∷ []) 48 small.1.0 refl in
    let at_c : bits_value (octets (c ∷ d ∷ e ∷ f ∷ g ∷ h ∷ [])) ≡ c * 1099511627776 + bits_value
    (octets (d ∷ e ∷ f ∷ g ∷ h ∷ [])) =
    value_step c (d ∷ e ∷ f ∷ g ∷ h ∷ []) 40 small.1.1.0 refl in
    let at_d : bits_value (octets (d ∷ e ∷ f ∷ g ∷ h ∷ [])) ≡ d * 4294967296 + bits_value
    (octets (e ∷ f ∷ g ∷ h ∷ [])) = value_step d (e ∷ f ∷ g ∷ h ∷ []) 32 small.1.1.1.0 refl in
    let at_e : bits_value (octets (e ∷ f ∷ g ∷ h ∷ [])) ≡ e * 16777216 + bits_value
    (octets (f ∷ g ∷ h ∷ [])) = value_step e (f ∷ g ∷ h ∷ []) 24 small.1.1.1.1.0 refl in
    let at_f : bits_value (octets (f ∷ g ∷ h ∷ [])) ≡ f * 65536 + bits_value (octets (g ∷ h ∷ [])) =
    value_step f (g ∷ h ∷ []) 16 small.1.1.1.1.1.0 refl in
    let at_g : bits_value (octets (g ∷ h ∷ [])) ≡ g * 256 + bits_value (octets (h ∷ [])) =
    value_step g (h ∷ []) 8 small.1.1.1.1.1.1.0 refl in
    let at_h : bits_value (octets (h ∷ [])) ≡ h * 1 + 0 =
    value_step h [] 0 small.1.1.1.1.1.1.1.0 refl in
    rw (at_a, at_b, at_c, at_d, at_e, at_f, at_g, at_h) (omega arith)

from_be_value : (bytes : List ℕ) → length bytes ≡ 8 → AreBytes bytes
    → bits_value (octets bytes) ≡ from_be_bytes w64 bytes
from_be_value [] l small = absurd (omega arith)
from_be_value (a ∷ []) l small = absurd (omega arith)
from_be_value (a ∷ b ∷ []) l small = absurd (omega arith)
from_be_value (a ∷ b ∷ c ∷ []) l small = absurd (omega arith)
from_be_value (a ∷ b ∷ c ∷ d ∷ []) l small = absurd (omega arith)
from_be_value (a ∷ b ∷ c ∷ d ∷ e ∷ []) l small = absurd (omega arith)
from_be_value (a ∷ b ∷ c ∷ d ∷ e ∷ f ∷ []) l small = absurd (omega arith)
from_be_value (a ∷ b ∷ c ∷ d ∷ e ∷ f ∷ g ∷ []) l small = absurd (omega arith)
from_be_value (a ∷ b ∷ c ∷ d ∷ e ∷ f ∷ g ∷ h ∷ []) l small = value_8 a b c d e f g h small
from_be_value (a ∷ b ∷ c ∷ d ∷ e ∷ f ∷ g ∷ h ∷ x ∷ bytes) l small = absurd (omega arith)

pub number_bits-from_be : (bytes : List ℕ) → length bytes ≡ 8 → AreBytes bytes
    → number_bits 64 (from_be_bytes w64 bytes) ≡ octets bytes
number_bits-from_be bytes l small =
    let width : length (octets bytes) ≡ 64 = length-octets bytes ∙ ap (λ n. 8 * n) l in
    ap (λ n. number_bits 64 n) (sym (from_be_value bytes l small))
    ∙ subst (λ n. number_bits n (bits_value (octets bytes)) ≡ octets bytes) width
    (number_bits-bits_value (octets bytes))

pub bytes_of-to_be : (number : ℕ) → number < 2 ^ 64
    → bytes_of (number_bits 64 number) ≡ to_be_bytes w64 number
bytes_of-to_be number h =
    let small : AreBytes (to_be_bytes w64 number) = (
      omega arith,
      (
        omega arith,
        (
          omega arith,
          (omega arith, (omega arith, (omega arith, (omega arith, (omega arith, tt))))),
        ),
      ),
    ) in
    let bits : number_bits 64 number ≡ octets (to_be_bytes w64 number) =
    ap (λ n. number_bits 64 n) (sym (from_be_bytes-to_be_bytes_8 number h))
    ∙ number_bits-from_be (to_be_bytes w64 number) refl small
    in
    ap bytes_of bits ∙ bytes_of-octets (to_be_bytes w64 number) small

-- the bits of eight bytes more are put behind the bits
pub eight-more : (now : List Bool) (rest first later : List ℕ) (value : ℕ) → 8 ≤ length rest
    → AreBytes rest → first ≡ take 8 rest → later ≡ drop 8 rest → value ≡ from_be_bytes w64 first
    → (now ++ number_bits 64 value) ++ octets later ≡ now ++ octets rest
eight-more now rest first later value h small f l v =
    let bits : number_bits 64 value ≡ octets (take 8 rest) =
    ap (λ n. number_bits 64 n) (v ∙ ap (λ bytes. from_be_bytes w64 bytes) f)
    ∙ number_bits-from_be (take 8 rest) (length-take-le 8 rest h) (AreBytes-take 8 rest small)
    in
    let all : octets (take 8 rest) ++ octets (drop 8 rest) ≡ octets rest =
    sym (octets-append (take 8 rest) (drop 8 rest)) ∙ ap octets (take-append-drop 8 rest) in
    rw (bits, l)
    (append_assoc now (octets (take 8 rest)) (octets (drop 8 rest))
    ∙ ap (λ back. now ++ back) all)

first_word : (rest : List Bool) → 64 ≤ length rest
    → bytes_of (padded rest) ≡ to_be_bytes w64 (bits_value (take 64 rest)) ++ bytes_of
    (padded (drop 64 rest))
first_word rest h =
    let width : length (take 64 rest) ≡ 64 = length-take-le 64 rest h in
    let whole : length (take 64 rest) % 8 ≡ 0 = rw width refl in
    let bits : number_bits 64 (bits_value (take 64 rest)) ≡ take 64 rest =
    subst (λ n. number_bits n (bits_value (take 64 rest)) ≡ take 64 rest) width
    (number_bits-bits_value (take 64 rest))
    in
    let bytes : bytes_of (take 64 rest) ≡ to_be_bytes w64 (bits_value (take 64 rest)) =
    ap bytes_of (sym bits) ∙ bytes_of-to_be (bits_value (take 64 rest)) (bits_value-take 64 rest)
    in
    ap (λ all. bytes_of (padded all)) (sym (take-append-drop 64 rest))
    ∙ ap bytes_of (padded-append (take 64 rest) (drop 64 rest) whole)
    ∙ bytes_of-append (take 64 rest) (padded (drop 64 rest)) whole
    ∙ ap (λ front. front ++ bytes_of (padded (drop 64 rest))) bytes

-- the bytes of one word more
pub word-more : (old wanted : List ℕ) (bits : List Bool) (at value : ℕ) → at + 64 ≤ length bits
    → value ≡ bits_value (take 64 (drop at bits)) → old ++ bytes_of (padded (drop at bits)) ≡ wanted
    → (old ++ to_be_bytes w64 value) ++ bytes_of (padded (drop (at + 64) bits)) ≡ wanted
word-more old wanted bits at value h v e =
    let enough : 64 ≤ length (drop at bits) = rw (length-drop at bits) (omega arith) in
    rw v
    (
    append_assoc old (to_be_bytes w64 (bits_value (take 64 (drop at bits))))
    (bytes_of (padded (drop (at + 64) bits)))
    ∙ ap (λ rest.
    old ++ (to_be_bytes w64 (bits_value (take 64 (drop at bits))) ++ bytes_of (padded rest)))
    (sym (drop-drop 64 at bits))
    ∙ ap (λ back. old ++ back) (sym (first_word (drop at bits) enough))
    ∙ e
    )

-- one byte more
pub byte-more : (old wanted : List ℕ) (bits : List Bool) (place step byte : ℕ) → place < length bits
    → step ≡ min (length bits - place) 8
    → byte ≡ bits_value (take step (drop place bits)) * 2 ^ (8 - step)
    → old ++ bytes_of (padded (drop place bits)) ≡ wanted
    → (old ++ byte ∷ []) ++ bytes_of (padded (drop (place + step) bits)) ≡ wanted
byte-more old wanted bits place step byte h s b e =
    let count : length (drop place bits) ≡ length bits - place = length-drop place bits in
    let width : length (take step (drop place bits)) ≡ step =
    length-piece bits place step (omega arith) in
    let value : byte ≡ bits_value (take step (drop place bits)) * 2 ^
    (8 - length (take step (drop place bits))) = rw width b in
    bytes_of-padded-next old (drop place bits) (take step (drop place bits))
    (drop (place + step) bits) step byte (omega arith) (omega arith) refl
    (sym (drop-drop step place bits)) value ∙ e

-- no bit is left
pub bytes-done : (old wanted : List ℕ) (bits : List Bool) (place : ℕ) → length bits ≤ place
    → old ++ bytes_of (padded (drop place bits)) ≡ wanted → old ≡ wanted
bytes-done old wanted bits place h e =
    let none : bytes_of (padded (drop place bits)) ≡ [] =
    rw (drop_all place bits h, padded-whole [] refl) (bytes_of-short [] (omega arith)) in
    sym (append-nil old) ∙ ap (λ bytes. old ++ bytes) (sym none) ∙ e
