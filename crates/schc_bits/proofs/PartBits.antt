-- Parts of the bits in words, and parts of lists.
use Rattle.std.specs.Prelude.{ℕ, ◌≡◌, ◌+◌, ◌-◌, ◌*◌, ◌^◌, ◌<◌, ◌≤◌, Bool, false, List, ◌++◌, length}
use Rattle.std.specs.Prelude.{take, drop, replicate}
use Rattle.std.proofs.Common.{arith, ap, sym, subst, ◌∙◌}
use Rattle.std.proofs.Math.Nat.{pow-le-pow_right}
use Rattle.std.proofs.Math.Seq.{take-add}
use Rattle.std.proofs.lemmas.List.{append_assoc, length-take, length-take-le, length-drop}
use Rattle.std.proofs.lemmas.List.{take-take, take-append-le, drop-take, drop-drop, take-replicate}
use Rattle.std.proofs.lemmas.List.{drop-replicate, replicate-append-replicate}
use Rattle.schc_bits.specs.Bits.{number_bits, bits_value}
use Rattle.schc_bits.specs.Words.{words_bits}
use Rattle.schc_bits.proofs.NumberBits.{number_bits-bits_value, number_bits-zero, bits_value-below}
use Rattle.schc_bits.proofs.NumberBits.{bits_value-replicate_false}
use Rattle.schc_bits.proofs.WordBits.{length-words_bits}

-- a part of `count` bits that ends within the words has `count` bits
pub length-part : (words : List ℕ) (from count : ℕ) → from + count ≤ 64 * length words
    → length (take count (drop from (words_bits words))) ≡ count
length-part words from count h =
    length-take-le count (drop from (words_bits words))
    (rw (length-drop from (words_bits words), length-words_bits words) (omega arith))

-- a piece of the first ones
pub piece-front : {X : Type 0} (bits : List X) (all at count : ℕ) → at + count ≤ all
    → take count (drop at (take all bits)) ≡ take count (drop at bits)
piece-front bits all at count h =
    let sum : at + (all - at) ≡ all = omega arith in
    ap (λ n. take count (drop at (take n bits))) (sym sum)
    ∙ ap (λ rest. take count rest) (drop-take at (all - at) bits)
    ∙ take-take count (all - at) (drop at bits) (omega arith)

-- a part without its first `count` bits is what begins `count` bits later and ends where it ends
pub after-part : {X : Type 0} (bits : List X) (from all count : ℕ) → count ≤ all
    → take (all - count) (drop (from + count) bits) ≡ drop count (take all (drop from bits))
after-part bits from all count h =
    let sum : count + (all - count) ≡ all = omega arith in
    ap (λ rest. take (all - count) rest) (sym (drop-drop count from bits))
    ∙ sym (drop-take count (all - count) (drop from bits))
    ∙ ap (λ n. drop count (take n (drop from bits))) sum

-- a piece within a part stands among all bits as far behind the part's begin as it does in the part
pub read-part : {X : Type 0} (bits : List X) (from all at count : ℕ) → at + count ≤ all
    → take count (drop (from + at) bits) ≡ take count (drop at (take all (drop from bits)))
read-part bits from all at count h =
    ap (λ rest. take count rest) (sym (drop-drop at from bits))
    ∙ sym (piece-front (drop from bits) all at count h)

-- a piece of `count` items that ends within the list has `count` items
pub length-piece : {X : Type 0} (bits : List X) (at count : ℕ) → at + count ≤ length bits
    → length (take count (drop at bits)) ≡ count
length-piece bits at count h =
    length-take-le count (drop at bits) (rw (length-drop at bits) (omega arith))

-- the number that the first `count` bits write is below 2 ^ `count`
pub bits_value-take : (count : ℕ) (bits : List Bool) → bits_value (take count bits) < 2 ^ count
bits_value-take count bits =
    let most : 2 ^ length (take count bits) ≤ 2 ^ count =
    pow-le-pow_right (omega arith)
    (let l : length (take count bits) ≤ count = omega (arith, length-take count bits) in l) in
    omega (arith, bits_value-below (take count bits))

-- bits of one number are the same where they are equally many
pub bits_value-injective : (these those : List Bool) → length these ≡ length those
    → bits_value these ≡ bits_value those → these ≡ those
bits_value-injective these those l e =
    sym (number_bits-bits_value these) ∙ ap (λ n. number_bits n (bits_value these)) l
    ∙ ap (λ n. number_bits (length those) n) e ∙ number_bits-bits_value those

-- a piece that was read is written as it was
pub number_bits-read : (bits : List Bool) (at count : ℕ) → at + count ≤ length bits
    → number_bits count (bits_value (take count (drop at bits))) ≡ take count (drop at bits)
number_bits-read bits at count h =
    subst (λ n. number_bits n (bits_value (take count (drop at bits))) ≡ take count (drop at bits))
    (length-piece bits at count h) (number_bits-bits_value (take count (drop at bits)))

-- one piece on
pub same-more : (bits front : List Bool) (at step : ℕ) → length front ≤ length bits
    → at + step ≤ length front → take at bits ≡ take at front
    → bits_value (take step (drop at bits)) ≡ bits_value (take step (drop at front))
    → take (at + step) bits ≡ take (at + step) front
same-more bits front at step n h e v =
    let widths : length (take step (drop at bits)) ≡ length (take step (drop at front)) =
    length-piece bits at step (omega arith) ∙ sym (length-piece front at step h) in
    rw (take-add at step bits, take-add at step front, e, bits_value-injective _ _ widths v)

-- a piece that differs
pub differ-more : (bits front : List Bool) (at step : ℕ) → at + step ≤ length front
    → (bits_value (take step (drop at bits)) ≡ bits_value (take step (drop at front)) → ⊥)
    → take (length front) bits ≡ front → ⊥
differ-more bits front at step h differ e =
    differ (ap bits_value
    (sym (piece-front bits (length front) at step h) ∙ ap (λ all. take step (drop at all)) e))

bits_value-zero : (bits : List Bool) → bits_value bits ≡ 0 → bits ≡ replicate (length bits) false
bits_value-zero bits e = sym (number_bits-bits_value bits) ∙ ap (λ n. number_bits (length bits) n) e
    ∙ number_bits-zero (length bits)

-- where the first bits are zero and the piece behind them writes 0, all are zero up to its end
pub zero-more : (bits : List Bool) (at step : ℕ) → at + step ≤ length bits
    → take at bits ≡ replicate at false → bits_value (take step (drop at bits)) ≡ 0
    → take (at + step) bits ≡ replicate (at + step) false
zero-more bits at step h e v =
    let piece : take step (drop at bits) ≡ replicate step false =
    bits_value-zero (take step (drop at bits)) v
    ∙ ap (λ n. replicate n false) (length-piece bits at step h) in
    rw (take-add at step bits, e, piece) (replicate-append-replicate at step false)

-- where a piece of the bits doesn't write 0, the bits aren't all zero
pub nonzero-more : (bits : List Bool) (at step : ℕ) → at + step ≤ length bits
    → (bits_value (take step (drop at bits)) ≡ 0 → ⊥) → bits ≡ replicate (length bits) false → ⊥
nonzero-more bits at step h differ e =
    let piece : take step (drop at bits) ≡ replicate step false =
    ap (λ all. take step (drop at all)) e
    ∙ ap (λ rest. take step rest) (drop-replicate at (length bits) false)
    ∙ take-replicate step (length bits - at) false (omega arith)
    in
    differ (ap bits_value piece ∙ bits_value-replicate_false step)

-- one piece more is put behind the bits
pub put-more : (old more now : List Bool) (at step value : ℕ) → at + step ≤ length more
    → now ≡ old ++ take at more → value ≡ bits_value (take step (drop at more))
    → now ++ number_bits step value ≡ old ++ take (at + step) more
put-more old more now at step value h e v =
    rw (e, v, number_bits-read more at step h, take-add at step more)
    (append_assoc old (take at more) (take step (drop at more)))

-- what stands in front stays there
pub front-kept : {X : Type 0} (old now more : List X) → take (length old) now ≡ old
    → take (length old) (now ++ more) ≡ old
front-kept old now more e =
    let enough : length old ≤ length now =
    omega (arith, length-take (length old) now, ap length e) in
    take-append-le (length old) now more enough ∙ e

pub front-of_front : {X : Type 0} (old mid now : List X) → take (length old) mid ≡ old
    → take (length mid) now ≡ mid → take (length old) now ≡ old
front-of_front old mid now e f =
    let enough : length old ≤ length mid =
    omega (arith, length-take (length old) mid, ap length e) in
    sym (take-take (length old) (length mid) now enough) ∙ ap (λ front. take (length old) front) f
    ∙ e
