-- Bytes as bits, and bits as bytes.
use Rattle.std.specs.Prelude.{ℕ, ◌≡◌, ◌+◌, ◌-◌, ◌*◌, ◌/◌, ◌%◌, ◌^◌, ◌<◌, ◌≤◌, zero, suc, Bool}
use Rattle.std.specs.Prelude.{false, List, [], ◌∷◌, ◌++◌, length, get_or, take, drop, replicate}
use Rattle.std.specs.Prelude.{min}
use Rattle.std.proofs.Common.{arith, ap, refl, sym, subst, ◌∙◌, inl, inr}
use Rattle.std.proofs.lemmas.Bool.{cases_lt}
use Rattle.std.proofs.lemmas.List.{append_assoc, append-nil, length-append, length-take}
use Rattle.std.proofs.lemmas.List.{length-take-le, length-drop, length-replicate, take_all, take_at}
use Rattle.std.proofs.lemmas.List.{drop_at, drop_all, take-append-drop, take_min, drop_min}
use Rattle.std.proofs.Math.Nat.{pow-le-pow_right}
use Rattle.std.proofs.Math.Seq.{take-add, take-append-add, drop-append-add}
use Rattle.schc_bits.specs.Bits.{number_bits, bits_value, octets, padded, first_bytes, bytes_of}
use Rattle.schc_bits.specs.Bits.{AreBytes}
use Rattle.schc_bits.proofs.ListLemmas.{all-append, all-take, all-drop}
use Rattle.schc_bits.proofs.NumberBits.{length-number_bits, bits_value-number_bits}
use Rattle.schc_bits.proofs.NumberBits.{bits_value-below, number_bits-bits_value, bits_value-append}
use Rattle.schc_bits.proofs.NumberBits.{bits_value-replicate_false}

-- where each place holds a byte
pub AreBytes-from_each : (bytes : List ℕ) → ((k : ℕ) → get_or bytes k 0 < 256) → AreBytes bytes
AreBytes-from_each [] h = tt
AreBytes-from_each (byte ∷ bytes) h = (h 0, AreBytes-from_each bytes (λ k. h (suc k)))

-- where two lists are of bytes, the one behind the other is too
pub AreBytes-append : (front back : List ℕ) → AreBytes front → AreBytes back
    → AreBytes (front ++ back)
AreBytes-append front back first second = all-append (λ byte. byte < 256) front back first second

-- the first ones of a list of bytes are bytes
pub AreBytes-take : (count : ℕ) (bytes : List ℕ) → AreBytes bytes → AreBytes (take count bytes)
AreBytes-take count bytes h = all-take (λ byte. byte < 256) count bytes h

-- what is left of a list of bytes behind the first ones is bytes
pub AreBytes-drop : (count : ℕ) (bytes : List ℕ) → AreBytes bytes → AreBytes (drop count bytes)
AreBytes-drop count bytes h = all-drop (λ byte. byte < 256) count bytes h

-- bytes have eight bits each
pub length-octets : (bytes : List ℕ) → length (octets bytes) ≡ 8 * length bytes
length-octets [] = refl
length-octets (byte ∷ bytes) =
    rw (length-append (number_bits 8 byte) (octets bytes), length-number_bits 8 byte)
    (omega (arith, length-octets bytes))

-- the bits of bytes with more bytes behind them are the bits of those, then of these
pub octets-append : (front back : List ℕ) → octets (front ++ back) ≡ octets front ++ octets back
octets-append [] back = refl
octets-append (byte ∷ front) back =
    rw (octets-append front back)
    (sym (append_assoc (number_bits 8 byte) (octets front) (octets back)))

-- the first 8 * `count` bits of bytes are the bits of the first `count` bytes
pub take-octets : (count : ℕ) (bytes : List ℕ)
    → take (8 * count) (octets bytes) ≡ octets (take count bytes)
take-octets zero bytes = refl
take-octets (suc count) [] = take_all (8 * suc count) [] (omega arith)
take-octets (suc count) (byte ∷ bytes) =
    let e : 8 * suc count ≡ length (number_bits 8 byte) + 8 * count =
    omega (arith, length-number_bits 8 byte) in
    rw (e, take-append-add (number_bits 8 byte) (octets bytes) (8 * count), take-octets count bytes)

-- behind the first 8 * `count` bits of bytes stand the bits of the bytes behind the first `count`
pub drop-octets : (count : ℕ) (bytes : List ℕ)
    → drop (8 * count) (octets bytes) ≡ octets (drop count bytes)
drop-octets zero bytes = refl
drop-octets (suc count) [] = drop_all (8 * suc count) [] (omega arith)
drop-octets (suc count) (byte ∷ bytes) =
    let e : 8 * suc count ≡ length (number_bits 8 byte) + 8 * count =
    omega (arith, length-number_bits 8 byte) in
    rw (e, drop-append-add (number_bits 8 byte) (octets bytes) (8 * count), drop-octets count bytes)

-- the first byte, and those after it
pub bytes_of-byte : (byte rest : List Bool) → length byte ≡ 8
    → bytes_of (byte ++ rest) ≡ bits_value byte ∷ bytes_of rest
unfolding bytes_of first_bytes
bytes_of-byte byte rest h =
    let count : length (byte ++ rest) / 8 ≡ suc (length rest / 8) =
    rw (length-append byte rest) (omega arith) in
    rw (count, take_at byte rest 8 h, drop_at byte rest 8 h)

-- fewer bits than a byte has
pub bytes_of-short : (bits : List Bool) → length bits < 8 → bytes_of bits ≡ []
unfolding bytes_of first_bytes
bytes_of-short bits h =
    let none : length bits / 8 ≡ 0 = omega arith in
    rw none

pub bytes_of-more : (bits : List Bool) → 8 ≤ length bits
    → bytes_of bits ≡ bits_value (take 8 bits) ∷ bytes_of (drop 8 bits)
bytes_of-more bits h =
    ap bytes_of (sym (take-append-drop 8 bits))
    ∙ bytes_of-byte (take 8 bits) (drop 8 bits) (length-take-le 8 bits h)

-- the bits of bytes are read as those bytes, and then come the whole bytes of the bits behind
pub bytes_of-octets-append : (bytes : List ℕ) (rest : List Bool) → AreBytes bytes
    → bytes_of (octets bytes ++ rest) ≡ bytes ++ bytes_of rest
bytes_of-octets-append [] rest h = refl
bytes_of-octets-append (byte ∷ bytes) rest h =
    rw (
      append_assoc (number_bits 8 byte) (octets bytes) rest,
      bytes_of-byte (number_bits 8 byte)
          (octets bytes ++ rest) (length-number_bits 8 byte),
      bits_value-number_bits 8 byte h.0,
      bytes_of-octets-append bytes rest h.1,
    )

-- bytes come back from their bits
pub bytes_of-octets : (bytes : List ℕ) → AreBytes bytes → bytes_of (octets bytes) ≡ bytes
bytes_of-octets bytes h =
    ap bytes_of (sym (append-nil (octets bytes))) ∙ bytes_of-octets-append bytes [] h
    ∙ ap (λ rest. bytes ++ rest) (bytes_of-short [] (omega arith)) ∙ append-nil bytes

byte_bits : (byte : List Bool) → length byte ≡ 8 → number_bits 8 (bits_value byte) ≡ byte
byte_bits byte h =
    subst (λ count. number_bits count (bits_value byte) ≡ byte) h (number_bits-bits_value byte)

octets-first_bytes : (count : ℕ) (bits : List Bool) → 8 * count ≤ length bits
    → octets (first_bytes count bits) ≡ take (8 * count) bits
unfolding first_bytes
octets-first_bytes zero bits h = refl
octets-first_bytes (suc count) bits h =
    let e : 8 * suc count ≡ 8 + 8 * count = omega arith in
    let whole : length (take 8 bits) ≡ 8 = length-take-le 8 bits (omega arith) in
    rw (
      e,
      take-add 8 (8 * count) bits,
      byte_bits (take 8 bits) whole,
      octets-first_bytes count
          (drop 8 bits) (omega (arith, length-drop 8 bits)),
    )

-- the whole bytes of the bits, as bits again
pub octets-bytes_of-take : (bits : List Bool)
    → octets (bytes_of bits) ≡ take (8 * (length bits / 8)) bits
unfolding bytes_of
octets-bytes_of-take bits = octets-first_bytes (length bits / 8) bits (omega arith)

-- bits that make whole bytes come back from these bytes
pub octets-bytes_of : (bits : List Bool) → length bits % 8 ≡ 0 → octets (bytes_of bits) ≡ bits
octets-bytes_of bits h = octets-bytes_of-take bits
    ∙ take_all (8 * (length bits / 8)) bits (omega arith)

-- bits are their whole bytes, and up to seven bits more
pub bytes_of-append-drop : (bits : List Bool)
    → octets (bytes_of bits) ++ drop (8 * (length bits / 8)) bits ≡ bits
bytes_of-append-drop bits =
    rw (octets-bytes_of-take bits) (take-append-drop (8 * (length bits / 8)) bits)

byte_below : (byte : List Bool) → length byte ≤ 8 → bits_value byte < 256
byte_below byte h =
    let most : 2 ^ length byte ≤ 2 ^ 8 = pow-le-pow_right (omega arith) h in
    omega (arith, bits_value-below byte)

AreBytes-first_bytes : (count : ℕ) (bits : List Bool) → AreBytes (first_bytes count bits)
unfolding first_bytes
AreBytes-first_bytes zero bits = tt
AreBytes-first_bytes (suc count) bits = (
  byte_below (take 8 bits) (omega (arith, length-take 8 bits)),
  AreBytes-first_bytes count
      (drop 8 bits),
)

-- the whole bytes of any bits are below 256 each
pub AreBytes-bytes_of : (bits : List Bool) → AreBytes (bytes_of bits)
unfolding bytes_of
AreBytes-bytes_of bits = AreBytes-first_bytes (length bits / 8) bits

length-first_bytes : (count : ℕ) (bits : List Bool) → length (first_bytes count bits) ≡ count
unfolding first_bytes
length-first_bytes zero bits = refl
length-first_bytes (suc count) bits = ap suc (length-first_bytes count (drop 8 bits))

-- bits have an eighth as many whole bytes, rounded down
pub length-bytes_of : (bits : List Bool) → length (bytes_of bits) ≡ length bits / 8
unfolding bytes_of
length-bytes_of bits = length-first_bytes (length bits / 8) bits

-- padding puts zero bits behind the bits, as many as are missing to whole bytes: seven at most
pub padded-is : (bits : List Bool)
    → padded bits ≡ bits ++ replicate ((8 - length bits % 8) % 8) false
unfolding padded
padded-is bits = refl

-- padded bits are as long as the fewest whole bytes that have room for the bits
pub length-padded : (bits : List Bool) → length (padded bits) ≡ 8 * ((length bits + 7) / 8)
length-padded bits =
    rw (
      padded-is bits,
      length-append bits (replicate ((8 - length bits % 8) % 8) false),
      length-replicate ((8 - length bits % 8) % 8) false,
    ) (omega arith)

-- whole bytes get no bit more
pub padded-whole : (bits : List Bool) → length bits % 8 ≡ 0 → padded bits ≡ bits
padded-whole bits h =
    let none : (8 - length bits % 8) % 8 ≡ 0 = omega arith in
    rw (padded-is bits, none) (append-nil bits)

pub padded-octets : (bytes : List ℕ) → padded (octets bytes) ≡ octets bytes
padded-octets bytes = padded-whole (octets bytes) (omega (arith, length-octets bytes))

-- the bits come first
pub take-padded : (bits : List Bool) → take (length bits) (padded bits) ≡ bits
take-padded bits = rw (padded-is bits) (take_at bits _ (length bits) refl)

-- padded bits come back from their bytes: none is left out
pub octets-bytes_of-padded : (bits : List Bool) → octets (bytes_of (padded bits)) ≡ padded bits
octets-bytes_of-padded bits = octets-bytes_of (padded bits) (omega (arith, length-padded bits))

-- whole bytes in front are as they were
pub padded-append : (front back : List Bool) → length front % 8 ≡ 0
    → padded (front ++ back) ≡ front ++ padded back
padded-append front back h =
    let same : (8 - (length front + length back) % 8) % 8 ≡ (8 - length back % 8) % 8 =
    omega arith in
    rw (padded-is (front ++ back), padded-is back, length-append front back, same)
    (append_assoc front back _)

begun_byte : (bits : List Bool) (count : ℕ) → length bits + count ≡ 8
    → bytes_of (bits ++ replicate count false) ≡ bits_value bits * 2 ^ count ∷ []
begun_byte bits count h =
    let whole : length (bits ++ replicate count false) ≡ 8 =
    rw (length-append bits (replicate count false), length-replicate count false) h in
    let value : bits_value (bits ++ replicate count false) ≡ bits_value bits * 2 ^ count =
    rw (
      bits_value-append bits (replicate count false),
      length-replicate count false,
      bits_value-replicate_false count,
    ) (omega arith)
    in
    ap bytes_of (sym (append-nil (bits ++ replicate count false)))
    ∙ bytes_of-byte (bits ++ replicate count false) [] whole
    ∙ rw (value, bytes_of-short [] (omega arith))

-- the first byte of padded bits, and the bytes after it
pub bytes_of-padded-more : (bits : List Bool) → 0 < length bits
    → bytes_of (padded bits) ≡ bits_value (take 8 bits) * 2 ^ (8 - length (take 8 bits)) ∷ bytes_of
    (padded (drop 8 bits))
bytes_of-padded-more bits h =
    elim (cases_lt (length bits) 8) [
      | inl short ↦
          let all : take 8 bits ≡ bits = take_all 8 bits (omega arith) in
          let none : drop 8 bits ≡ [] = drop_all 8 bits (omega arith) in
          let count : (8 - length bits % 8) % 8 ≡ 8 - length bits = omega arith in
          rw (
            padded-is bits,
            all,
            none,
            padded-whole [] refl,
            bytes_of-short [] (omega arith),
            count,
          ) (begun_byte bits (8 - length bits) (omega arith))
      | inr long ↦
          let whole : length (take 8 bits) ≡ 8 = length-take-le 8 bits long in
          let value : bits_value (take 8 bits) ≡ bits_value (take 8 bits) * 2 ^
          (8 - length (take 8 bits)) = rw whole (omega arith) in
          ap (λ all. bytes_of (padded all)) (sym (take-append-drop 8 bits))
          ∙ ap bytes_of (padded-append (take 8 bits) (drop 8 bits) (rw whole))
          ∙ bytes_of-byte (take 8 bits) (padded (drop 8 bits)) whole
          ∙ ap (λ byte. byte ∷ bytes_of (padded (drop 8 bits))) value
    ]

-- whole bytes, then other bits
pub bytes_of-append : (front back : List Bool) → length front % 8 ≡ 0
    → bytes_of (front ++ back) ≡ bytes_of front ++ bytes_of back
bytes_of-append front back h =
    ap (λ bits. bytes_of (bits ++ back)) (sym (octets-bytes_of front h))
    ∙ bytes_of-octets-append (bytes_of front) back (AreBytes-bytes_of front)

-- bits behind the last whole byte are left out
pub bytes_of-padded-take : (bits : List Bool)
    → bytes_of (padded (take (length bits - length bits % 8) bits)) ≡ bytes_of bits
bytes_of-padded-take bits =
    let count : ℕ = length bits - length bits % 8 in
    let whole : length (take count bits) % 8 ≡ 0 =
    rw (length-take-le count bits (omega arith)) (omega arith) in
    let short : bytes_of (drop count bits) ≡ [] =
    bytes_of-short (drop count bits) (omega (arith, length-drop count bits)) in
    let all : bytes_of bits ≡ bytes_of (take count bits) ++ bytes_of (drop count bits) =
    ap bytes_of (sym (take-append-drop count bits))
    ∙ bytes_of-append (take count bits) (drop count bits) whole
    in
    rw (padded-whole (take count bits) whole, all, short)
    (sym (append-nil (bytes_of (take count bits))))

-- one byte on, after what stands already
pub bytes_of-padded-next : (old : List ℕ) (rest first later : List Bool) (count byte : ℕ)
    → 0 < length rest → count ≡ min (length rest) 8 → first ≡ take count rest
    → later ≡ drop count rest → byte ≡ bits_value first * 2 ^ (8 - length first)
    → (old ++ byte ∷ []) ++ bytes_of (padded later) ≡ old ++ bytes_of (padded rest)
bytes_of-padded-next old rest first later count byte h c f l b =
    let turned : count ≡ min 8 (length rest) = omega arith in
    let front : first ≡ take 8 rest = f ∙ ap (λ n. take n rest) turned ∙ take_min 8 rest in
    let back : later ≡ drop 8 rest = l ∙ ap (λ n. drop n rest) turned ∙ drop_min 8 rest in
    rw (
      append_assoc old (byte ∷ []) (bytes_of (padded later)),
      b,
      front,
      back,
      bytes_of-padded-more
          rest h,
    )

-- no bit is left
pub bytes_of-padded-none : (old : List ℕ) (rest bits : List Bool) → length rest ≡ 0
    → old ++ bytes_of (padded rest) ≡ bytes_of (padded bits) → old ≡ bytes_of (padded bits)
bytes_of-padded-none old [] bits h e =
    let none : bytes_of (padded []) ≡ [] =
    rw (padded-whole [] refl) (bytes_of-short [] (omega arith)) in
    sym (append-nil old) ∙ ap (λ bytes. old ++ bytes) (sym none) ∙ e
bytes_of-padded-none old (bit ∷ rest) bits h e = absurd (omega arith)

-- two lists of bytes are the same if their bits are
pub octets-injective : (first second : List ℕ) → AreBytes first → AreBytes second
    → octets first ≡ octets second → first ≡ second
octets-injective first second h k e = sym (bytes_of-octets first h) ∙ ap bytes_of e
    ∙ bytes_of-octets second k
