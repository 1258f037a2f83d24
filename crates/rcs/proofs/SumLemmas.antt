-- What a register holds after pieces of bits.
use Rattle.std.specs.Prelude.{ℕ, ◌≡◌, ◌+◌, ◌-◌, ◌*◌, ◌/◌, ◌%◌, ◌^◌, ◌<◌, ◌≤◌, Bool, List, [], ◌∷◌}
use Rattle.std.specs.Prelude.{◌++◌, zero, suc, length, get_or, take, drop, Some}
use Rattle.std.proofs.Common.{arith, ap, refl, sym, subst, ◌∙◌}
use Rattle.std.proofs.lemmas.List.{length-append, append_assoc, append-nil, take_all, drop_all}
use Rattle.std.proofs.lemmas.List.{take_at, drop-drop}
use Rattle.std.proofs.lemmas.Nat.{div-mul-add, mod-mul-add, mul-add-lt, pow-add, shl_below}
use Rattle.std.proofs.lemmas.Nat.{shr_below}
use Rattle.std.proofs.Math.Nat.{mod-eq_of_lt}
use Rattle.std.proofs.Math.Pow.{pow_mono}
use Rattle.std.proofs.Math.Seq.{drop-append-add, take-add}
use Rattle.schc_bits.specs.Bits.{number_bits, bits_value, octets, padded, first_bytes, bytes_of}
use Rattle.schc_bits.specs.Bits.{number_at, AreBytes}
use Rattle.schc_bits.proofs.NumberBits.{number_bits-append, number_bits-mod, length-number_bits}
use Rattle.schc_bits.proofs.NumberBits.{bits_value-number_bits}
use Rattle.schc_bits.proofs.Octets.{length-octets, take-octets, drop-octets, bytes_of-octets-append}
use Rattle.schc_bits.proofs.Octets.{bytes_of-append-drop, AreBytes-bytes_of, bytes_of-short}
use Rattle.schc_bits.proofs.Octets.{bytes_of-padded-more, padded-append, padded-whole}
use Rattle.schc_bits.proofs.PartBits.{piece-front}
use Rattle.schc_bits.proofs.Reading.{number_at-takes}
use Rattle.rcs.specs.Division.{rcs_of}
use Rattle.rcs.specs.Words.{byte_step, word_after, Sum, empty_sum, begun_of, sum_of, added, Sums}
use Rattle.rcs.specs.Words.{check_of_sum}
use Rattle.rcs.proofs.Steps.{word_after-append, check_of-bytes}

parts : (bits : List Bool) → octets (bytes_of bits) ++ begun_of bits ≡ bits
unfolding begun_of
parts bits = bytes_of-append-drop bits

begun-behind : (bytes : List ℕ) (bits : List Bool) → begun_of (octets bytes ++ bits) ≡ begun_of bits
unfolding begun_of
begun-behind bytes bits =
    let e : 8 * (length (octets bytes ++ bits) / 8) ≡ length
    (octets bytes) + 8 * (length bits / 8) =
    rw (length-append (octets bytes) bits, length-octets bytes) (omega arith)
    in
    ap (λ n. drop n (octets bytes ++ bits)) e
    ∙ drop-append-add (octets bytes) bits (8 * (length bits / 8))

sum_at : ℕ → List Bool → Sum
sum_at word bits = record { word = word_after word (bytes_of bits); begun = begun_of bits }

-- whole bytes go into the word
sum-behind : (word : ℕ) (bytes : List ℕ) (bits : List Bool) → AreBytes bytes
    → sum_at word (octets bytes ++ bits) ≡ sum_at (word_after word bytes) bits
unfolding sum_at
sum-behind word bytes bits small =
    rw (
      bytes_of-octets-append bytes bits small,
      begun-behind bytes bits,
      word_after-append bytes
          (bytes_of bits) word,
    ) refl

pub added-more : (sum : Sum) (first second : List Bool)
    → added (added sum first) second ≡ added sum (first ++ second)
unfolding added sum_at
added-more sum first second =
    let all : List Bool = sum.begun ++ first in
    let joined : sum.begun ++ (first ++ second) ≡ octets
    (bytes_of all) ++ (begun_of all ++ second) =
    sym (append_assoc sum.begun first second) ∙ ap (λ bits. bits ++ second) (sym (parts all))
    ∙ append_assoc (octets (bytes_of all)) (begun_of all) second
    in
    sym (ap (λ bits. sum_at sum.word bits) joined
    ∙ sum-behind sum.word (bytes_of all) (begun_of all ++ second) (AreBytes-bytes_of all))

pub check-sums : (bits : List Bool) → check_of_sum (added empty_sum bits) ≡ rcs_of bits
unfolding check_of_sum added empty_sum rcs_of
check-sums bits =
    let bytes : List ℕ = bytes_of bits in
    let whole : length (octets bytes) % 8 ≡ 0 = rw (length-octets bytes) (omega arith) in
    let all : bytes_of (padded bits) ≡ bytes ++ bytes_of (padded (begun_of bits)) =
    ap (λ x. bytes_of (padded x)) (sym (parts bits))
    ∙ ap bytes_of (padded-append (octets bytes) (begun_of bits) whole)
    ∙ bytes_of-octets-append bytes (padded (begun_of bits)) (AreBytes-bytes_of bits)
    in
    sym
    (
    check_of-bytes (bytes_of (padded bits)) (AreBytes-bytes_of (padded bits))
    ∙ ap (λ x. 2 ^ 32 - 1 - word_after 4294967295 x) all
    ∙ ap (λ x. 2 ^ 32 - 1 - x)
    (word_after-append bytes (bytes_of (padded (begun_of bits))) 4294967295)
    )

-- an empty register holds the sum of no bits
pub sums-none : Sums empty_sum []
unfolding Sums added empty_sum begun_of bytes_of first_bytes word_after
sums-none = refl

pub sums-more : (old new : Sum) (bits more : List Bool) → new ≡ added old more → Sums old bits
    → Sums new (bits ++ more)
unfolding Sums
sums-more old new bits more e h = e ∙ ap (λ s. added s more) h ∙ added-more empty_sum bits more

-- the check of a register that holds the sum of the bits is their reassembly check sequence
pub sums-value : (sum : Sum) (bits : List Bool) (value : ℕ) → value ≡ check_of_sum sum
    → Sums sum bits → value ≡ rcs_of bits
unfolding Sums
sums-value sum bits value e h = e ∙ ap check_of_sum h ∙ check-sums bits

-- the bits of two numbers, one behind the other
pub join-bits : (count part width value : ℕ) → value < 2 ^ width
    → number_bits count part ++ number_bits width value ≡ number_bits (count + width)
    (part * 2 ^ width + value)
join-bits count part width value h =
    sym
    (
    number_bits-append count width (part * 2 ^ width + value)
    ∙ ap (λ n. number_bits count n ++ number_bits width (part * 2 ^ width + value))
    (div-mul-add part (2 ^ width) value h)
    ∙ ap (λ bits. number_bits count part ++ bits)
    (sym (number_bits-mod width (part * 2 ^ width + value)))
    ∙ ap (λ n. number_bits count part ++ number_bits width n) (mod-mul-add part (2 ^ width) value h)
    )

-- fewer bits than a byte has stay begun
short-begun : (word count number : ℕ) → count < 8
    → sum_at word
    (number_bits count number) ≡ record { word = word; begun = number_bits count number }
unfolding begun_of word_after sum_at number_bits
short-begun word count number short =
    let size : length (number_bits count number) < 8 = rw (length-number_bits count number) short in
    let none : 8 * (length (number_bits count number) / 8) ≡ 0 = omega (arith, size) in
    rw (bytes_of-short (number_bits count number) size, none) refl

-- the byte that is begun isn't full
pub put-short : (word count part width value window : ℕ) → value < 2 ^ width
    → window ≡ part * 2 ^ width + value → count + width < 8
    → record { word = word; begun = number_bits (count + width) window } ≡ added
    (record { word = word; begun = number_bits count part }) (number_bits width value)
unfolding added sum_at
put-short word count part width value window h e short =
    let same : number_bits count part ++ number_bits width value ≡ number_bits (count + width)
    window =
    join-bits count part width value h ∙ ap (λ n. number_bits (count + width) n) (sym e)
    in
    sym (ap (λ bits. sum_at word bits) same ∙ short-begun word (count + width) window short)

-- the byte that was begun is full
pub put-long : (word count part width value window over : ℕ) → value < 2 ^ width
    → window ≡ part * 2 ^ width + value → count + width ≡ 8 + over → over < 8
    → window / 2 ^ over < 256
    → record {
      word = byte_step word (window / 2 ^ over);
      begun =
          number_bits over (window % 2 ^ over);
    } ≡ added
    (record { word = word; begun = number_bits count part }) (number_bits width value)
unfolding added word_after sum_at
put-long word count part width value window over h e long short small =
    let byte : ℕ = window / 2 ^ over in
    let same : number_bits count part ++ number_bits width value ≡ octets (byte ∷ []) ++ number_bits
    over window =
    join-bits count part width value h
    ∙ ap (λ n. number_bits (count + width) n) (sym e)
    ∙ ap (λ n. number_bits n window) long
    ∙ number_bits-append 8 over window
    ∙ ap (λ bits. bits ++ number_bits over window) (sym (append-nil (number_bits 8 byte)))
    in
    sym
    (
    ap (λ bits. sum_at word bits) same
    ∙ sum-behind word (byte ∷ []) (number_bits over window) (small, tt)
    ∙ short-begun (byte_step word byte) over window short
    ∙ ap (λ bits. record { word = byte_step word byte; begun = bits })
    (sym (number_bits-mod over window))
    )

-- no bit is begun
pub check-whole : (word count part : ℕ) → count ≡ 0
    → 4294967295 - word ≡ check_of_sum (record { word = word; begun = number_bits count part })
unfolding check_of_sum number_bits word_after
check-whole word count part e =
    let none : bytes_of (padded []) ≡ [] = ap bytes_of (padded-whole [] refl)
    ∙ bytes_of-short [] (omega arith) in
    rw (e, none) refl

-- the byte that is begun goes on with zeros
pub check-begun : (word count part : ℕ) → 0 < count → count < 8 → part < 2 ^ count
    → 4294967295 - byte_step word (part * 2 ^ (8 - count)) ≡ check_of_sum
    (record { word = word; begun = number_bits count part })
unfolding check_of_sum word_after
check-begun word count part some short h =
    let bits : List Bool = number_bits count part in
    let size : length bits ≡ count = length-number_bits count part in
    let front : take 8 bits ≡ bits = take_all 8 bits (omega (arith, size, short)) in
    let value : bits_value (take 8 bits) * 2 ^ (8 - length (take 8 bits)) ≡ part * 2 ^ (8 - count) =
    ap (λ x. bits_value x * 2 ^ (8 - length x)) front
    ∙ ap (λ n. n * 2 ^ (8 - length bits)) (bits_value-number_bits count part h)
    ∙ ap (λ n. part * 2 ^ (8 - n)) size
    in
    let none : bytes_of (padded (drop 8 bits)) ≡ [] =
    ap (λ x. bytes_of (padded x)) (drop_all 8 bits (omega (arith, size, short)))
    ∙ ap bytes_of (padded-whole [] refl) ∙ bytes_of-short [] (omega arith)
    in
    let byte : bytes_of (padded bits) ≡ part * 2 ^ (8 - count) ∷ [] =
    bytes_of-padded-more bits (omega (arith, size, some))
    ∙ ap (λ n. n ∷ bytes_of (padded (drop 8 bits))) value
    ∙ ap (λ x. part * 2 ^ (8 - count) ∷ x) none
    in
    sym (ap (λ x. 4294967295 - word_after word x) byte)

byte-piece : (byte r width : ℕ) (rest : List Bool) → r + width ≤ 8
    → take width (drop r (number_bits 8 byte)) ≡ take width (drop r (number_bits 8 byte ++ rest))
byte-piece byte r width rest h =
    ap (λ bits. take width (drop r bits))
    (sym (take_at (number_bits 8 byte) rest 8 (length-number_bits 8 byte)))
    ∙ piece-front (number_bits 8 byte ++ rest) 8 r width h

-- the bits of a byte of the bytes
pub octets-piece : (bytes : List ℕ) (i r width default : ℕ) → i < length bytes → r + width ≤ 8
    → take width (drop r (number_bits 8 (get_or bytes i default))) ≡ take width
    (drop (8 * i + r) (octets bytes))
octets-piece [] i r width default h k = absurd (omega (arith, h))
octets-piece (byte ∷ bytes) zero r width default h k =
    byte-piece byte r width (octets bytes) k
    ∙ ap (λ n. take width (drop n (octets (byte ∷ bytes))))
    (let e : r ≡ 8 * 0 + r = omega arith in e)
octets-piece (byte ∷ bytes) (suc i) r width default h k =
    let e : 8 * suc i + r ≡ length (number_bits 8 byte) + (8 * i + r) =
    omega (arith, length-number_bits 8 byte) in
    octets-piece bytes i r width default (omega (arith, h)) k
    ∙ ap (λ bits. take width bits)
    (sym (ap (λ n. drop n (octets (byte ∷ bytes))) e
    ∙ drop-append-add (number_bits 8 byte) (octets bytes) (8 * i + r)))

-- a range of bits begins
pub range-none : (sum : Sum) (bits piece : List Bool) (from : ℕ) → Sums sum bits
    → Sums sum (bits ++ take (from - from) piece)
range-none sum bits piece from h =
    let none : from - from ≡ 0 = omega arith in
    subst (λ all. Sums sum all) (sym (ap (λ n. bits ++ take n piece) none ∙ append-nil bits)) h

-- a range of bits grows
pub range-more : (now new : Sum) (bits octs : List Bool) (from at width : ℕ) → from ≤ at
    → Sums now (bits ++ take (at - from) (drop from octs))
    → new ≡ added now (take width (drop at octs))
    → Sums new (bits ++ take (at + width - from) (drop from octs))
range-more now new bits octs from at width h e f =
    let place : from + (at - from) ≡ at = omega (arith, h) in
    let next : drop at octs ≡ drop (at - from) (drop from octs) =
    sym (drop-drop (at - from) from octs ∙ ap (λ n. drop n octs) place) in
    let size : at - from + width ≡ at + width - from = omega (arith, h) in
    let all : (bits ++ take (at - from) (drop from octs)) ++ take width
    (drop at octs) ≡ bits ++ take (at + width - from) (drop from octs) =
    append_assoc bits (take (at - from) (drop from octs)) (take width (drop at octs))
    ∙ ap (λ more. bits ++ (take (at - from) (drop from octs) ++ take width more)) next
    ∙ ap (λ more. bits ++ more) (sym (take-add (at - from) width (drop from octs)))
    ∙ ap (λ n. bits ++ take n (drop from octs)) size
    in
    subst (λ x. Sums new x) all
    (sums-more now new (bits ++ take (at - from) (drop from octs)) (take width (drop at octs)) f
    e)

-- the next bits of a reader are added
pub read-more : (sum new : Sum) (count number : ℕ) (bits rest : List Bool)
    → number_at count bits ≡ Some (number, rest) → new ≡ added sum (number_bits count number)
    → added new rest ≡ added sum bits
read-more sum new count number bits rest e f =
    let parted : bits ≡ number_bits count number ++ rest =
    (number_at-takes count bits number rest e).0 in
    ap (λ s. added s rest) f ∙ added-more sum (number_bits count number) rest
    ∙ ap (λ x. added sum x) (sym parted)

nil-of : (bits : List Bool) → length bits ≡ 0 → bits ≡ []
nil-of [] h = refl
nil-of (bit ∷ bits) h = absurd (omega (arith, h))

-- fewer bits are left
pub read-shorter : (count number : ℕ) (bits rest : List Bool) → 0 < count
    → number_at count bits ≡ Some (number, rest) → length rest < length bits
read-shorter count number bits rest some e =
    let parted : bits ≡ number_bits count number ++ rest =
    (number_at-takes count bits number rest e).0 in
    omega (
      arith,
      some,
      ap length parted,
      length-append (number_bits count number) rest,
      length-number_bits count number,
    )

-- the last bits of a reader are added
pub read-last : (sum new : Sum) (count number : ℕ) (bits rest : List Bool) → count ≡ length bits
    → number_at count bits ≡ Some (number, rest) → new ≡ added sum (number_bits count number)
    → new ≡ added sum bits
read-last sum new count number bits rest size e f =
    let parted : bits ≡ number_bits count number ++ rest =
    (number_at-takes count bits number rest e).0 in
    let none : length rest ≡ 0 =
    omega (
      arith,
      size,
      ap length parted,
      length-append (number_bits count number) rest,
      length-number_bits count number,
    ) in
    f ∙ ap (λ x. added sum x)
    (sym (append-nil (number_bits count number))
    ∙ ap (λ x. number_bits count number ++ x) (sym (nil-of rest none)) ∙ sym parted)

-- all bits of a reader are added
pub rcs-from : (value : ℕ) (begin first last : Sum) (bits rest : List Bool) → begin ≡ empty_sum
    → added first rest ≡ added begin bits → last ≡ added first rest → value ≡ check_of_sum last
    → value ≡ rcs_of bits
rcs-from value begin first last bits rest e f g h = h
    ∙ ap check_of_sum (g ∙ f ∙ ap (λ s. added s bits) e) ∙ check-sums bits

-- a number in `count` bits with one in `width` bits behind it is one in `count + width` bits
pub window-below : (count part width value : ℕ) → part < 2 ^ count → value < 2 ^ width
    → part * 2 ^ width + value < 2 ^ (count + width)
window-below count part width value h k =
    let below : part * 2 ^ width + value < 2 ^ (width + count) =
    rw (pow-add 2 width count) (mul-add-lt part (2 ^ width) value (2 ^ count) h k) in
    subst (λ n. part * 2 ^ width + value < 2 ^ n)
    (let e : width + count ≡ count + width = omega arith in e) below

-- a number that is moved up to at most 16 bits loses nothing in a word of 32 bits
pub shl-small : (part width count : ℕ) → part < 2 ^ count → count + width ≤ 16
    → part * 2 ^ width % 4294967296 ≡ part * 2 ^ width
shl-small part width count h few =
    let below : part * 2 ^ width < 2 ^ (count + width) = shl_below part count width h in
    let most : 2 ^ (count + width) ≤ 2 ^ 16 = pow_mono few in
    mod-eq_of_lt (omega (arith, below, most))

-- one whole byte is added, and then the others
pub bytes-more : (word count part byte window : ℕ) (rest : List ℕ) → byte < 256
    → window ≡ part * 2 ^ 8 + byte → count < 8 → window / 2 ^ count < 256 →
    added (sum_of (byte_step word (window / 2 ^ count)) count (window % 2 ^ count))
    (octets rest) ≡ added (sum_of word count part) (octets (byte ∷ rest))
bytes-more word count part byte window rest h e few small =
    let long : count + 8 ≡ 8 + count = omega arith in
    ap (λ sum. added sum (octets rest))
    (put-long word count part 8 byte window count (omega (arith, h)) e long few small)
    ∙ added-more (sum_of word count part) (number_bits 8 byte) (octets rest)

-- to add no bits changes nothing, where fewer bits than a byte has are begun
pub bytes-none : (word count part : ℕ) → count < 8 → part < 2 ^ count
    → sum_of word count part ≡ added (sum_of word count part) []
unfolding added word_after sum_at
bytes-none word count part few small =
    sym (ap (λ bits. sum_at word bits) (append-nil (number_bits count part))
    ∙ short-begun word count part few)

-- the bits of whole bytes
pub whole-piece : (bytes : List ℕ) (first whole at : ℕ) → 8 * first ≡ at
    → octets (take whole (drop first bytes)) ≡ take (8 * whole) (drop at (octets bytes))
whole-piece bytes first whole at e =
    sym (ap (λ n. take (8 * whole) (drop n (octets bytes))) (sym e)
    ∙ ap (λ bits. take (8 * whole) bits) (drop-octets first bytes)
    ∙ take-octets whole (drop first bytes))

-- what goes into the word of a window is a byte
pub full-byte : (window count : ℕ) → window < 2 ^ (count + 8) → window / 2 ^ count < 256
full-byte window count h =
    let same : count + 8 ≡ 8 + count = omega arith in
    let below = shr_below window 8 count (subst (λ n. window < 2 ^ n) same h) in
    omega (arith, below)
