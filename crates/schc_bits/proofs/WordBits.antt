-- Bits kept in words of 64 bits.
use Rattle.std.specs.Prelude.{ℕ, ◌≡◌, ◌+◌, ◌-◌, ◌*◌, ◌/◌, ◌%◌, ◌^◌, ◌<◌, ◌≤◌, zero, suc, Bool}
use Rattle.std.specs.Prelude.{false, List, [], ◌∷◌, ◌++◌, length, get_or, set, take, drop}
use Rattle.std.specs.Prelude.{replicate, bit_or}
use Rattle.std.proofs.Common.{arith, ap, refl, sym, subst, ◌∙◌}
use Rattle.std.proofs.lemmas.List.{append_assoc, append-nil, length-append, length-take-le}
use Rattle.std.proofs.lemmas.List.{length-replicate, take_all, take_at, take_more, drop_at}
use Rattle.std.proofs.lemmas.List.{drop_all, drop_more, take-append-drop, take-append-le}
use Rattle.std.proofs.lemmas.List.{drop-append-le, take-take, set_split}
use Rattle.std.proofs.lemmas.Nat.{pow_pos, shl-shr, shr_split, shr_below, shl_below, shl_whole}
use Rattle.std.proofs.lemmas.Nat.{or_shifted, div-mul-add, mod-mul-add}
use Rattle.std.proofs.Math.Seq.{drop-append-add}
use Rattle.schc_bits.specs.Bits.{number_bits, bits_value}
use Rattle.schc_bits.specs.Words.{words_bits, IsFilled}
use Rattle.schc_bits.proofs.NumberBits.{length-number_bits, number_bits-append, number_bits-mod}
use Rattle.schc_bits.proofs.NumberBits.{number_bits-zero, bits_value-number_bits}
use Rattle.schc_bits.proofs.NumberBits.{bits_value-number_bits_mod, bits_value-replicate_false}
use Rattle.schc_bits.proofs.NumberBits.{take-number_bits, drop-number_bits}

-- words have 64 bits each
pub length-words_bits : (words : List ℕ) → length (words_bits words) ≡ 64 * length words
unfolding words_bits
length-words_bits [] = refl
length-words_bits (word ∷ words) =
    rw (
      length-append (number_bits 64 word) (words_bits words),
      length-number_bits 64 word,
      length-words_bits words,
    ) (omega arith)

pub words_bits-append : (front back : List ℕ)
    → words_bits (front ++ back) ≡ words_bits front ++ words_bits back
unfolding words_bits
words_bits-append [] back = refl
words_bits-append (word ∷ front) back =
    rw (words_bits-append front back)
    (sym (append_assoc (number_bits 64 word) (words_bits front) (words_bits back)))

pub words_bits-one : (word : ℕ) → words_bits (word ∷ []) ≡ number_bits 64 word
unfolding words_bits
words_bits-one word = append-nil (number_bits 64 word)

pub words_bits-more : (word : ℕ) (words : List ℕ)
    → words_bits (word ∷ words) ≡ number_bits 64 word ++ words_bits words
unfolding words_bits
words_bits-more word words = refl

-- words that hold `count` bits, and those bits
abbrev pub Holds : List ℕ → List Bool → ℕ → Type 0
Holds words bits count = IsFilled words count × (take count (words_bits words) ≡ bits)

-- bits, and fewer zeros behind them than a word has
pub holds-from : (words : List ℕ) (bits : List Bool) (count zeros : ℕ) → length bits ≡ count
    → zeros < 64 → words_bits words ≡ bits ++ replicate zeros false → Holds words bits count
holds-from words bits count zeros l h e =
    let size : 64 * length words ≡ count + zeros =
    sym (length-words_bits words) ∙ ap length e ∙ length-append bits (replicate zeros false)
    ∙ rw (l, length-replicate zeros false) refl
    in
    let left : 64 * length words - count ≡ zeros = omega arith in
    let front : take count (words_bits words) ≡ bits =
    rw e (take_at bits (replicate zeros false) count l) in
    let back : drop count (words_bits words) ≡ replicate (64 * length words - count) false =
    rw (left, e) (drop_at bits (replicate zeros false) count l) in
    (record { least = omega arith; clear = back }, front)

pub filled-is : (words : List ℕ) (count zeros : ℕ) → IsFilled words count
    → 64 * length words ≡ count + zeros
    → words_bits words ≡ take count (words_bits words) ++ replicate zeros false
filled-is words count zeros f h =
    let left : 64 * length words - count ≡ zeros = omega arith in
    sym (take-append-drop count (words_bits words))
    ∙ ap (λ rest. take count (words_bits words) ++ rest)
    (f.clear ∙ ap (λ n. replicate n false) left)

pub filled-enough : (words : List ℕ) (count : ℕ) → IsFilled words count → count ≤ 64 * length words
filled-enough words count f = let least = f.least in omega (arith, least)

-- the bits that filled words hold are as many as is said of them
pub length-held : (words : List ℕ) (count : ℕ) → IsFilled words count
    → length (take count (words_bits words)) ≡ count
length-held words count f =
    length-take-le count (words_bits words)
    (rw (length-words_bits words) (filled-enough words count f))

-- an empty list of words holds 0 bits
pub filled-none : (words : List ℕ) → words ≡ [] → IsFilled words 0
unfolding words_bits
filled-none words e = rw e (record { least = refl; clear = refl })

-- the low bits of a number that was moved up are zero
low-zeros : (low number : ℕ) → number_bits low (number * 2 ^ low) ≡ replicate low false
low-zeros low number =
    let turned : number * 2 ^ low ≡ number * 2 ^ low + 0 = omega arith in
    let none : number * 2 ^ low % 2 ^ low ≡ 0 = ap (λ n. n % 2 ^ low) turned
    ∙ mod-mul-add number (2 ^ low) 0 (pow_pos low) in
    sym (number_bits-mod low (number * 2 ^ low)) ∙ ap (λ n. number_bits low n) none
    ∙ number_bits-zero low

pub number_bits-shl : (high low number : ℕ) → high + low ≡ 64
    → number_bits 64 (number * 2 ^ low % 2 ^ 64) ≡ number_bits high number ++ replicate low false
number_bits-shl high low number h =
    let both : number_bits (high + low) (number * 2 ^ low) ≡ number_bits high number ++ replicate
    low false =
    number_bits-append high low (number * 2 ^ low)
    ∙ ap (λ n. number_bits high n ++ number_bits low (number * 2 ^ low)) (shl-shr number low)
    ∙ ap (λ bits. number_bits high number ++ bits) (low-zeros low number)
    in
    number_bits-mod 64 (number * 2 ^ low)
    ∙ subst (λ n. number_bits n (number * 2 ^ low) ≡ number_bits high number ++ replicate low
    false) h both

pub number_bits-joined : (high low a b : ℕ) → b < 2 ^ low
    → number_bits (high + low) (a * 2 ^ low + b) ≡ number_bits high a ++ number_bits low b
number_bits-joined high low a b h =
    let below : number_bits low (a * 2 ^ low + b) ≡ number_bits low b =
    sym (number_bits-mod low (a * 2 ^ low + b))
    ∙ ap (λ n. number_bits low n) (mod-mul-add a (2 ^ low) b h)
    in
    number_bits-append high low (a * 2 ^ low + b)
    ∙ ap (λ n. number_bits high n ++ number_bits low (a * 2 ^ low + b))
    (div-mul-add a (2 ^ low) b h)
    ∙ ap (λ bits. number_bits high a ++ bits) below

-- bits are set where a word ends in zeros
pub number_bits-or : (used room word more : ℕ) → used + room ≡ 64
    → number_bits room word ≡ replicate room false → more < 2 ^ room
    → number_bits 64 (bit_or word more) ≡ number_bits used (word / 2 ^ room) ++ number_bits room
    more
number_bits-or used room word more h clear fits =
    let low : word % 2 ^ room ≡ 0 = sym (bits_value-number_bits_mod room word) ∙ ap bits_value clear
    ∙ bits_value-replicate_false room in
    let whole : word / 2 ^ room * 2 ^ room ≡ word = omega (arith, shr_split word room) in
    let sum : bit_or word more ≡ word / 2 ^ room * 2 ^ room + more =
    ap (λ w. bit_or w more) (sym whole) ∙ or_shifted (word / 2 ^ room) room more fits
    in
    ap (λ n. number_bits 64 n) sum
    ∙ subst (λ n. number_bits n (word / 2 ^ room * 2 ^ room + more) ≡ number_bits used
    (word / 2 ^ room) ++ number_bits room more) h
    (number_bits-joined used room (word / 2 ^ room) more fits)

word_parts : (used room word : ℕ) → used + room ≡ 64
    → number_bits 64 word ≡ number_bits used (word / 2 ^ room) ++ number_bits room word
word_parts used room word h =
    subst (λ n. number_bits n word ≡ number_bits used (word / 2 ^ room) ++ number_bits room word) h
    (number_bits-append used room word)

-- the last word, in two parts
last_parts : (words : List ℕ) (i used room : ℕ) → length words ≡ i + 1 → used + room ≡ 64
    → words_bits
    words ≡ (words_bits (take i words) ++ number_bits used
    (get_or words i 0 / 2 ^ room)) ++ number_bits room (get_or words i 0)
last_parts words i used room n h =
    let split : words ≡ take i words ++ get_or words i 0 ∷ [] =
    sym (take_all (i + 1) words (omega arith)) ∙ take_more words i 0 (omega arith) in
    ap words_bits split
    ∙ words_bits-append (take i words) (get_or words i 0 ∷ [])
    ∙ ap (λ bits. words_bits (take i words) ++ bits)
    (words_bits-one (get_or words i 0) ∙ word_parts used room (get_or words i 0) h)
    ∙ sym (append_assoc (words_bits (take i words)) (number_bits used (get_or words i 0 / 2 ^ room))
    (number_bits room (get_or words i 0)))

length-front : (words : List ℕ) (i used number : ℕ) → i ≤ length words
    → length (words_bits (take i words) ++ number_bits used number) ≡ 64 * i + used
length-front words i used number n =
    rw (
      length-append (words_bits (take i words)) (number_bits used number),
      length-words_bits
          (take i words),
      length-take-le i words n,
      length-number_bits used number,
    ) refl

set_last : (words : List ℕ) (i word : ℕ) → length words ≡ i + 1
    → words_bits (set words i word) ≡ words_bits (take i words) ++ number_bits 64 word
set_last words i word n =
    let split : set words i word ≡ take i words ++ word ∷ [] =
    set_split words i word (omega arith)
    ∙ ap (λ rest. take i words ++ word ∷ rest) (drop_all (suc i) words (omega arith))
    in
    ap words_bits split ∙ words_bits-append (take i words) (word ∷ [])
    ∙ ap (λ bits. words_bits (take i words) ++ bits) (words_bits-one word)

-- bits are set behind those that a last word holds
pub words_bits-or : (words : List ℕ) (bits : List Bool) (i used room more : ℕ)
    → words_bits words ≡ bits ++ replicate room false → length words ≡ i + 1
    → length bits ≡ 64 * i + used → used + room ≡ 64 → more < 2 ^ room
    → words_bits (set words i (bit_or (get_or words i 0) more)) ≡ bits ++ number_bits room more
words_bits-or words bits i used room more e n l h fits =
    let word : ℕ = get_or words i 0 in
    let high : List Bool = words_bits (take i words) ++ number_bits used (word / 2 ^ room) in
    let parts : high ++ number_bits room word ≡ bits ++ replicate room false =
    sym (last_parts words i used room n h) ∙ e in
    let width : length high ≡ 64 * i + used =
    length-front words i used (word / 2 ^ room) (omega arith) in
    let front : high ≡ bits =
    sym (take_at high (number_bits room word) (64 * i + used) width)
    ∙ ap (λ all. take (64 * i + used) all) parts
    ∙ take_at bits (replicate room false) (64 * i + used) l
    in
    let back : number_bits room word ≡ replicate room false =
    sym (drop_at high (number_bits room word) (64 * i + used) width)
    ∙ ap (λ all. drop (64 * i + used) all) parts
    ∙ drop_at bits (replicate room false) (64 * i + used) l
    in
    set_last words i (bit_or word more) n
    ∙ ap (λ rest. words_bits (take i words) ++ rest)
    (number_bits-or used room word more h back fits)
    ∙ sym (append_assoc (words_bits (take i words)) (number_bits used (word / 2 ^ room))
    (number_bits room more))
    ∙ ap (λ before. before ++ number_bits room more) front

-- a new word behind full ones
pub put-fresh : (words : List ℕ) (bits : List Bool) (filled value count zeros : ℕ)
    → words_bits words ≡ bits → length bits ≡ filled → 1 ≤ count → count + zeros ≡ 64
    → Holds (words ++ value * 2 ^ zeros % 2 ^ 64 ∷ []) (bits ++ number_bits count value)
    (filled + count)
put-fresh words bits filled value count zeros e l some h =
    let word : ℕ = value * 2 ^ zeros % 2 ^ 64 in
    let after : words_bits (words ++ word ∷ []) ≡ (bits ++ number_bits count value) ++ replicate
    zeros false =
    words_bits-append words (word ∷ [])
    ∙ ap (λ front. front ++ words_bits (word ∷ [])) e
    ∙ ap (λ back. bits ++ back) (words_bits-one word ∙ number_bits-shl count zeros value h)
    ∙ sym (append_assoc bits (number_bits count value) (replicate zeros false))
    in
    let width : length (bits ++ number_bits count value) ≡ filled + count =
    rw (length-append bits (number_bits count value), l, length-number_bits count value) refl in
    holds-from (words ++ word ∷ []) (bits ++ number_bits count value) (filled + count) zeros width
    (omega arith) after

-- behind full words, `count` more bits are held by a new word that has them highest
pub put-new : (words : List ℕ) (filled value count : ℕ) → IsFilled words filled → filled % 64 ≡ 0
    → 1 ≤ count → count ≤ 64
    → Holds (words ++ value * 2 ^ (64 - count) % 2 ^ 64 ∷ [])
    (take filled (words_bits words) ++ number_bits count value) (filled + count)
put-new words filled value count f whole some most =
    let least = f.least in
    let before : words_bits words ≡ take filled (words_bits words) =
    filled-is words filled 0 f (omega (arith, least))
    ∙ append-nil (take filled (words_bits words)) in
    put-fresh words (take filled (words_bits words)) filled value count (64 - count) before
    (length-held words filled f) some (omega arith)

-- where the last word has room for all `count` bits, they are held once it has them behind its own
pub put-within : (words : List ℕ) (filled value count room : ℕ) → IsFilled words filled
    → 0 < filled % 64 → filled % 64 + room ≡ 64 → count ≤ room → value < 2 ^ count
    → Holds (set words (filled / 64)
    (bit_or (get_or words (filled / 64) 0) (value * 2 ^ (room - count) % 2 ^ 64)))
    (take filled (words_bits words) ++ number_bits count value) (filled + count)
put-within words filled value count room f used h within fits =
    let least = f.least in
    let bits : List Bool = take filled (words_bits words) in
    let zeros : ℕ = room - count in
    let sum : count + zeros ≡ room = omega arith in
    let whole : value * 2 ^ zeros % 2 ^ 64 ≡ value * 2 ^ zeros =
    shl_whole value count zeros 64 fits (omega arith) in
    let below : value * 2 ^ zeros < 2 ^ room =
    subst (λ n. value * 2 ^ zeros < 2 ^ n) sum (shl_below value count zeros fits) in
    let before : words_bits words ≡ bits ++ replicate room false =
    filled-is words filled room f (omega (arith, least)) in
    let width : length bits ≡ 64 * (filled / 64) + filled % 64 = length-held words filled f
    ∙ omega arith in
    let turned : value * 2 ^ zeros ≡ value * 2 ^ zeros + 0 = omega arith in
    let low : number_bits room (value * 2 ^ zeros) ≡ number_bits count value ++ replicate zeros
    false =
    ap (λ n. number_bits room n) turned
    ∙ subst (λ n. number_bits n (value * 2 ^ zeros + 0) ≡ number_bits count value ++ number_bits
    zeros 0) sum (number_bits-joined count zeros value 0 (pow_pos zeros))
    ∙ ap (λ rest. number_bits count value ++ rest) (number_bits-zero zeros)
    in
    let set_bits : words_bits
    (set words (filled / 64)
    (bit_or (get_or words (filled / 64) 0) (value * 2 ^ zeros % 2 ^ 64))) ≡ (bits ++ number_bits
    count value) ++ replicate zeros false =
    ap (λ more. words_bits (set words (filled / 64) (bit_or (get_or words (filled / 64) 0) more)))
    whole
    ∙ words_bits-or words bits (filled / 64) (filled % 64) room (value * 2 ^ zeros) before
    (omega (arith, least)) width h below
    ∙ ap (λ rest. bits ++ rest) low
    ∙ sym (append_assoc bits (number_bits count value) (replicate zeros false))
    in
    let long : length (bits ++ number_bits count value) ≡ filled + count =
    rw (
      length-append bits (number_bits count value),
      length-held words filled f,
      length-number_bits count value,
    ) refl in
    holds-from _ (bits ++ number_bits count value) (filled + count) zeros long (omega arith)
    set_bits

set-append : (words : List ℕ) (more : List ℕ) (i word : ℕ) → i < length words
    → set (words ++ more) i word ≡ set words i word ++ more
set-append [] more i word h = absurd (omega arith)
set-append (x ∷ words) more zero word h = refl
set-append (x ∷ words) more (suc i) word h =
    ap (λ rest. x ∷ rest) (set-append words more i word (omega arith))

get_or-front : (words : List ℕ) (more : List ℕ) (i : ℕ) → i < length words
    → get_or (words ++ more) i 0 ≡ get_or words i 0
get_or-front [] more i h = absurd (omega arith)
get_or-front (x ∷ words) more zero h = refl
get_or-front (x ∷ words) more (suc i) h = get_or-front words more i (omega arith)

-- where the last word has room for the first of the bits only, all are held once it has those, and
-- a new word the others, highest in it
pub put-across : (words : List ℕ) (filled value count room over : ℕ) → IsFilled words filled
    → 0 < filled % 64 → filled % 64 + room ≡ 64 → count ≡ room + over → 0 < over → count ≤ 64
    → value < 2 ^ count
    → Holds (set (words ++ value * 2 ^ (64 - over) % 2 ^ 64 ∷ []) (filled / 64)
    (bit_or (get_or (words ++ value * 2 ^ (64 - over) % 2 ^ 64 ∷ []) (filled / 64) 0)
    (value / 2 ^ over))) (take filled (words_bits words) ++ number_bits count value)
    (filled + count)
put-across words filled value count room over f used h sum some most fits =
    let least = f.least in
    let i : ℕ = filled / 64 in
    let bits : List Bool = take filled (words_bits words) in
    let last : ℕ = value * 2 ^ (64 - over) % 2 ^ 64 in
    let place : i < length words = omega (arith, least) in
    let below : value / 2 ^ over < 2 ^ room =
    shr_below value room over (subst (λ n. value < 2 ^ n) sum fits) in
    let before : words_bits words ≡ bits ++ replicate room false =
    filled-is words filled room f (omega (arith, least)) in
    let width : length bits ≡ 64 * i + filled % 64 = length-held words filled f ∙ omega arith in
    let front : words_bits
    (set words i (bit_or (get_or words i 0) (value / 2 ^ over))) ≡ bits ++ number_bits room
    (value / 2 ^ over) =
    words_bits-or words bits i (filled % 64) room (value / 2 ^ over) before (omega (arith, least))
    width h below
    in
    let long : length (bits ++ number_bits room (value / 2 ^ over)) ≡ filled + room =
    rw (
      length-append bits (number_bits room (value / 2 ^ over)),
      length-held words filled f,
      length-number_bits room (value / 2 ^ over),
    ) refl in
    let put =
    put-fresh (set words i (bit_or (get_or words i 0) (value / 2 ^ over)))
    (bits ++ number_bits room (value / 2 ^ over)) (filled + room) value over (64 - over) front
    long some (omega arith) in
    let same : set (words ++ last ∷ []) i
    (bit_or (get_or (words ++ last ∷ []) i 0) (value / 2 ^ over)) ≡ set words i
    (bit_or (get_or words i 0) (value / 2 ^ over)) ++ last ∷ [] =
    set-append words (last ∷ []) i (bit_or (get_or (words ++ last ∷ []) i 0) (value / 2 ^ over))
    place
    ∙ ap (λ word. set words i (bit_or word (value / 2 ^ over)) ++ last ∷ [])
    (get_or-front words (last ∷ []) i place)
    in
    let count_same : filled + room + over ≡ filled + count = omega arith in
    let bits_same : (bits ++ number_bits room (value / 2 ^ over)) ++ number_bits over
    value ≡ bits ++ number_bits count value =
    append_assoc bits (number_bits room (value / 2 ^ over)) (number_bits over value)
    ∙ ap (λ rest. bits ++ rest)
    (sym (number_bits-append room over value) ∙ ap (λ n. number_bits n value) (sym sum))
    in
    rw (same, ← bits_same, ← count_same) put

-- the word at which the bits from a place on begin
from_word : (words : List ℕ) (from i used : ℕ) → from ≡ 64 * i + used → used < 64 → i < length words
    → drop from (words_bits words) ≡ number_bits (64 - used) (get_or words i 0) ++ words_bits
    (drop (i + 1) words)
from_word words from i used e h place =
    let word : ℕ = get_or words i 0 in
    let rest : List ℕ = drop (i + 1) words in
    let split : words ≡ take i words ++ word ∷ rest =
    sym (take-append-drop i words) ∙ ap (λ back. take i words ++ back) (drop_more words i 0 place)
    in
    let all : words_bits words ≡ words_bits
    (take i words) ++ (number_bits 64 word ++ words_bits rest) =
    ap words_bits split ∙ words_bits-append (take i words) (word ∷ rest)
    ∙ ap (λ back. words_bits (take i words) ++ back) (words_bits-more word rest)
    in
    let width : length (words_bits (take i words)) ≡ 64 * i =
    rw (length-words_bits (take i words), length-take-le i words (omega arith)) refl in
    let turned : from ≡ length (words_bits (take i words)) + used = rw width e in
    let sum : used + (64 - used) ≡ 64 = omega arith in
    let back : drop used (number_bits 64 word) ≡ number_bits (64 - used) word =
    subst (λ n. drop used (number_bits n word) ≡ number_bits (64 - used) word) sum
    (drop-number_bits used (64 - used) word)
    in
    ap (λ n. drop n (words_bits words)) turned
    ∙ ap (λ bits. drop (length (words_bits (take i words)) + used) bits) all
    ∙ drop-append-add (words_bits (take i words)) (number_bits 64 word ++ words_bits rest) used
    ∙ drop-append-le used (number_bits 64 word) (words_bits rest)
    (omega (arith, length-number_bits 64 word))
    ∙ ap (λ bits. bits ++ words_bits rest) back

-- bits that lie within one word are the first bits of that word, moved up to where they begin
pub top-within : (words : List ℕ) (from count : ℕ) → from % 64 + count ≤ 64 → 1 ≤ count
    → from + count ≤ 64 * length words
    → take count (number_bits 64 (get_or words (from / 64) 0 * 2 ^ (from % 64) % 2 ^ 64)) ≡ take
    count (drop from (words_bits words))
top-within words from count within some h =
    let used : ℕ = from % 64 in
    let word : ℕ = get_or words (from / 64) 0 in
    let width : length (number_bits (64 - used) word) ≡ 64 - used =
    length-number_bits (64 - used) word in
    ap (λ bits. take count bits) (number_bits-shl (64 - used) used word (omega arith))
    ∙ take-append-le count (number_bits (64 - used) word) (replicate used false) (omega arith)
    ∙ sym (take-append-le count (number_bits (64 - used) word)
    (words_bits (drop (from / 64 + 1) words)) (omega arith))
    ∙ ap (λ bits. take count bits)
    (sym (from_word words from (from / 64) used (omega arith) (omega arith) (omega arith)))

-- bits that lie in two words are the first bits of the one, moved up to where they begin, with the
-- other moved down behind them
pub top-across : (words : List ℕ) (from count : ℕ) → 64 < from % 64 + count → count ≤ 64
    → from + count ≤ 64 * length words → get_or words (from / 64 + 1) 0 < 2 ^ 64
    → take count
    (number_bits 64
    (bit_or (get_or words (from / 64) 0 * 2 ^ (from % 64) % 2 ^ 64)
    (get_or words (from / 64 + 1) 0 / 2 ^ (64 - from % 64)))) ≡ take count
    (drop from (words_bits words))
top-across words from count across most h fits =
    let used : ℕ = from % 64 in
    let i : ℕ = from / 64 in
    let word : ℕ = get_or words i 0 in
    let next : ℕ = get_or words (i + 1) 0 in
    let first : ℕ = word * 2 ^ used % 2 ^ 64 in
    let sum : (64 - used) + used ≡ 64 = omega arith in
    let other : used + (64 - used) ≡ 64 = omega arith in
    let moved : number_bits 64 first ≡ number_bits (64 - used) word ++ replicate used false =
    number_bits-shl (64 - used) used word sum in
    let parts : number_bits (64 - used) (first / 2 ^ used) ++ number_bits used first ≡ number_bits
    (64 - used) word ++ replicate used false =
    sym (word_parts (64 - used) used first sum) ∙ moved
    in
    let high : number_bits (64 - used) (first / 2 ^ used) ≡ number_bits (64 - used) word =
    sym (take_at (number_bits (64 - used) (first / 2 ^ used)) (number_bits used first) (64 - used)
    (length-number_bits (64 - used) (first / 2 ^ used)))
    ∙ ap (λ bits. take (64 - used) bits) parts
    ∙ take_at (number_bits (64 - used) word) (replicate used false) (64 - used)
    (length-number_bits (64 - used) word)
    in
    let low : number_bits used first ≡ replicate used false =
    sym (drop_at (number_bits (64 - used) (first / 2 ^ used)) (number_bits used first) (64 - used)
    (length-number_bits (64 - used) (first / 2 ^ used)))
    ∙ ap (λ bits. drop (64 - used) bits) parts
    ∙ drop_at (number_bits (64 - used) word) (replicate used false) (64 - used)
    (length-number_bits (64 - used) word)
    in
    let below : next / 2 ^ (64 - used) < 2 ^ used =
    shr_below next used (64 - used) (subst (λ n. next < 2 ^ n) (sym other) fits) in
    let both : List Bool =
    number_bits (64 - used) word ++ number_bits used (next / 2 ^ (64 - used)) in
    let width : length both ≡ 64 =
    rw (
      length-append (number_bits (64 - used) word) (number_bits used (next / 2 ^ (64 - used))),
      length-number_bits (64 - used) word,
      length-number_bits used (next / 2 ^ (64 - used)),
    ) sum
    in
    let result : number_bits 64 (bit_or first (next / 2 ^ (64 - used))) ≡ both =
    number_bits-or (64 - used) used first (next / 2 ^ (64 - used)) sum low below
    ∙ ap (λ bits. bits ++ number_bits used (next / 2 ^ (64 - used))) high
    in
    let later : List Bool = number_bits (64 - used) next ++ words_bits (drop (i + 1 + 1) words) in
    let after : words_bits (drop (i + 1) words) ≡ number_bits used
    (next / 2 ^ (64 - used)) ++ later =
    ap words_bits (drop_more words (i + 1) 0 (omega arith))
    ∙ words_bits-more next (drop (i + 1 + 1) words)
    ∙ ap (λ bits. bits ++ words_bits (drop (i + 1 + 1) words))
    (word_parts used (64 - used) next other)
    ∙ append_assoc (number_bits used (next / 2 ^ (64 - used))) (number_bits (64 - used) next)
    (words_bits (drop (i + 1 + 1) words))
    in
    let source : drop from (words_bits words) ≡ both ++ later =
    from_word words from i used (omega arith) (omega arith) (omega arith)
    ∙ ap (λ bits. number_bits (64 - used) word ++ bits) after
    ∙ sym (append_assoc (number_bits (64 - used) word) (number_bits used (next / 2 ^ (64 - used)))
    later)
    in
    ap (λ bits. take count bits) result
    ∙ sym (take-append-le count both later (omega arith))
    ∙ ap (λ bits. take count bits) (sym source)

-- the highest `count` bits of a word, as a number
pub top-value : (word count : ℕ) → count ≤ 64 → word < 2 ^ 64
    → word / 2 ^ (64 - count) ≡ bits_value (take count (number_bits 64 word))
top-value word count most fits =
    let sum : count + (64 - count) ≡ 64 = omega arith in
    let top : take count (number_bits 64 word) ≡ number_bits count (word / 2 ^ (64 - count)) =
    subst (λ n. take count (number_bits n word) ≡ number_bits count (word / 2 ^ (64 - count))) sum
    (take-number_bits count (64 - count) word)
    in
    let below : word / 2 ^ (64 - count) < 2 ^ count =
    shr_below word count (64 - count) (subst (λ n. word < 2 ^ n) (sym sum) fits) in
    sym (ap bits_value top ∙ bits_value-number_bits count (word / 2 ^ (64 - count)) below)

-- the bits of the first words
words_bits-take : (words : List ℕ) (n : ℕ) → n ≤ length words
    → words_bits (take n words) ≡ take (64 * n) (words_bits words)
words_bits-take words n h =
    let all : words_bits words ≡ words_bits (take n words) ++ words_bits (drop n words) =
    ap words_bits (sym (take-append-drop n words)) ∙ words_bits-append (take n words) (drop n words)
    in
    let width : length (words_bits (take n words)) ≡ 64 * n =
    rw (length-words_bits (take n words), length-take-le n words h) refl in
    sym (ap (λ bits. take (64 * n) bits) all
    ∙ take_at (words_bits (take n words)) (words_bits (drop n words)) (64 * n) width)

-- where the first `count` bits are those of whole words, these words alone hold them
pub cut-whole : (words : List ℕ) (count n : ℕ) → count ≤ 64 * length words → count ≡ 64 * n
    → Holds (take n words) (take count (words_bits words)) count
cut-whole words count n h e =
    let front : words_bits (take n words) ≡ take count (words_bits words) =
    words_bits-take words n (omega arith) ∙ ap (λ m. take m (words_bits words)) (sym e) in
    let width : length (take count (words_bits words)) ≡ count =
    length-take-le count (words_bits words) (rw (length-words_bits words) h) in
    holds-from (take n words) (take count (words_bits words)) count 0 width (omega arith)
    (front ∙ sym (append-nil (take count (words_bits words))))

-- where the first `count` bits end within a word, the words up to it hold them, its rest made zero
pub cut-within : (words : List ℕ) (count n room : ℕ) → count ≤ 64 * length words → 0 < count % 64
    → n ≡ count / 64 + 1 → count % 64 + room ≡ 64
    → Holds (set (take n words) (count / 64)
    (get_or (take n words) (count / 64) 0 / 2 ^ room * 2 ^ room % 2 ^ 64))
    (take count (words_bits words)) count
cut-within words count n room h some e sum =
    let i : ℕ = count / 64 in
    let used : ℕ = count % 64 in
    let kept : List ℕ = take n words in
    let size : length kept ≡ i + 1 = length-take-le n words (omega arith) ∙ e in
    let word : ℕ = get_or kept i 0 in
    let high : List Bool = words_bits (take i kept) ++ number_bits used (word / 2 ^ room) in
    let width : length high ≡ count = length-front kept i used (word / 2 ^ room) (omega arith)
    ∙ omega arith in
    let front : take count (words_bits words) ≡ high =
    sym (take-take count (64 * n) (words_bits words) (omega arith))
    ∙ ap (λ bits. take count bits)
    (sym (words_bits-take words n (omega arith)) ∙ last_parts kept i used room size sum)
    ∙ take_at high (number_bits room word) count width
    in
    let after : words_bits (set kept i (word / 2 ^ room * 2 ^ room % 2 ^ 64)) ≡ high ++ replicate
    room false =
    set_last kept i (word / 2 ^ room * 2 ^ room % 2 ^ 64) size
    ∙ ap (λ bits. words_bits (take i kept) ++ bits)
    (number_bits-shl used room (word / 2 ^ room) sum)
    ∙ sym (append_assoc (words_bits (take i kept)) (number_bits used (word / 2 ^ room))
    (replicate room false))
    in
    rw front
    (holds-from (set kept i (word / 2 ^ room * 2 ^ room % 2 ^ 64)) high count room width
    (omega arith) after)

-- no bits more
pub put-none : (words : List ℕ) (filled value count : ℕ) → count ≡ 0
    → take (filled + count) (words_bits words) ≡ take filled (words_bits words) ++ number_bits count
    value
unfolding number_bits
put-none words filled value count e =
    rw (e, append-nil (take filled (words_bits words)))
    (ap (λ n. take n (words_bits words)) (let s : filled + 0 ≡ filled = omega arith in s))
