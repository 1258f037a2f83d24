-- Numbers to send, read from the bits of the windows.
use Rattle.std.specs.Prelude.{ℕ, ◌≡◌, ◌+◌, ◌-◌, ◌*◌, ◌/◌, ◌%◌, ◌^◌, ◌==◌, ◌&&◌, ◌<◌, ◌≤◌, ◌≢◌, zero}
use Rattle.std.specs.Prelude.{suc, not, nat_lt, Bool, true, false, List, [], ◌∷◌, ◌++◌, length}
use Rattle.std.specs.Prelude.{get_or, drop, replicate, slice_set, Option, Some, None, ◌⊎◌}
use Rattle.std.proofs.Common.{arith, ap, refl, sym, subst, ◌∙◌, inl, inr}
use Rattle.std.proofs.lemmas.Bool.{cases_lt, le-leb, leb-true, eq-eqb, ne_eqb, eqb-true, eqb-false}
use Rattle.std.proofs.lemmas.Bool.{ltb-true, ltb-false}
use Rattle.std.proofs.lemmas.List.{get_or_append_left, get_or-append_right, get_or-drop}
use Rattle.std.proofs.lemmas.List.{append_assoc, length-append, length-drop, length-replicate}
use Rattle.std.proofs.lemmas.List.{drop_more, drop_all, drop_at}
use Rattle.schc_bits.specs.Bits.{number_bits}
use Rattle.schc_bits.proofs.NumberBits.{length-number_bits, number_bits-zero}
use Rattle.tiles_bitmap.specs.Places.{numbers_from, missing, goes_on, one_more, run}
use Rattle.std.proofs.Math.Dec.{leb}
use Rattle.aoe_sender.specs.declared.to_send.TileRun.{TileRun}
use Rattle.aoe_sender.specs.Marks.{windows_bits, numbers_of, first_run, follows}

-- of a number in so many bits, the highest first, the bit at i is that of 2^(count - 1 - i)
pub get_or-number_bits : (count number i : ℕ) (d : Bool) → i < count
    → get_or (number_bits count number) i d ≡ (number / 2 ^ (count - 1 - i) % 2 == 1)
unfolding number_bits
get_or-number_bits zero number i d h = absurd (omega arith)
get_or-number_bits (suc count) number zero d h =
    let e : suc count - 1 - 0 ≡ count = omega arith in
    rw e
get_or-number_bits (suc count) number (suc i) d h =
    let e : suc count - 1 - suc i ≡ count - 1 - i = omega arith in
    rw e (get_or-number_bits count number i d (omega arith))

-- a bit of the windows is a bit of one of them
pub get_or-windows : (words : List ℕ) (i : ℕ) → i < 63 * length words
    → (get_or words (i / 63) 0 / 2 ^ (62 - i % 63) % 2 == 1) ≡ get_or (windows_bits words) i false
unfolding windows_bits
get_or-windows [] i h = absurd (omega arith)
get_or-windows (word ∷ words) i h =
    elim (cases_lt i 63) [
      | inl first ↦
          let q : i / 63 ≡ 0 = omega arith in
          let r : 62 - i % 63 ≡ 63 - 1 - i = omega arith in
          rw (
            q,
            r,
            get_or_append_left (number_bits 63 word) (windows_bits words) false i
                (omega (arith, length-number_bits 63 word)),
          )
          (sym (get_or-number_bits 63 word i false first))
      | inr later ↦
          let q : i / 63 ≡ suc ((i - 63) / 63) = omega arith in
          let r : i % 63 ≡ (i - 63) % 63 = omega arith in
          rw (
            q,
            r,
            get_or-append_right (number_bits 63 word) (windows_bits words) 63 i false
                (length-number_bits 63 word) (omega arith),
          )
          (get_or-windows words (i - 63) (omega arith))
    ]

pub length-windows : (words : List ℕ) → length (windows_bits words) ≡ 63 * length words
unfolding windows_bits
length-windows [] = refl
length-windows (word ∷ words) =
    omega (
      arith,
      length-append (number_bits 63 word) (windows_bits words),
      length-number_bits 63
          word,
      length-windows words,
    )

-- one number on
missing-held : (k left : ℕ) (bits : List Bool) (bit : Bool) → bit ≡ true
    → missing k (suc left) (bit ∷ bits) ≡ missing (suc k) left bits
unfolding missing
missing-held k left bits true e = refl
missing-held k left bits false e = absurd cc

missing-free : (k left : ℕ) (bits : List Bool) (bit : Bool) → bit ≡ false
    → missing k (suc left) (bit ∷ bits) ≡ k ∷ missing (suc k) left bits
unfolding missing
missing-free k left bits true e = absurd cc
missing-free k left bits false e = refl

missing-none : (k left : ℕ) (bits : List Bool) → left ≡ 0 → missing k left bits ≡ []
unfolding missing
missing-none k zero bits e = refl
missing-none k (suc left) bits e = absurd (omega arith)

-- a number whose bit is 1 isn't to be sent: the same ones are from it on as from the next on
pub numbers_of-held : (words : List ℕ) (k end : ℕ) → k < end → k < length (windows_bits words)
    → get_or (windows_bits words) k false ≡ true
    → numbers_of words k end ≡ numbers_of words (k + 1) end
unfolding numbers_of
numbers_of-held words k end h there e =
    let left : end - k ≡ suc (end - (k + 1)) = omega arith in
    let next : k + 1 ≡ suc k = omega arith in
    rw (
      drop_more (windows_bits words) k false there,
      left,
      missing-held k (end - (k + 1))
          (drop (k + 1) (windows_bits words)) (get_or (windows_bits words) k false) e,
      next,
    )

pub numbers_of-free : (words : List ℕ) (k end : ℕ) → k < end → k < length (windows_bits words)
    → get_or (windows_bits words) k false ≡ false
    → numbers_of words k end ≡ k ∷ numbers_of words (k + 1) end
unfolding numbers_of
numbers_of-free words k end h there e =
    let left : end - k ≡ suc (end - (k + 1)) = omega arith in
    let next : k + 1 ≡ suc k = omega arith in
    rw (
      drop_more (windows_bits words) k false there,
      left,
      missing-free k (end - (k + 1))
          (drop (k + 1) (windows_bits words)) (get_or (windows_bits words) k false) e,
      next,
    )

-- from the end on no number is to be sent
pub numbers_of-none : (words : List ℕ) (k end : ℕ) → end ≤ k → numbers_of words k end ≡ []
unfolding numbers_of
numbers_of-none words k end h = missing-none k (end - k) (drop k (windows_bits words)) (omega arith)

-- no bit is set
missing-zeros : (k left n : ℕ) → left ≤ n → missing k left (replicate n false) ≡ numbers_from k left
unfolding missing numbers_from
missing-zeros k zero n h = refl
missing-zeros k (suc left) zero h = absurd (omega arith)
missing-zeros k (suc left) (suc n) h =
    ap (λ numbers. k ∷ numbers) (missing-zeros (suc k) left n (omega arith))

zeros-are : windows_bits (0 ∷ 0 ∷ 0 ∷ 0 ∷ []) ≡ replicate 252 false
unfolding windows_bits
zeros-are = rw (number_bits-zero 63)

-- where no tile of the four windows is held, all numbers below the count are to be sent
pub numbers_of-all : (count : ℕ) → count ≤ 252
    → numbers_of (0 ∷ 0 ∷ 0 ∷ 0 ∷ []) 0 count ≡ numbers_from 0 count
unfolding numbers_of
numbers_of-all count h =
    let all : count - 0 ≡ count = omega arith in
    rw (zeros-are, all) (missing-zeros 0 count 252 h)

-- all bits behind are set
missing-ones : (k left n : ℕ) → missing k left (replicate n true) ≡ []
unfolding missing
missing-ones k zero n = refl
missing-ones k (suc left) zero = refl
missing-ones k (suc left) (suc n) = missing-ones (suc k) left n

missing-behind : (k left n : ℕ) (bits : List Bool)
    → missing k left (bits ++ replicate n true) ≡ missing k left bits
unfolding missing
missing-behind k zero n bits = refl
missing-behind k (suc left) n [] = missing-ones k (suc left) n
missing-behind k (suc left) n (true ∷ bits) = missing-behind (suc k) left n bits
missing-behind k (suc left) n (false ∷ bits) =
    ap (λ numbers. k ∷ numbers) (missing-behind (suc k) left n bits)

full-is : number_bits 63 9223372036854775807 ≡ replicate 63 true
unfolding number_bits
full-is = refl

abbrev pub full : ℕ
full = 9223372036854775807

-- the numbers of four windows of which each tile is held
abbrev pub fulls : List ℕ
fulls = full ∷ full ∷ full ∷ full ∷ []

-- behind the windows up to this one all bits are set
pub record IsBehind (words : List ℕ) (from : ℕ) (bits : List Bool) : Type 0 where
  pub more : ℕ
  pub same : drop from (windows_bits words) ≡ bits ++ replicate more true

-- from one window on
behind-0 : (bitmap : ℕ) → IsBehind (bitmap ∷ full ∷ full ∷ full ∷ []) 0 (number_bits 63 bitmap)
unfolding windows_bits
behind-0 bitmap = record { more = 189; same = rw full-is }

after-first : (word from : ℕ) (words : List ℕ) (bits : List Bool) → IsBehind words from bits
    → IsBehind (word ∷ words) (63 + from) bits
unfolding windows_bits
after-first word from words bits b =
    record {
      more = b.more;
      same = sym
          (Rattle.std.proofs.lemmas.List.drop-drop from 63
          (number_bits 63 word ++ windows_bits words))
          ∙ ap (λ rest. drop from rest)
          (drop_at (number_bits 63 word) (windows_bits words) 63 (length-number_bits 63 word))
          ∙ b.same;
    }

behind-1 : (bitmap : ℕ) → IsBehind (bitmap ∷ full ∷ full ∷ []) 0 (number_bits 63 bitmap)
unfolding windows_bits
behind-1 bitmap = record { more = 126; same = rw full-is }

behind-2 : (bitmap : ℕ) → IsBehind (bitmap ∷ full ∷ []) 0 (number_bits 63 bitmap)
unfolding windows_bits
behind-2 bitmap = record { more = 63; same = rw full-is }

behind-3 : (bitmap : ℕ) → IsBehind (bitmap ∷ []) 0 (number_bits 63 bitmap)
unfolding windows_bits
behind-3 bitmap = record { more = 0; same = refl }

behind : (w bitmap : ℕ) → w < 4
    → IsBehind (slice_set fulls w bitmap) (w * 63) (number_bits 63 bitmap)
behind zero bitmap h = behind-0 bitmap
behind (suc zero) bitmap h =
    after-first full 0 (bitmap ∷ full ∷ full ∷ []) (number_bits 63 bitmap) (behind-1 bitmap)
behind (suc (suc zero)) bitmap h =
    after-first full 63 (full ∷ bitmap ∷ full ∷ []) (number_bits 63 bitmap)
    (after-first full 0 (bitmap ∷ full ∷ []) (number_bits 63 bitmap) (behind-2 bitmap))
behind (suc (suc (suc zero))) bitmap h =
    after-first full 126 (full ∷ full ∷ bitmap ∷ []) (number_bits 63 bitmap)
    (after-first full 63 (full ∷ bitmap ∷ []) (number_bits 63 bitmap)
    (after-first full 0 (bitmap ∷ []) (number_bits 63 bitmap) (behind-3 bitmap)))
behind (suc (suc (suc (suc w)))) bitmap h = absurd (omega arith)

-- where the other windows are full, what a window lacks below the count is all that is to be sent
pub numbers_of-missing : (w bitmap count : ℕ) → w < 4
    → numbers_of (slice_set fulls w bitmap) (w * 63) count ≡ missing (w * 63) (count - w * 63)
    (number_bits 63 bitmap)
unfolding numbers_of
numbers_of-missing w bitmap count h =
    let b = behind w bitmap h in
    ap (λ bits. missing (w * 63) (count - w * 63) bits) b.same
    ∙ missing-behind (w * 63) (count - w * 63) b.more (number_bits 63 bitmap)

-- runs
abbrev pub further : ℕ → ℕ × List ℕ → ℕ × List ℕ
further n taken = (n + taken.0, taken.1)

next-follows : (k : ℕ) → suc k % 63 ≢ 0 → goes_on 63 k (suc k) ≡ true
unfolding goes_on
next-follows k h = rw (eq-eqb (suc k) (suc k) refl, ne_eqb (suc k % 63) 0 h)

window-ends : (k : ℕ) → suc k % 63 ≡ 0 → goes_on 63 k (suc k) ≡ false
unfolding goes_on
window-ends k h = rw (eq-eqb (suc k) (suc k) refl, eq-eqb (suc k % 63) 0 h)

gap-ends : (k next : ℕ) → next ≢ suc k → goes_on 63 k next ≡ false
unfolding goes_on
gap-ends k next h = rw (ne_eqb next (suc k) h)

run-more : (most k : ℕ) (numbers : List ℕ) → goes_on 63 k (suc k) ≡ true
    → run 63 (suc most) k
    (suc k ∷ numbers) ≡ (suc (run 63 most (suc k) numbers).0, (run 63 most (suc k) numbers).1)
unfolding run one_more
run-more most k numbers e = rw e

run-other : (most k next : ℕ) (numbers : List ℕ) → goes_on 63 k next ≡ false
    → run 63 most k (next ∷ numbers) ≡ (0, next ∷ numbers)
unfolding run one_more
run-other zero k next numbers e = refl
run-other (suc most) k next numbers e = rw e

run-none : (most k : ℕ) → run 63 most k [] ≡ (0, [])
unfolding run
run-none zero k = refl
run-none (suc most) k = refl

run-room : (k : ℕ) (numbers : List ℕ) → run 63 0 k numbers ≡ (0, numbers)
unfolding run
run-room k numbers = refl

-- numbers from further on don't follow
run-skips : (most k j left : ℕ) (bits : List Bool) → suc k < j
    → run 63 most k (missing j left bits) ≡ (0, missing j left bits)
unfolding missing
run-skips most k j zero bits h = run-none most k
run-skips most k j (suc left) [] h = run-none most k
run-skips most k j (suc left) (true ∷ bits) h = run-skips most k (suc j) left bits (omega arith)
run-skips most k j (suc left) (false ∷ bits) h =
    run-other most k j (missing (suc j) left bits) (gap-ends k j (λ e. omega arith))

-- what follows a number
record IsNext (words : List ℕ) (end number : ℕ) : Type 0 where
  below : number < end
  inside : number % 63 ≢ 0
  free : get_or (windows_bits words) number false ≡ false

follows-if : (words : List ℕ) (end number : ℕ) (a b c : Bool) → nat_lt number end ≡ a
    → (number % 63 == 0) ≡ b → get_or (windows_bits words) number false ≡ c
    → (a && not b && not c) ≡ true → IsNext words end number
follows-if words end number false b c ea eb ec e = absurd cc
follows-if words end number true true c ea eb ec e = absurd cc
follows-if words end number true false true ea eb ec e = absurd cc
follows-if words end number true false false ea eb ec e =
    record { below = ltb-true number end ea; inside = eqb-false (number % 63) 0 eb; free = ec }

is-next : (words : List ℕ) (end number : ℕ) → follows words end number ≡ true
    → IsNext words end number
unfolding follows
is-next words end number e =
    follows-if words end number (nat_lt number end) (number % 63 == 0)
    (get_or (windows_bits words) number false) refl refl refl e

-- a number below the end has a bit in the four windows
pub there : (words : List ℕ) (end number : ℕ) → length words ≡ 4 → end ≤ 252 → number < end
    → number < length (windows_bits words)
there words end number four most h = omega (arith, length-windows words)

-- one number more goes with it
pub run-goes : (words : List ℕ) (end room k : ℕ) → length words ≡ 4 → end ≤ 252 → 0 < room
    → follows words end (k + 1) ≡ true →
    run 63 room k (numbers_of words (k + 1) end) ≡ further 1
    (run 63 (room - 1) (k + 1) (numbers_of words (k + 1 + 1) end))
run-goes words end zero k four most some e = absurd (omega arith)
run-goes words end (suc room) k four most some e =
    let n = is-next words end (k + 1) e in
    let next : k + 1 ≡ suc k = omega arith in
    let less : suc room - 1 ≡ room = omega arith in
    let first : numbers_of words (k + 1) end ≡ (k + 1) ∷ numbers_of words (k + 1 + 1) end =
    numbers_of-free words (k + 1) end n.below (there words end (k + 1) four most n.below) n.free
    in
    let inside : suc k % 63 ≢ 0 = subst (λ m. m % 63 ≢ 0) next n.inside in
    ap (λ numbers. run 63 (suc room) k numbers) first
    ∙ ap (λ m. run 63 (suc room) k (m ∷ numbers_of words (k + 1 + 1) end)) next
    ∙ run-more room k (numbers_of words (k + 1 + 1) end) (next-follows k inside)
    ∙ one-more (run 63 room (suc k) (numbers_of words (k + 1 + 1) end))
    ∙ ap (λ m. further 1 (run 63 room m (numbers_of words (k + 1 + 1) end))) (sym next)
    ∙ ap (λ m. further 1 (run 63 m (k + 1) (numbers_of words (k + 1 + 1) end))) (sym less)
  where
    one-more : (taken : ℕ × List ℕ) → ◌≡◌ {A = ℕ × List ℕ} (suc taken.0, taken.1) (further 1 taken)
    one-more taken = let e : suc taken.0 ≡ 1 + taken.0 = omega arith in
        ap (λ (n : ℕ). (n, taken.1)) e

-- none more goes with it
stops-if : (words : List ℕ) (end room k : ℕ) (a b c : Bool) → length words ≡ 4 → end ≤ 252 →
    nat_lt (k + 1) end ≡ a → ((k + 1) % 63 == 0) ≡ b → get_or (windows_bits words) (k + 1) false ≡ c
    → (a && not b && not c) ≡ false →
    run 63 room k (numbers_of words (k + 1) end) ≡ (0, numbers_of words (k + 1) end)
unfolding numbers_of
stops-if words end room k false b c four most ea eb ec e =
    let none : numbers_of words (k + 1) end ≡ [] =
    numbers_of-none words (k + 1) end (ltb-false (k + 1) end ea) in
    rw none (run-none room k)
stops-if words end room k true b true four most ea eb ec e =
    let low : k + 1 < end = ltb-true (k + 1) end ea in
    let skips : numbers_of words (k + 1) end ≡ numbers_of words (k + 1 + 1) end =
    numbers_of-held words (k + 1) end low (there words end (k + 1) four most low) ec in
    rw skips
    (run-skips room k (k + 1 + 1) (end - (k + 1 + 1)) (drop (k + 1 + 1) (windows_bits words))
    (omega arith))
stops-if words end room k true true false four most ea eb ec e =
    let low : k + 1 < end = ltb-true (k + 1) end ea in
    let next : k + 1 ≡ suc k = omega arith in
    let last : suc k % 63 ≡ 0 = subst (λ m. m % 63 ≡ 0) next (eqb-true ((k + 1) % 63) 0 eb) in
    let other : goes_on 63 k (k + 1) ≡ false = ap (λ m. goes_on 63 k m) next ∙ window-ends k last in
    let first : numbers_of words (k + 1) end ≡ (k + 1) ∷ numbers_of words (k + 1 + 1) end =
    numbers_of-free words (k + 1) end low (there words end (k + 1) four most low) ec
    in
    rw first (run-other room k (k + 1) (numbers_of words (k + 1 + 1) end) other)
stops-if words end room k true false false four most ea eb ec e = absurd cc

-- a run ends before a number that is past the end, the first of its window, or held
pub run-stops : (words : List ℕ) (end room k : ℕ) → length words ≡ 4 → end ≤ 252
    → follows words end (k + 1) ≡ false →
    run 63 room k (numbers_of words (k + 1) end) ≡ (0, numbers_of words (k + 1) end)
unfolding follows
run-stops words end room k four most e =
    stops-if words end room k (nat_lt (k + 1) end) ((k + 1) % 63 == 0)
    (get_or (windows_bits words) (k + 1) false) four most refl refl refl e

-- a run that has no room for a tile more ends
pub run-full : (words : List ℕ) (end room k : ℕ) → room ≤ 0
    → run 63 room k (numbers_of words (k + 1) end) ≡ (0, numbers_of words (k + 1) end)
run-full words end zero k h = run-room k (numbers_of words (k + 1) end)
run-full words end (suc room) k h = absurd (omega arith)

-- the run so far, with one number more
pub further-next : (n : ℕ) (all taken rest : ℕ × List ℕ) → further n taken ≡ all
    → taken ≡ further 1 rest → further (n + 1) rest ≡ all
further-next n all taken rest e f =
    let same : n + 1 + rest.0 ≡ n + (1 + rest.0) = omega arith in
    ap (λ (m : ℕ). (m, rest.1)) same ∙ sym (ap (further n) f) ∙ e

pub further-ends : (n : ℕ) (all taken : ℕ × List ℕ) (rest : List ℕ) → further n taken ≡ all
    → taken ≡ (0, rest) → (n ≡ all.0) × (rest ≡ all.1)
further-ends n all taken rest e f =
    let g : ◌≡◌ {A = ℕ × List ℕ} (n + 0, rest) all = sym (ap (further n) f) ∙ e in
    let zero_more : n ≡ n + 0 = omega arith in
    (zero_more ∙ ap (λ (p : ℕ × List ℕ). p.0) g, ap (λ (p : ℕ × List ℕ). p.1) g)

-- the loop over a run
pub record RunSoFar (words : List ℕ) (end most first more : ℕ) : Type 0 where
  pub same : further more
      (run 63 (most - more) (first + more) (numbers_of words (first + more + 1) end)) ≡ run 63 most
      first (numbers_of words (first + 1) end)
  pub within : first + more < end

-- a run takes in the next number where that follows in the same window and there is room for it
pub run-next : (words : List ℕ) (end most first more : ℕ) → length words ≡ 4 → end ≤ 252
    → more < most → follows words end (first + more + 1) ≡ true → RunSoFar words end most first more
    → RunSoFar words end most first (more + 1)
run-next words end most first more four few some e r =
    let n = is-next words end (first + more + 1) e in
    let k : first + more + 1 ≡ first + (more + 1) = omega arith in
    let left : most - more - 1 ≡ most - (more + 1) = omega arith in
    let goes = run-goes words end (most - more) (first + more) four few (omega arith) e in
    let all : ℕ × List ℕ = run 63 most first (numbers_of words (first + 1) end) in
    let next : further (more + 1)
    (run 63 (most - more - 1) (first + more + 1)
    (numbers_of words (first + more + 1 + 1) end)) ≡ all =
    further-next more all
    (run 63 (most - more) (first + more) (numbers_of words (first + more + 1) end))
    (run 63 (most - more - 1) (first + more + 1) (numbers_of words (first + more + 1 + 1) end))
    r.same goes
    in
    record {
      same = subst
          (λ m. further (more + 1)
          (run 63 (most - (more + 1)) m (numbers_of words (m + 1) end)) ≡ all) k
          (subst (λ m. further (more + 1)
          (run 63 m (first + more + 1) (numbers_of words (first + more + 1 + 1) end)) ≡ all)
          left next);
      within = let below = n.below in omega arith;
    }

-- a run begins with a first number below the end, and none found yet that goes with it
pub run-begins : (words : List ℕ) (end most first : ℕ) → first < end
    → RunSoFar words end most first 0
run-begins words end most first h =
    let none : first + 0 ≡ first = omega arith in
    let all : most - 0 ≡ most = omega arith in
    record {
      same = rw (none, all) (same-taken (run 63 most first (numbers_of words (first + 1) end)));
      within = omega arith;
    }
  where
    same-taken : (taken : ℕ × List ℕ) → further 0 taken ≡ taken
    same-taken taken = let e : 0 + taken.0 ≡ taken.0 = omega arith in ap (λ (n : ℕ). (n, taken.1)) e

-- the run that was found
pub record IsRunFrom (words : List ℕ) (end most first more : ℕ) : Type 0 where
  pub count : more ≡ (run 63 most first (numbers_of words (first + 1) end)).0
  pub rest : numbers_of words (first + more + 1)
      end ≡ (run 63 most first (numbers_of words (first + 1) end)).1

-- where no number more goes with it, what was found so far is the run, and the others are left
pub run-done : (words : List ℕ) (end most first more : ℕ) → RunSoFar words end most first more →
    run 63 (most - more) (first + more)
    (numbers_of words (first + more + 1) end) ≡ (0, numbers_of words (first + more + 1) end)
    → IsRunFrom words end most first more
run-done words end most first more r e =
    let both =
    further-ends more (run 63 most first (numbers_of words (first + 1) end))
    (run 63 (most - more) (first + more) (numbers_of words (first + more + 1) end))
    (numbers_of words (first + more + 1) end) r.same e in
    record { count = both.0; rest = both.1 }

-- the first number that is left
pub empty-is : (words : List ℕ) (k end : ℕ) (numbers : List ℕ) → length words ≡ 4 → end ≤ 252
    → numbers_of words k end ≡ numbers → (k < end → get_or (windows_bits words) k false ≡ false) →
    (leb end k ≡ true → numbers ≡ []) × (numbers ≡ [] → leb end k ≡ true)
empty-is words k end numbers four most e free = (
  λ h. sym e
      ∙ numbers_of-none words k end (leb-true end k h),
  λ none. is-past none (cases_lt k end),
)
  where
    is-past : numbers ≡ [] → (k < end) ⊎ (end ≤ k) → leb end k ≡ true
    is-past none (inr past) = le-leb end k past
    is-past none (inl low) =
        let some : numbers_of words k end ≡ k ∷ numbers_of words (k + 1) end =
        numbers_of-free words k end low (there words end k four most low) (free low) in
        let no : k ∷ numbers_of words (k + 1) end ≡ [] = sym some ∙ e ∙ none in
        absurd cc

-- where the numbers are those from the end on, there is no run
pub first-none : (words : List ℕ) (k end most : ℕ) (numbers : List ℕ)
    → numbers_of words k end ≡ numbers → end ≤ k → None ≡ first_run most numbers
unfolding first_run
first-none words k end most numbers e h = let none : [] ≡ numbers =
    sym (numbers_of-none words k end h) ∙ e in ap (first_run most) none

abbrev some_run : ℕ → ℕ → List ℕ → Option (TileRun × List ℕ)
some_run k more rest = Some (record { first = k; more = more }, rest)

-- a number to send, with those found to follow it, is the first run, and the others are left
pub first-some : (words : List ℕ) (k end most more : ℕ) (numbers : List ℕ) → length words ≡ 4
    → end ≤ 252 → numbers_of words k end ≡ numbers → k < end
    → get_or (windows_bits words) k false ≡ false →
    IsRunFrom words end most k more
    → Some (record { first = k; more = more }, numbers_of words (k + more + 1) end) ≡ first_run
    most numbers
unfolding first_run
first-some words k end most more numbers four few e low free r =
    let some : k ∷ numbers_of words (k + 1) end ≡ numbers =
    sym (numbers_of-free words k end low (there words end k four few low) free) ∙ e in
    let taken : ℕ × List ℕ = run 63 most k (numbers_of words (k + 1) end) in
    ap (λ (n : ℕ). some_run k n (numbers_of words (k + more + 1) end)) r.count
    ∙ ap (λ (rest : List ℕ). some_run k taken.0 rest) r.rest
    ∙ ap (first_run most) some
