-- The wheel: what a tick, an opened place and a key that is filed anew do to it.
use Rattle.std.proofs.Common.{arith, sym, ap, refl, subst, ◌∙◌, ℕ, suc, zero, ◌≡◌, ◌≢◌, ◌==◌, ◌+◌}
use Rattle.std.proofs.Common.{◌-◌, ◌*◌, ◌/◌, ◌%◌, ◌^◌, ◌<◌, ◌≤◌, inl, inr, Bool, true, false, cond}
use Rattle.std.proofs.Common.{List, [], ◌∷◌, ◌++◌, Option, None, Some, map, take, drop, replicate}
use Rattle.std.proofs.Common.{length, slice_set, get_or, get_or-set_same, get_or-set_other}
use Rattle.std.proofs.Common.{le-div_iff_mul-le, div-lt_iff_lt-mul, eq-eqb, ne_eqb}
use Rattle.std.proofs.lemmas.Bool.{cases_lt, cases_eq, cond-true, cond-false}
use Rattle.std.proofs.lemmas.List.{length-set, length-replicate, get_or-replicate, map-set}
use Rattle.std.proofs.lemmas.List.Sums.{sum_by-set}
use Rattle.std.proofs.lemmas.Nat.{div-add-mod', div-mul-add, mod-mul-add, mod_below}
use Rattle.std.proofs.Math.Nat.{eq-or-lt_of_le, suc-mul}
use Rattle.std.specs.List.{sum_by, position_from}
use Rattle.timers.specs.Timers.{ticked, is_due, tick_step, first_due}
use Rattle.timers.specs.Wheel.{left, place_at, IsAhead, IsFiled, Begins, IsFiledFrom, IsKeyFiled}
use Rattle.timers.specs.Wheel.{IsIndex, IsPlaceOf, HasCome, IsElsewhere, IsFiledAnew}
use Rattle.timers.proofs.TimersLemmas.{first_due-from-zero}

-- a turn has some ticks
pub turn-pos : (level : ℕ) → 0 < 32 ^ level
turn-pos zero = omega arith
turn-pos (suc level) = let up = turn-pos level in grind (arith, up)

-- the turn after this one begins at the next tick or later, and where it has come then, it begins
-- then
next-turn : (now s n : ℕ) → 0 < s → now / s < n → n ≤ (now + 1) / s → ((now + 1) % s ≡ 0)
    × (n ≡ (now + 1) / s)
next-turn now s n pos before here =
    let whole = div-add-mod' now s in
    let rest = mod_below now s pos in
    elim (cases_lt (now % s + 1) s) [
      | inl more ↦
          let sum : now / s * s + (now % s + 1) ≡ now + 1 = omega (arith, whole) in
          let same : (now + 1) / s ≡ now / s = ap (λ x. x / s) (sym sum)
          ∙ div-mul-add (now / s) s (now % s + 1) more in
          absurd (omega (arith, same, before, here))
      | inr end ↦
          let sum : suc (now / s) * s + 0 ≡ now + 1 =
          omega (arith, whole, rest, end, suc-mul (now / s) s) in
          let turn : (now + 1) / s ≡ suc (now / s) = ap (λ x. x / s) (sym sum)
          ∙ div-mul-add (suc (now / s)) s 0 pos in
          let none : (now + 1) % s ≡ 0 = ap (λ x. x % s) (sym sum)
          ∙ mod-mul-add (suc (now / s)) s 0 pos in
          (none, omega (arith, turn, before, here))
    ]

-- a place ahead opens before the deadline, which is to come
pub ahead-lt : (now at place : ℕ) → IsAhead now at place → now < at
ahead-lt now at place a =
    let pos = turn-pos a.level in
    let low = (div-lt_iff_lt-mul pos).0 a.ahead in
    let high = (le-div_iff_mul-le pos).0 a.in_time in
    omega (arith, low, high)

ahead-later : (now at place : ℕ) (member : Bool) → member ≡ false → IsAhead now at place
    → IsFiledFrom (now + 1) 0 (Some at) member place
ahead-later now at place member out a =
    elim (cases_lt ((now + 1) / 32 ^ a.level) a.number) [
      | inl more ↦ inl
          (inr (
            out,
            record {
              level = a.level;
              number = a.number;
              level_is = a.level_is;
              ahead =
                  more;
              in_time = a.in_time;
              place_is = a.place_is;
            },
          ))
      | inr here ↦
          let turn = next-turn now (32 ^ a.level) a.number (turn-pos a.level) a.ahead here in
          inr (
            out,
            record {
              level = a.level;
              from_is = omega arith;
              level_is = a.level_is;
              begins =
                  turn.0;
              place_is = a.place_is ∙ ap (λ n. place_at a.level n) turn.1;
            },
          )
    ]

none-begins : (now place : ℕ) → Begins now 4 place → ⊥
none-begins now place b =
    let from = b.from_is in
    let level = b.level_is in
    omega (arith, from, level)

-- at the next tick a key is filed, or its place begins
filed-later : (now : ℕ) (deadline : Option ℕ) (member : Bool) (place : ℕ)
    → IsFiledFrom now 4 deadline member place → IsFiledFrom (now + 1) 0 deadline member place
filed-later now None member place (inl e) = inl e
filed-later now None member place (inr h) = inl h.0
filed-later now (Some at) member place (inl (inl h)) = inl (inl (omega (arith, h.0), h.1))
filed-later now (Some at) member place (inl (inr h)) = ahead-later now at place member h.0 h.1
filed-later now (Some at) member place (inr h) = absurd (none-begins now place h.1)

filed-opened : (now level : ℕ) (deadline : Option ℕ) (member : Bool) (place : ℕ)
    → place ≢ place_at level (now / 32 ^ level) →
    IsFiledFrom now level deadline member place → IsFiledFrom now (level + 1) deadline member place
filed-opened now level deadline member place other (inl h) = inl h
filed-opened now level deadline member place other (inr h) =
    let b = h.1 in
    elim (eq-or-lt_of_le b.from_is) [
      | inl same ↦ absurd (other (b.place_is ∙ ap (λ l. place_at l (now / 32 ^ l)) (sym same)))
      | inr more ↦ inr (
        h.0,
        record {
          level = b.level;
          from_is = omega (arith, more);
          level_is =
              b.level_is;
          begins = b.begins;
          place_is = b.place_is;
        },
      )
    ]

filed-skipped : (now level : ℕ) (deadline : Option ℕ) (member : Bool) (place : ℕ)
    → now % 32 ^ level ≢ 0 →
    IsFiledFrom now level deadline member place → IsFiledFrom now (level + 1) deadline member place
filed-skipped now level deadline member place other (inl h) = inl h
filed-skipped now level deadline member place other (inr h) =
    let b = h.1 in
    elim (eq-or-lt_of_le b.from_is) [
      | inl same ↦ absurd (other (subst (λ l. now % 32 ^ l ≡ 0) (sym same) b.begins))
      | inr more ↦ inr (
        h.0,
        record {
          level = b.level;
          from_is = omega (arith, more);
          level_is =
              b.level_is;
          begins = b.begins;
          place_is = b.place_is;
        },
      )
    ]

-- where all levels are opened, each key is a tick later filed, or at a place that begins then
pub index-later : (now : ℕ) (ds : List (Option ℕ)) (ms : List Bool) (ps : List ℕ)
    → IsIndex now 4 ds ms ps → IsIndex (now + 1) 0 ds ms ps
index-later now ds ms ps i = record {
  members_len = i.members_len;
  places_len = i.places_len;
  at = λ key inside. filed-later now (get_or ds key None) (get_or ms key false)
      (get_or ps (128 + key) 0) (i.at key inside);
}

pub index-opened : (now level : ℕ) (ds : List (Option ℕ)) (ms : List Bool) (ps : List ℕ) →
    ((key : ℕ) → 128 + key < length ps
    → get_or ps (128 + key) 0 ≢ place_at level (now / 32 ^ level)) →
    IsIndex now level ds ms ps → IsIndex now (level + 1) ds ms ps
index-opened now level ds ms ps none i = record {
  members_len = i.members_len;
  places_len = i.places_len;
  at = λ key inside.
      let len = i.places_len in
      filed-opened now level (get_or ds key None) (get_or ms key false) (get_or ps (128 + key) 0)
      (none key (omega (arith, inside, len))) (i.at key inside);
}

pub index-skipped : (now level : ℕ) (ds : List (Option ℕ)) (ms : List Bool) (ps : List ℕ)
    → now % 32 ^ level ≢ 0 →
    IsIndex now level ds ms ps → IsIndex now (level + 1) ds ms ps
index-skipped now level ds ms ps other i = record {
  members_len = i.members_len;
  places_len = i.places_len;
  at = λ key inside. filed-skipped now level (get_or ds key None) (get_or ms key false)
      (get_or ps (128 + key) 0) other (i.at key inside);
}

-- a key that is filed anew is filed, and so are the others that were
pub key-filed : (now from key : ℕ) (deadline : Option ℕ) (ds : List (Option ℕ)) (ms ms' : List Bool)
    (ps ps' : List ℕ) →
    IsFiledAnew now key deadline ms ms' ps ps' → get_or ds key None ≡ deadline → key < length ms
    → 128 + key < length ps →
    (k : ℕ) → (k ≢ key → IsKeyFiled now from ds ms ps k) → IsKeyFiled now from ds ms' ps' k
key-filed now from key deadline ds ms ms' ps ps' f is m-in p-in k others =
    elim (cases_eq k key) [
      | inl e ↦
          let d-is : get_or ds k None ≡ deadline = ap (λ x. get_or ds x None) e ∙ is in
          let m-is : get_or ms' k false ≡ f.member = ap (λ x. get_or ms' x false) e
          ∙ (ap (λ xs. get_or xs key false) f.members_are
          ∙ get_or-set_same ms key f.member false m-in) in
          let p-is : get_or ps' (128 + k) 0 ≡ f.place = ap (λ x. get_or ps' (128 + x) 0) e
          ∙ (ap (λ xs. get_or xs (128 + key) 0) f.places_are
          ∙ get_or-set_same ps (128 + key) f.place 0 p-in) in
          subst (λ x. IsFiledFrom now from x (get_or ms' k false) (get_or ps' (128 + k) 0))
          (sym d-is)
          (subst (λ x. IsFiledFrom now from deadline x (get_or ps' (128 + k) 0)) (sym m-is)
          (subst (λ x. IsFiledFrom now from deadline f.member x) (sym p-is) (inl f.filed)))
      | inr ne ↦
          let m-is : get_or ms' k false ≡ get_or ms k false =
          ap (λ xs. get_or xs k false) f.members_are
          ∙ get_or-set_other ms key k f.member false ne in
          let p-ne : 128 + k ≢ 128 + key = omega (arith, ne) in
          let p-is : get_or ps' (128 + k) 0 ≡ get_or ps (128 + k) 0 =
          ap (λ xs. get_or xs (128 + k) 0) f.places_are
          ∙ get_or-set_other ps (128 + key) (128 + k) f.place 0 p-ne in
          subst (λ x. IsFiledFrom now from (get_or ds k None) x (get_or ps' (128 + k) 0)) (sym m-is)
          (subst (λ x. IsFiledFrom now from (get_or ds k None) (get_or ms k false) x) (sym p-is)
          (others ne))
    ]

-- filing a key anew leaves the list that tells which keys are due as long as it was
pub members-len : (now key : ℕ) (deadline : Option ℕ) (ms ms' : List Bool) (ps ps' : List ℕ)
    → IsFiledAnew now key deadline ms ms' ps ps' → length ms' ≡ length ms
members-len now key deadline ms ms' ps ps' f = ap (λ xs. length xs) f.members_are
    ∙ length-set ms key f.member

pub places-len : (now key : ℕ) (deadline : Option ℕ) (ms ms' : List Bool) (ps ps' : List ℕ)
    → IsFiledAnew now key deadline ms ms' ps ps' → length ps' ≡ length ps
places-len now key deadline ms ms' ps ps' f = ap (λ xs. length xs) f.places_are
    ∙ length-set ps (128 + key) f.place

-- the deadline of a key is another one, and the key is filed anew
pub index-filed : (now from key : ℕ) (deadline : Option ℕ) (ds : List (Option ℕ))
    (ms ms' : List Bool) (ps ps' : List ℕ) → key < length ds →
    IsFiledAnew now key deadline ms ms' ps ps' → IsIndex now from ds ms ps
    → IsIndex now from (slice_set ds key deadline) ms' ps'
index-filed now from key deadline ds ms ms' ps ps' inside f i =
    let d-len = length-set ds key deadline in
    let m-len = i.members_len in
    let p-len = i.places_len in record {
      members_len = members-len now key deadline ms ms' ps ps' f ∙ (m-len ∙ sym d-len);
      places_len = places-len now key deadline ms ms' ps ps' f
          ∙ (p-len ∙ ap (λ n. 128 + n) (sym d-len));
      at = λ k k-in. key-filed now from key deadline (slice_set ds key deadline) ms ms' ps ps' f
          (get_or-set_same ds key deadline None inside)
          (omega (arith, inside, m-len)) (omega (arith, inside, p-len)) k
          (λ ne. subst (λ x. IsFiledFrom now from x (get_or ms k false) (get_or ps (128 + k) 0))
          (sym (get_or-set_other ds key k deadline None ne))
          (i.at k (omega (arith, k-in, d-len))));
    }

-- a key of a place is filed anew; the deadlines stay
pub index-refiled : (now from key : ℕ) (deadline : Option ℕ) (ds : List (Option ℕ))
    (ms ms' : List Bool) (ps ps' : List ℕ) → key < length ds →
    get_or ds key None ≡ deadline → IsFiledAnew now key deadline ms ms' ps ps'
    → IsIndex now from ds ms ps → IsIndex now from ds ms' ps'
index-refiled now from key deadline ds ms ms' ps ps' inside is f i =
    let m-len = i.members_len in
    let p-len = i.places_len in record {
      members_len = members-len now key deadline ms ms' ps ps' f ∙ m-len;
      places_len = places-len now key deadline ms ms' ps ps' f ∙ p-len;
      at = λ k k-in. key-filed now from key deadline ds ms ms' ps ps' f is
          (omega (arith, inside, m-len)) (omega (arith, inside, p-len)) k (λ ne. i.at k k-in);
    }

-- the nodes at a place are counted
abbrev pub one_at : ℕ → ℕ → ℕ
one_at place x = cond (x == place) 1 0

-- how many nodes are at the place
abbrev pub count_at : ℕ → List ℕ → ℕ
count_at place places = sum_by (one_at place) places

-- one key fewer is at the place that is opened
pub fewer : (now key level : ℕ) (deadline : Option ℕ) (ms ms' : List Bool) (ps ps' : List ℕ)
    → level < 4 → 128 + key < length ps →
    get_or ps (128 + key) 0 ≡ place_at level (now / 32 ^ level)
    → IsFiledAnew now key deadline ms ms' ps ps' →
    count_at (place_at level (now / 32 ^ level)) ps' < count_at (place_at level (now / 32 ^ level))
    ps
fewer now key level deadline ms ms' ps ps' level-is inside here f =
    let place = place_at level (now / 32 ^ level) in
    let sum = sum_by-set (one_at place) ps (128 + key) f.place 0 inside in
    let own : one_at place (get_or ps (128 + key) 0) ≡ 1 =
    cond-true (get_or ps (128 + key) 0 == place) 1 0
    (eq-eqb (get_or ps (128 + key) 0) place here) in
    let new : one_at place f.place ≡ 0 =
    cond-false (f.place == place) 1 0 (ne_eqb f.place place (f.elsewhere level level-is)) in
    subst (λ xs. count_at place xs < count_at place ps) (sym f.places_are)
    (omega (arith, sum, own, new))

-- a key of the set is due, and one that isn't in it isn't
pub due-in : (now : ℕ) (deadline : Option ℕ) (member : Bool) (place : ℕ) → member ≡ true
    → IsFiledFrom now 4 deadline member place → is_due (left now deadline) ≡ true
due-in now None member place e (inl h) = absurd (cc)
due-in now None member place e (inr h) = let out = h.0 in absurd (cc)
due-in now (Some at) member place e (inl (inl h)) = eq-eqb (at - now) 0 (omega (arith, h.0))
due-in now (Some at) member place e (inl (inr h)) = let out = h.0 in absurd (cc)
due-in now (Some at) member place e (inr h) = absurd (none-begins now place h.1)

pub due-out : (now : ℕ) (deadline : Option ℕ) (member : Bool) (place : ℕ) → member ≡ false
    → IsFiledFrom now 4 deadline member place → is_due (left now deadline) ≡ false
due-out now None member place e h = refl
due-out now (Some at) member place e (inl (inl h)) = let within = h.1 in absurd (cc)
due-out now (Some at) member place e (inl (inr h)) = let more = ahead-lt now at place h.1 in
    ne_eqb (at - now) 0 (omega (arith, more))
due-out now (Some at) member place e (inr h) = absurd (none-begins now place h.1)

left-at : (now : ℕ) (ds : List (Option ℕ)) (key : ℕ)
    → get_or (map (left now) ds) key None ≡ left now (get_or ds key None)
left-at now [] key = refl
left-at now (d ∷ ds) zero = refl
left-at now (d ∷ ds) (suc key) = left-at now ds key

past-end : (ds : List (Option ℕ)) (key : ℕ) → length ds ≤ key → get_or ds key None ≡ None
past-end [] key h = refl
past-end (d ∷ ds) zero h = absurd (omega (arith, h))
past-end (d ∷ ds) (suc key) h = past-end ds key (omega (arith, h))

key-out : (now : ℕ) (ds : List (Option ℕ)) (ms : List Bool) (ps : List ℕ) → IsIndex now 4 ds ms ps
    → (key : ℕ) → get_or ms key false ≡ false →
    is_due (get_or (map (left now) ds) key None) ≡ false
key-out now ds ms ps i key e =
    ap is_due (left-at now ds key) ∙ elim (cases_lt key (length ds)) [
      | inl inside ↦ due-out now (get_or ds key None) (get_or ms key false)
          (get_or ps (128 + key) 0) e (i.at key inside)
      | inr past ↦ ap (λ d. is_due (left now d)) (past-end ds key past)
    ]

none-found : (timers : List (Option ℕ)) (start : ℕ)
    → ((key : ℕ) → is_due (get_or timers key None) ≡ false)
    → position_from is_due start timers ≡ None
none-found [] start h = refl
none-found (x ∷ xs) start h =
    cond-false (is_due x) (Some start) (position_from is_due (start + 1) xs) (h 0)
    ∙ none-found xs (start + 1) (λ key. h (suc key))

lowest-found : (timers : List (Option ℕ)) (start i : ℕ) → i < length timers
    → is_due (get_or timers i None) ≡ true →
    ((lower : ℕ) → lower < i → is_due (get_or timers lower None) ≡ false)
    → position_from is_due start timers ≡ Some (start + i)
lowest-found [] start i inside due below = absurd (omega (arith, inside))
lowest-found (x ∷ xs) start zero inside due below =
    let same : start ≡ start + 0 = omega arith in
    cond-true (is_due x) (Some start) (position_from is_due (start + 1) xs) due ∙ ap Some same
lowest-found (x ∷ xs) start (suc i) inside due below =
    let same : start + 1 + i ≡ start + suc i = omega arith in
    cond-false (is_due x) (Some start) (position_from is_due (start + 1) xs) (below 0 (omega arith))
    ∙ (lowest-found xs (start + 1) i (omega (arith, inside)) due
    (λ lower h. below (suc lower) (omega (arith, h))) ∙ ap Some same)

-- where no key is in the set, none is due
pub first-none : (now : ℕ) (ds : List (Option ℕ)) (ms : List Bool) (ps : List ℕ)
    → IsIndex now 4 ds ms ps →
    ((key : ℕ) → get_or ms key false ≡ false) → first_due (map (left now) ds) ≡ None
first-none now ds ms ps i h =
    sym (first_due-from-zero (map (left now) ds))
    ∙ none-found (map (left now) ds) 0 (λ key. key-out now ds ms ps i key (h key))

length-left : (now : ℕ) (ds : List (Option ℕ)) → length (map (left now) ds) ≡ length ds
length-left now [] = refl
length-left now (d ∷ ds) = ap suc (length-left now ds)

from_zero : (key : ℕ) → 0 + key ≡ key
from_zero key = omega arith

-- the lowest key of the set is the lowest that is due
pub first-some : (now : ℕ) (ds : List (Option ℕ)) (ms : List Bool) (ps : List ℕ) (key : ℕ)
    → IsIndex now 4 ds ms ps → key < length ds →
    get_or ms key false ≡ true → ((lower : ℕ) → lower < key → get_or ms lower false ≡ false)
    → first_due (map (left now) ds) ≡ Some key
first-some now ds ms ps key i inside e below =
    let len : key < length (map (left now) ds) = rw (length-left now ds) inside in
    let due = ap is_due (left-at now ds key)
    ∙ due-in now (get_or ds key None) (get_or ms key false) (get_or ps (128 + key) 0) e
    (i.at key inside) in
    sym (first_due-from-zero (map (left now) ds))
    ∙ (lowest-found (map (left now) ds) 0 key len due
    (λ lower h. key-out now ds ms ps i lower (below lower h)) ∙ ap Some (from_zero key))

-- a key of the set is one of the keys
pub key-inside : (ms : List Bool) (key : ℕ) → get_or ms key false ≡ true → key < length ms
key-inside [] key e = absurd (cc)
key-inside (m ∷ ms) zero e = omega arith
key-inside (m ∷ ms) (suc key) e = let up = key-inside ms key e in omega (arith, up)

one-later : (now : ℕ) (d : Option ℕ) → left (now + 1) d ≡ ticked (left now d)
one-later now None = refl
one-later now (Some at) = let e : at - (now + 1) ≡ at - now - 1 = omega arith in ap Some e

-- a tick is one at each key
pub left-later : (now : ℕ) (ds : List (Option ℕ))
    → map (left (now + 1)) ds ≡ tick_step (map (left now) ds)
left-later now [] = refl
left-later now (d ∷ ds) = ap (λ x. x ∷ map (left (now + 1)) ds) (one-later now d)
    ∙ ap (λ xs. ticked (left now d) ∷ xs) (left-later now ds)

one-anew : (now : ℕ) (d : Option ℕ) → left 0 (left now d) ≡ left now d
one-anew now None = refl
one-anew now (Some at) = let e : at - now - 0 ≡ at - now = omega arith in ap Some e

-- the deadlines as ticks that are left, counted from 0
pub left-anew : (now : ℕ) (ds : List (Option ℕ))
    → map (left 0) (map (left now) ds) ≡ map (left now) ds
left-anew now [] = refl
left-anew now (d ∷ ds) = ap (λ x. x ∷ map (left 0) (map (left now) ds)) (one-anew now d)
    ∙ ap (λ xs. left now d ∷ xs) (left-anew now ds)

-- a deadline is set
pub left-set : (now key : ℕ) (deadline : Option ℕ) (ds : List (Option ℕ))
    → map (left now) (slice_set ds key deadline) ≡ slice_set (map (left now) ds) key
    (left now deadline)
left-set now key deadline ds = map-set (left now) ds key deadline

-- a deadline set so many ticks after now leaves its key these ticks, and the others as before
pub left-armed : (now key ticks : ℕ) (ds : List (Option ℕ))
    → map (left now) (slice_set ds key (Some (now + ticks))) ≡ slice_set (map (left now) ds) key
    (Some ticks)
left-armed now key ticks ds =
    let e : now + ticks - now ≡ ticks = omega arith in
    left-set now key (Some (now + ticks)) ds
    ∙ ap (λ t. slice_set (map (left now) ds) key (Some t)) e

-- no key is armed at first
pub left-none : (now keys : ℕ) → map (left now) (replicate keys None) ≡ replicate keys None
left-none now zero = refl
left-none now (suc keys) = ap (λ xs. None ∷ xs) (left-none now keys)

pub index-none : (now keys : ℕ) (ps : List ℕ) → length ps ≡ 128 + keys
    → IsIndex now 4 (replicate keys None) (replicate keys false) ps
index-none now keys ps len = let none : Option ℕ = None in record {
  members_len = length-replicate keys false ∙ sym (length-replicate keys none);
  places_len = len ∙ ap (λ n. 128 + n) (sym (length-replicate keys none));
  at = λ key inside.
      let key-in : key < keys = subst (λ n. key < n) (length-replicate keys none) inside in
      subst (λ d. IsFiledFrom now 4 d (get_or (replicate keys false) key false)
      (get_or ps (128 + key) 0)) (sym (get_or-replicate keys key None None key-in))
      (inl (get_or-replicate keys key false false key-in));
}

-- the list up to i is mapped
abbrev pub mapped_to : (Option ℕ → Option ℕ) → ℕ → List (Option ℕ) → List (Option ℕ)
mapped_to f i xs = map f (take i xs) ++ drop i xs

mapped-suc : (f : Option ℕ → Option ℕ) (xs : List (Option ℕ)) (i : ℕ) (d : Option ℕ)
    → i < length xs →
    slice_set (mapped_to f i xs) i (f (get_or (mapped_to f i xs) i d)) ≡ mapped_to f (suc i) xs
mapped-suc f [] i d h = absurd (omega (arith, h))
mapped-suc f (x ∷ xs) zero d h = refl
mapped-suc f (x ∷ xs) (suc i) d h = ap (λ rest. f x ∷ rest) (mapped-suc f xs i d (omega (arith, h)))

-- where the list up to i is mapped, mapping the item at i makes it mapped up to i + 1
pub mapped-next : (f : Option ℕ → Option ℕ) (xs : List (Option ℕ)) (i : ℕ) (d : Option ℕ)
    → i < length xs →
    slice_set (mapped_to f i xs) i (f (get_or (mapped_to f i xs) i d)) ≡ mapped_to f (i + 1) xs
mapped-next f xs i d h =
    let e : i + 1 ≡ suc i = omega arith
    in rw e (mapped-suc f xs i d h)

-- a key is filed by where its deadline is
pub filed-by : (now : ℕ) (deadline : Option ℕ) (member : Bool) (place : ℕ)
    → HasCome now deadline member → IsPlaceOf now deadline place → IsFiled now deadline member place
filed-by now None member place come is = come
filed-by now (Some at) member place (inl h) is = inl h
filed-by now (Some at) member place (inr h) is = inr (h.1, is h.0)

turned : (begun ahead level : ℕ) → 1 ≤ ahead → ahead ≤ 31
    → place_at level (begun + ahead) ≡ place_at level begun → ⊥
turned begun ahead level some few e = omega (arith, some, few, e)

level-apart : (level other a b : ℕ) → level ≢ other → place_at level a ≡ place_at other b → ⊥
level-apart level other a b ne e = omega (arith, ne, e)

-- another place of the level within the same round, or a place of another level
pub elsewhere-ahead : (now level ahead : ℕ) → 1 ≤ ahead → ahead ≤ 31
    → IsElsewhere now (place_at level (now / 32 ^ level + ahead))
elsewhere-ahead now level ahead some few = λ other small e.
    elim (cases_eq level other) [
      | inl same ↦
          let here : place_at level (now / 32 ^ level + ahead) ≡ place_at level (now / 32 ^ level) =
          e ∙ ap (λ l. place_at l (now / 32 ^ l)) (sym same) in
          let begun = now / 32 ^ level in
          absurd (turned begun ahead level some few here)
      | inr ne ↦ absurd (level-apart level other (now / 32 ^ level + ahead) (now / 32 ^ other) ne e)
    ]

beyond : (level a : ℕ) → level < 4 → 128 ≡ place_at level a → ⊥
beyond level a small e = omega (arith, small, e)

-- 128 is no place
pub elsewhere-none : (now : ℕ) → IsElsewhere now 128
elsewhere-none now = λ level small e. beyond level (now / 32 ^ level) small e
