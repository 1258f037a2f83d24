-- Of several candidates the one that comes first: in whichever order they are compared.
use Rattle.std.specs.Prelude.{ℕ, ◌≡◌, ◌≢◌, ◌<◌, ◌≤◌, ◌==◌, ◌⊎◌, ◌&&◌, ◌||◌, true, false, nat_lt}
use Rattle.std.specs.Prelude.{nat_le, List, [], ◌∷◌, ◌++◌, Option, Some, None, Contains}
use Rattle.std.proofs.Common.{arith, ap, refl, sym, ◌∙◌, subst, inl, inr}
use Rattle.std.proofs.lemmas.Bool.{cases_Bool, cases_lt, cases_eq, and_from, or_left, or_right}
use Rattle.std.proofs.lemmas.Bool.{le-leb, le-ltb, lt-ltb, leb-true, eqb-true, eq-eqb, and_parts}
use Rattle.std.proofs.lemmas.Bool.{true≢false}
use Rattle.std.proofs.lemmas.List.Elements.{Contains-append_left, Contains-append_right}
use Rattle.rule_model.proofs.SizedLemmas.{Contains-first, Contains-rest}
use Rattle.packer.specs.declared.choosing.Candidate.{Candidate}
use Rattle.packer.specs.Packing.{is_preferred, smaller, smallest_of}
use Rattle.packer.proofs.CoverLemmas.{Contains-parts}

-- fewer bits, or as many under a RuleID that isn't higher
abbrev pub ComesFirst : Candidate → Candidate → Type 0
ComesFirst c d = (c.bits < d.bits) ⊎ ((c.bits ≡ d.bits) × (c.rule_id ≤ d.rule_id))

pub preferred-from : (c d : Candidate) → ComesFirst c d → is_preferred c d ≡ true
preferred-from c d (inl l) =
    or_left (nat_lt c.bits d.bits) ((c.bits == d.bits) && nat_le c.rule_id d.rule_id)
    (lt-ltb c.bits d.bits l)
preferred-from c d (inr e) =
    or_right (nat_lt c.bits d.bits) ((c.bits == d.bits) && nat_le c.rule_id d.rule_id)
    (and_from (c.bits == d.bits) (nat_le c.rule_id d.rule_id) (eq-eqb c.bits d.bits e.0)
    (le-leb c.rule_id d.rule_id e.1))

-- of two, one comes first
pub first-either : (c d : Candidate) → ComesFirst c d
    ⊎ ((d.bits < c.bits) ⊎ ((d.bits ≡ c.bits) × (d.rule_id < c.rule_id)))
first-either c d =
    elim (cases_lt c.bits d.bits) [
      | inl l ↦ inl (inl l)
      | inr l ↦
          elim (cases_eq c.bits d.bits) [
            | inr n ↦ inr (inl (omega (arith, l, n)))
            | inl e ↦
                elim (cases_lt d.rule_id c.rule_id) [
                  | inl k ↦ inr (inr (sym e, k))
                  | inr k ↦ inl (inr (e, k))
                ]
          ]
    ]

both_ways : (c d : Candidate) → ComesFirst c d → (d.bits < c.bits)
    ⊎ ((d.bits ≡ c.bits) × (d.rule_id < c.rule_id)) → ⊥
both_ways c d (inl l) (inl k) = absurd (omega (arith, l, k))
both_ways c d (inl l) (inr k) = absurd (omega (arith, l, k.0))
both_ways c d (inr l) (inl k) = absurd (omega (arith, l.0, k))
both_ways c d (inr l) (inr k) = absurd (omega (arith, l.1, k.1))

weaker : (c d : Candidate) → (d.bits < c.bits) ⊎ ((d.bits ≡ c.bits) × (d.rule_id < c.rule_id))
    → ComesFirst d c
weaker c d (inl l) = inl l
weaker c d (inr l) = inr (l.0, omega (arith, l.1))

-- a candidate that is preferred to another comes first of the two
pub preferred-true : (c d : Candidate) → is_preferred c d ≡ true → ComesFirst c d
preferred-true c d t =
    elim (cases_lt c.bits d.bits) [
      | inl l ↦ inl l
      | inr l ↦ inr (later c d l t)
    ]
  where
    later : (c d : Candidate) → d.bits ≤ c.bits → is_preferred c d ≡ true → (c.bits ≡ d.bits)
        × (c.rule_id ≤ d.rule_id)
    later c d l t = let no : nat_lt c.bits d.bits ≡ false = le-ltb c.bits d.bits l in let parts =
        and_parts (c.bits == d.bits) (nat_le c.rule_id d.rule_id) (rw no at t) in
        (eqb-true c.bits d.bits parts.0, leb-true c.rule_id d.rule_id parts.1)

-- where it isn't preferred, the other comes first
pub preferred-false : (c d : Candidate) → is_preferred c d ≡ false → ComesFirst d c
preferred-false c d f =
    elim (first-either c d) [
      | inl l ↦ absurd (true≢false (sym (preferred-from c d l) ∙ f))
      | inr l ↦ weaker c d l
    ]

-- a candidate that comes before one that comes before a third comes before the third
pub first-trans : (a b c : Candidate) → ComesFirst a b → ComesFirst b c → ComesFirst a c
first-trans a b c (inl l) (inl k) = inl (omega (arith, l, k))
first-trans a b c (inl l) (inr k) = inl (omega (arith, l, k.0))
first-trans a b c (inr l) (inl k) = inl (omega (arith, l.0, k))
first-trans a b c (inr l) (inr k) = inr (omega (arith, l.0, k.0), omega (arith, l.1, k.1))

pub first-itself : (c : Candidate) → ComesFirst c c
first-itself c = inr (refl, omega arith)

abbrev with : ℕ → ℕ → Candidate
with id bits = record { rule_id = id; bits = bits }

pub first-one : (c d : Candidate) → ComesFirst c d → ComesFirst d c → c ≡ d
first-one c d l k =
    let parts : (c.rule_id ≡ d.rule_id) × (c.bits ≡ d.bits) = same c d l k in
    ap (λ id. with id c.bits) parts.0 ∙ ap (with d.rule_id) parts.1
  where
    same : (c d : Candidate) → ComesFirst c d → ComesFirst d c → (c.rule_id ≡ d.rule_id)
        × (c.bits ≡ d.bits)
    same c d (inl l) (inl k) = absurd (omega (arith, l, k))
    same c d (inl l) (inr k) = absurd (omega (arith, l, k.0))
    same c d (inr l) (inl k) = absurd (omega (arith, l.0, k))
    same c d (inr l) (inr k) = (omega (arith, l.1, k.1), l.0)

assoc_some : (a b c : Candidate)
    → smaller (smaller (Some a) (Some b)) (Some c) ≡ smaller (Some a) (smaller (Some b) (Some c))
assoc_some a b c =
    elim (cases_Bool (is_preferred a b)) [
      | inl ab ↦
          elim (cases_Bool (is_preferred b c)) [
            | inl bc ↦
                let ac : is_preferred a c ≡ true =
                preferred-from a c
                (first-trans a b c (preferred-true a b ab) (preferred-true b c bc)) in
                rw (ab, bc, ac, ab) refl
            | inr bc ↦ rw (ab, bc) refl
          ]
      | inr ab ↦
          elim (cases_Bool (is_preferred b c)) [
            | inl bc ↦ rw (ab, bc, ab) refl
            | inr bc ↦
                let ac : is_preferred a c ≡ false = not_first a b c ab bc in
                rw (ab, bc, ac) refl
          ]
    ]
  where
    not_first : (a b c : Candidate) → is_preferred a b ≡ false → is_preferred b c ≡ false
        → is_preferred a c ≡ false
    not_first a b c ab bc =
        elim (cases_Bool (is_preferred a c)) [
          | inl t ↦ absurd
              (true≢false
              (sym (preferred-from a b
              (first-trans a c b (preferred-true a c t) (preferred-false b c bc))) ∙ ab))
          | inr f ↦ f
        ]

-- of three, in whichever order they are compared
pub smaller-assoc : (a b c : Option Candidate) → smaller (smaller a b) c ≡ smaller a (smaller b c)
smaller-assoc None b c = refl
smaller-assoc (Some a) None c = refl
smaller-assoc (Some a) (Some b) None = smaller-none (smaller (Some a) (Some b))
  where
    smaller-none : (o : Option Candidate) → smaller o None ≡ o
    smaller-none None = refl
    smaller-none (Some c) = refl
smaller-assoc (Some a) (Some b) (Some c) = assoc_some a b c

-- the first of two lists
pub smallest-append : (f : ℕ → Option Candidate) (these those : List ℕ)
    → smallest_of f (these ++ those) ≡ smaller (smallest_of f these) (smallest_of f those)
smallest-append f [] those = refl
smallest-append f (id ∷ these) those =
    ap (smaller (f id)) (smallest-append f these those)
    ∙ sym (smaller-assoc (f id) (smallest_of f these) (smallest_of f those))

-- it is one of them and comes before the others, or there is none
abbrev pub IsSmallest : (ℕ → Option Candidate) → List ℕ → Option Candidate → Type 0
IsSmallest f ids None = (id : ℕ) → Contains ids id → f id ≡ None
IsSmallest f ids (Some c) = ((id : ℕ) × Contains ids id × (f id ≡ Some c))
    × ((id : ℕ) (d : Candidate) → Contains ids id → f id ≡ Some d → ComesFirst c d)

first_of : (f : ℕ → Option Candidate) (id : ℕ) (ids : List ℕ) (a b : Option Candidate) → f id ≡ a
    → IsSmallest f ids b → IsSmallest f (id ∷ ids) (smaller a b)
first_of f id ids None None e rest =
    λ x among. elim (Contains-parts id ids x among) [
      | inl same ↦ ap f (sym same) ∙ e
      | inr later ↦ rest x later
    ]
first_of f id ids None (Some c) e rest = (
  (rest.0.0, Contains-rest id ids rest.0.0 rest.0.1, rest.0.2),
  λ x d among is. elim (Contains-parts id ids x among) [
    | inl same ↦ let both : None ≡ Some d = sym e ∙ ap f same ∙ is in absurd (cc)
    | inr later ↦ rest.1 x d later is
  ],
)
first_of f id ids (Some a) None e rest = (
  (id, Contains-first id ids, e),
  λ x d among is. elim (Contains-parts id ids x among) [
    | inl same ↦ let both : Some a ≡ Some d = sym e ∙ ap f same ∙ is in
        subst (ComesFirst a) (cc) (first-itself a)
    | inr later ↦ let both : None ≡ Some d = sym (rest x later) ∙ is in absurd (cc)
  ],
)
first_of f id ids (Some a) (Some c) e rest =
    elim (cases_Bool (is_preferred a c)) [
      | inl t ↦
          rw t (
            (id, Contains-first id ids, e),
            λ x d among is. elim (Contains-parts id ids x among) [
              | inl same ↦ let both : Some a ≡ Some d = sym e ∙ ap f same ∙ is in
                  subst (ComesFirst a) (cc) (first-itself a)
              | inr later ↦ first-trans a c d (preferred-true a c t) (rest.1 x d later is)
            ],
          )
      | inr n ↦
          rw n (
            (rest.0.0, Contains-rest id ids rest.0.0 rest.0.1, rest.0.2),
            λ x d among is. elim (Contains-parts id ids x among) [
              | inl same ↦ let both : Some a ≡ Some d = sym e ∙ ap f same ∙ is in
                  subst (ComesFirst c) (cc) (preferred-false a c n)
              | inr later ↦ rest.1 x d later is
            ],
          )
    ]

-- the candidate taken of these RuleIDs is one of theirs that comes before the others, or they have
-- none
pub smallest-is : (f : ℕ → Option Candidate) (ids : List ℕ) → IsSmallest f ids (smallest_of f ids)
smallest-is f [] = λ id among. absurd (omega (arith, among.1))
smallest-is f (id ∷ ids) = first_of f id ids (f id) (smallest_of f ids) refl (smallest-is f ids)

-- each of the first that is a candidate is among the second
abbrev pub HasEach : (ℕ → Option Candidate) → List ℕ → List ℕ → Type 0
HasEach f these those = (id : ℕ) (c : Candidate) → Contains these id → f id ≡ Some c
    → Contains those id

-- lists of the same candidates have one first
pub smallest-one : (f : ℕ → Option Candidate) (these those : List ℕ) (a b : Option Candidate)
    → HasEach f these those → HasEach f those these → IsSmallest f these a → IsSmallest f those b
    → a ≡ b
smallest-one f these those None None there back h k = refl
smallest-one f these those None (Some d) there back h k =
    let none = h k.0.0 (back k.0.0 d k.0.1 k.0.2) in
    let both : None ≡ Some d = sym none ∙ k.0.2 in
    absurd (cc)
smallest-one f these those (Some c) None there back h k =
    let none = k h.0.0 (there h.0.0 c h.0.1 h.0.2) in
    let both : None ≡ Some c = sym none ∙ h.0.2 in
    absurd (cc)
smallest-one f these those (Some c) (Some d) there back h k =
    ap Some (first-one c d (h.1 k.0.0 d (back k.0.0 d k.0.1 k.0.2) k.0.2)
    (k.1 h.0.0 c (there h.0.0 c h.0.1 h.0.2) h.0.2))
