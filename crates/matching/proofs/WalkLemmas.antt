-- The test as it is walked holds exactly where the rule matches, for a rule of which no two entries
-- that are used in the direction are of one field.
use Rattle.std.specs.Prelude.{ℕ, ◌≡◌, ◌↔◌, ◌⊎◌, ◌+◌, ◌<◌, ◌≤◌, ◌==◌, zero, suc, Bool, true, false}
use Rattle.std.specs.Prelude.{◌&&◌, ◌||◌, nat_le, if◌then◌else◌, List, [], ◌∷◌, length, get_or}
use Rattle.std.specs.Prelude.{filter, Option, Some, None, slice_get, Contains}
use Rattle.std.specs.List.{list_all, enumerate_from}
use Rattle.std.specs.Option.{option_map_or}
use Rattle.std.proofs.Common.{arith, ap, refl, sym, ◌∙◌, subst, inl, inr}
use Rattle.std.proofs.lemmas.Bool.Decides.{same_from_decides}
use Rattle.std.proofs.lemmas.Bool.{cases_Bool, and_parts, and_from, or_cases, or_right, eqb-true}
use Rattle.std.proofs.lemmas.Bool.{le-leb, true≢false}
use Rattle.std.proofs.lemmas.List.Folds.{Any-from_list_any, list_any-from_Any}
use Rattle.schc_ids.specs.declared.ends.Direction.{Direction}
use Rattle.schc_ids.specs.declared.ends.Iids.{Iids}
use Rattle.schc_ids.specs.declared.names.FieldAt.{FieldAt}
use Rattle.schc_ids.specs.Ends.{covers}
use Rattle.rule_model.specs.declared.value.FieldValue.{FieldValue}
use Rattle.rule_model.specs.declared.value.Computed.{Computed}
use Rattle.rule_model.specs.Data.{EntryData, RuleData}
use Rattle.rule_model.specs.Cover.{covered, field_of}
use Rattle.rule_model.specs.Findings.{repeats, IsAdmitted}
use Rattle.rule_model.specs.Matches.{Matches}
use Rattle.rule_model.specs.Residue.{same_field}
use Rattle.rule_model.specs.Tests.{agrees, does_match}
use Rattle.rule_model.proofs.EntryRowsLemmas.{AreApart, AreApart-from_IsAdmitted, other-field}
use Rattle.rule_model.proofs.SizedLemmas.{same_field-true, same_field-itself, Contains-first}
use Rattle.rule_model.proofs.SizedLemmas.{Contains-rest}
use Rattle.rule_model.proofs.TestLemmas.{agrees-true, agrees-from, match-tested}
use Rattle.matching.specs.Walk.{found_value, value_or, value_near, entry_holds, field_holds}
use Rattle.matching.specs.Walk.{walk_holds}

parts_at : {X : Type 0} (x : X) (xs : List X) (y : X) (k : ℕ) → k < length (x ∷ xs)
    → get_or (x ∷ xs) k y ≡ y → (x ≡ y) ⊎ Contains xs y
parts_at x xs y zero l e = inl e
parts_at x xs y (suc k) l e = inr (k, omega arith, e)

-- an element is the first one, or one of the others
Contains-parts : {X : Type 0} (x : X) (xs : List X) (y : X) → Contains (x ∷ xs) y → (x ≡ y)
    ⊎ Contains xs y
Contains-parts x xs y h = parts_at x xs y h.0 h.1 h.2

-- an element of a list of which each passes
passes : {X : Type 0} (test : X → Bool) (xs : List X) → list_all test xs ≡ true → (x : X)
    → Contains xs x → test x ≡ true
passes test [] h x among = absurd (omega (arith, among.1))
passes test (y ∷ xs) h x among =
    let parts = and_parts (test y) (list_all test xs) h in
    elim (Contains-parts y xs x among) [
      | inl e ↦ subst (λ z. test z ≡ true) e parts.0
      | inr rest ↦ passes test xs parts.1 x rest
    ]

all_pass : {X : Type 0} (test : X → Bool) (xs : List X) → ((x : X) → Contains xs x → test x ≡ true)
    → list_all test xs ≡ true
all_pass test [] h = refl
all_pass test (x ∷ xs) h =
    and_from (test x) (list_all test xs) (h x (Contains-first x xs))
    (all_pass test xs (λ y among. h y (Contains-rest x xs y among)))

-- fields that are one pass the test of it
same_field-from : (a b : FieldAt) → a ≡ b → same_field a b ≡ true
same_field-from a b e = subst (λ b. same_field a b ≡ true) e (same_field-itself a)

-- no two of the entries are of one field
abbrev Differ : List EntryData → Type 0
Differ [] = Unit {0}
Differ (e ∷ entries) = ((d : EntryData) → Contains entries d → ¬ (field_of d ≡ field_of e))
    × Differ entries

abbrev used : Direction → List EntryData → List EntryData
used direction entries = filter (λ e. covers e.direction direction) entries

-- entries that are used with one and don't repeat it are of other fields
others : (direction : Direction) (e : EntryData) (entries : List EntryData)
    → covers e.direction direction ≡ true
    → ((d : EntryData) → Contains entries d → repeats d e ≡ false) → (d : EntryData)
    → Contains (used direction entries) d → ¬ (field_of d ≡ field_of e)
others direction e [] t apart d among = absurd (omega (arith, among.1))
others direction e (x ∷ later) t apart d among =
    let rest : Contains (used direction later) d → ¬ (field_of d ≡ field_of e) =
    others direction e later t (λ y h. apart y (Contains-rest x later y h)) d
    in
    elim (cases_Bool (covers x.direction direction)) [
      | inl c ↦
          let kept : used direction (x ∷ later) ≡ x ∷ used direction later = rw c in
          elim (Contains-parts x (used direction later) d
          (subst (λ (xs : List EntryData). Contains xs d) kept among)) [
            | inl same ↦ λ one.
                let other : same_field (field_of x) (field_of e) ≡ false =
                other-field x e direction (apart x (Contains-first x later)) c t in
                true≢false
                (sym (same_field-from (field_of x) (field_of e)
                (ap (λ (y : EntryData). field_of y) same ∙ one)) ∙ other)
            | inr h ↦ rest h
          ]
      | inr f ↦
          let kept : used direction (x ∷ later) ≡ used direction later = rw f in
          rest (subst (λ (xs : List EntryData). Contains xs d) kept among)
    ]

differ_along : (direction : Direction) (entries : List EntryData) → AreApart entries
    → Differ (used direction entries)
differ_along direction [] apart = tt
differ_along direction (e ∷ later) apart =
    elim (cases_Bool (covers e.direction direction)) [
      | inl c ↦
          let kept : used direction (e ∷ later) ≡ e ∷ used direction later = rw c in
          subst Differ (sym kept)
          (others direction e later c apart.0, differ_along direction later apart.1)
      | inr f ↦
          let kept : used direction (e ∷ later) ≡ used direction later = rw f in
          subst Differ (sym kept) (differ_along direction later apart.1)
    ]

-- of such entries there is one for a field
one_entry : (entries : List EntryData) → Differ entries → (d e : EntryData) → Contains entries d
    → Contains entries e → field_of d ≡ field_of e → d ≡ e
one_entry [] differ d e h k same = absurd (omega (arith, h.1))
one_entry (x ∷ entries) differ d e h k same =
    elim (Contains-parts x entries d h) [
      | inl a ↦
          elim (Contains-parts x entries e k) [
            | inl b ↦ sym a ∙ b
            | inr b ↦ absurd (differ.0 e b (sym same ∙ ap (λ (y : EntryData). field_of y) (sym a)))
          ]
      | inr a ↦
          elim (Contains-parts x entries e k) [
            | inl b ↦ absurd (differ.0 d a (same ∙ ap (λ (y : EntryData). field_of y) (sym b)))
            | inr b ↦ one_entry entries differ.1 d e a b same
          ]
    ]

-- a field that is among the fields has a value there, that of one of them
found : (fields : List FieldValue) (at : FieldAt) (f : FieldValue) → Contains fields f → at ≡ f.at
    → (g : FieldValue) × Contains fields g × (at ≡ g.at) × (found_value fields at ≡ Some g.value)
found [] at f among same = absurd (omega (arith, among.1))
found (g ∷ fields) at f among same =
    elim (cases_Bool (same_field at g.at)) [
      | inl t ↦ (g, Contains-first g fields, same_field-true at g.at t, rw t refl)
      | inr t ↦
          elim (Contains-parts g fields f among) [
            | inl e ↦
                absurd (true≢false
                (sym (same_field-from at g.at (same ∙ ap (λ (h : FieldValue). h.at) (sym e)))
                ∙ t))
            | inr rest ↦ let later = found fields at f rest same in
                (later.0, Contains-rest g fields later.0 later.1, later.2, rw t later.3)
          ]
    ]

-- what is found is the value of a field
found_parts : (fields : List FieldValue) (at : FieldAt) (value : List Bool)
    → found_value fields at ≡ Some value → (f : FieldValue) × Contains fields f × (at ≡ f.at)
    × (f.value ≡ value)
found_parts [] at value e = absurd cc
found_parts (f ∷ fields) at value e =
    elim (cases_Bool (same_field at f.at)) [
      | inl t ↦
          let its : Some f.value ≡ Some value = rw t at e in
          (f, Contains-first f fields, same_field-true at f.at t, cc)
      | inr t ↦
          let its : found_value fields at ≡ Some value = rw t at e in
          let later = found_parts fields at value its in
          (later.0, Contains-rest f fields later.0 later.1, later.2, later.3)
    ]

-- the fields without the first one of this name and position
abbrev without : List FieldValue → FieldAt → List FieldValue
without [] at = []
without (f ∷ fields) at = if same_field at f.at then fields else f ∷ without fields at

-- what is found is one of the fields
lookup_cases : (fields : List FieldValue) (at : FieldAt) (value : List Bool)
    → found_value fields at ≡ Some value → (length fields ≡ suc (length (without fields at)))
    × ((f : FieldValue) × Contains fields f × (at ≡ f.at))
    × ((f : FieldValue) → Contains fields f → ((at ≡ f.at) × (value ≡ f.value))
    ⊎ Contains (without fields at) f)
lookup_cases [] at value e = absurd cc
lookup_cases (f ∷ fields) at value e =
    elim (cases_Bool (same_field at f.at)) [
      | inl t ↦
          let same : at ≡ f.at = same_field-true at f.at t in
          let its : Some f.value ≡ Some value = rw t at e in
          let one_value : f.value ≡ value = cc in
          let rest : without (f ∷ fields) at ≡ fields = rw t in (
            ap (λ (fs : List FieldValue). suc (length fs)) (sym rest),
            (f, Contains-first f fields, same),
            λ g among. elim (Contains-parts f fields g among) [
              | inl one ↦
                  inl (
                    same ∙ ap (λ (h : FieldValue). h.at) one,
                    sym one_value
                        ∙ ap (λ (h : FieldValue). h.value) one,
                  )
              | inr h ↦ inr (subst (λ (fs : List FieldValue). Contains fs g) (sym rest) h)
            ],
          )
      | inr t ↦
          let its : found_value fields at ≡ Some value = rw t at e in
          let rest : without (f ∷ fields) at ≡ f ∷ without fields at = rw t in
          let later = lookup_cases fields at value its in (
            ap suc later.0 ∙ ap (λ (fs : List FieldValue). suc (length fs)) (sym rest),
            (later.1.0, Contains-rest f fields later.1.0 later.1.1, later.1.2),
            λ g among. elim (Contains-parts f fields g among) [
              | inl one ↦ inr
                  (subst (λ (fs : List FieldValue). Contains fs g) (sym rest)
                  (subst (Contains (f ∷ without fields at)) one
                  (Contains-first f (without fields at))))
              | inr h ↦
                  elim (later.2 g h) [
                    | inl is ↦ inl is
                    | inr kept ↦ inr
                        (subst (λ (fs : List FieldValue). Contains fs g) (sym rest)
                        (Contains-rest f (without fields at) g kept))
                  ]
            ],
          )
    ]

option_case : (o : Option (List Bool)) (test : List Bool → Bool) → option_map_or test o false ≡ true
    → (value : List Bool) × (o ≡ Some value) × (test value ≡ true)
option_case None test h = absurd cc
option_case (Some value) test h = (value, refl, h)

-- the entry has a field, and agrees with its value
abbrev Holds : Iids → Computed → List FieldValue → EntryData → Type 0
Holds iids computed fields e =
    (f : FieldValue) × Contains fields f × (field_of e ≡ f.at)
    × (agrees iids computed e f.value ≡ true)

-- an entry that holds does so without the field of another one
still_holds : (iids : Iids) (computed : Computed) (fields : List FieldValue) (e d : EntryData)
    (value : List Bool) → found_value fields (field_of e) ≡ Some value → ¬ (field_of d ≡ field_of e)
    → Holds iids computed fields d → Holds iids computed (without fields (field_of e)) d
still_holds iids computed fields e d value is apart h =
    elim ((lookup_cases fields (field_of e) value is).2 h.0 h.1) [
      | inl one ↦ absurd (apart (h.2 ∙ sym one.0))
      | inr kept ↦ (h.0, kept, h.2, h.3)
    ]

-- where each entry holds, there are no fewer fields
no_fewer : (iids : Iids) (computed : Computed) (entries : List EntryData) (fields : List FieldValue)
    → Differ entries → ((e : EntryData) → Contains entries e → Holds iids computed fields e)
    → length entries ≤ length fields
no_fewer iids computed [] fields differ h = omega arith
no_fewer iids computed (e ∷ entries) fields differ h =
    let its = h e (Contains-first e entries) in
    let it = found fields (field_of e) its.0 its.1 its.2 in
    let look = lookup_cases fields (field_of e) it.0.value it.3 in
    let rest : length entries ≤ length (without fields (field_of e)) =
    no_fewer iids computed entries (without fields (field_of e)) differ.1
    (λ d among. still_holds iids computed fields e d it.0.value it.3 (differ.0 d among)
    (h d (Contains-rest e entries d among)))
    in
    omega (arith, look.0, rest)

-- and where there are as many, each field is that of an entry, which agrees with its value
each_field : (iids : Iids) (computed : Computed) (entries : List EntryData)
    (fields : List FieldValue) → Differ entries
    → ((e : EntryData) → Contains entries e → Holds iids computed fields e)
    → length fields ≡ length entries → (f : FieldValue) → Contains fields f → (e : EntryData)
    × Contains entries e × (field_of e ≡ f.at) × (agrees iids computed e f.value ≡ true)
each_field iids computed [] fields differ h size f among = absurd (omega (arith, size, among.1))
each_field iids computed (e ∷ entries) fields differ h size f among =
    let its = h e (Contains-first e entries) in
    let it = found fields (field_of e) its.0 its.1 its.2 in
    let look = lookup_cases fields (field_of e) it.0.value it.3 in
    let later : (g : FieldValue) → Contains (without fields (field_of e)) g → (d : EntryData)
    × Contains entries d × (field_of d ≡ g.at) × (agrees iids computed d g.value ≡ true) =
    each_field iids computed entries (without fields (field_of e)) differ.1
    (λ d c. still_holds iids computed fields e d it.0.value it.3 (differ.0 d c)
    (h d (Contains-rest e entries d c)))
    (omega (arith, look.0, size))
    in
    elim (look.2 f among) [
      | inl is ↦
          elim (look.2 its.0 its.1) [
            | inl one ↦ (
              e,
              Contains-first e entries,
              is.0,
              subst
                  (λ (value : List Bool). agrees iids computed e value ≡ true) (sym one.1 ∙ is.1)
                  its.3,
            )
            | inr kept ↦ let other = later its.0 kept in
                absurd (differ.0 other.0 other.1 (other.2 ∙ sym its.2))
          ]
      | inr kept ↦ let other = later f kept in
          (other.0, Contains-rest e entries other.0 other.1, other.2, other.3)
    ]

-- what is found near a place is the value of a field
value_near-parts : (o : Option FieldValue) (fields : List FieldValue) (at : FieldAt)
    (value : List Bool) → ((f : FieldValue) → o ≡ Some f → Contains fields f)
    → value_or o fields at ≡ Some value → (f : FieldValue) × Contains fields f × (at ≡ f.at)
    × (f.value ≡ value)
value_near-parts None fields at value c e = found_parts fields at value e
value_near-parts (Some f) fields at value c e =
    elim (cases_Bool (same_field at f.at)) [
      | inl t ↦ let its : Some f.value ≡ Some value = rw t at e in
          (f, c f refl, same_field-true at f.at t, cc)
      | inr t ↦ let its : found_value fields at ≡ Some value = rw t at e in
          found_parts fields at value its
    ]

-- and a field that is among the fields has a value there
value_near-some : (o : Option FieldValue) (fields : List FieldValue) (at : FieldAt) (f : FieldValue)
    → ((g : FieldValue) → o ≡ Some g → Contains fields g) → Contains fields f → at ≡ f.at
    → (g : FieldValue) × Contains fields g × (at ≡ g.at) × (value_or o fields at ≡ Some g.value)
value_near-some None fields at f c among same = found fields at f among same
value_near-some (Some g) fields at f c among same =
    elim (cases_Bool (same_field at g.at)) [
      | inl t ↦ (g, c g refl, same_field-true at g.at t, rw t refl)
      | inr t ↦ let it = found fields at f among same in (it.0, it.1, it.2, rw t it.3)
    ]

-- an element that stands at a place
at_place : (fields : List FieldValue) (near : ℕ) (f : FieldValue) → slice_get fields near ≡ Some f
    → Contains fields f
at_place [] near f e = absurd cc
at_place (g ∷ fields) zero f e = let one : g ≡ f = cc in
    subst (Contains (g ∷ fields)) one (Contains-first g fields)
at_place (g ∷ fields) (suc near) f e = Contains-rest g fields f (at_place fields near f e)

-- an entry that holds has a field
Holds-from : (iids : Iids) (computed : Computed) (fields : List FieldValue) (near : ℕ)
    (e : EntryData) → entry_holds iids computed fields near e ≡ true → Holds iids computed fields e
Holds-from iids computed fields near e h =
    let it = option_case (value_near fields near (field_of e)) (agrees iids computed e) h in
    let f = value_near-parts (slice_get fields near) fields (field_of e) it.0 (at_place fields near)
    it.1 in (
      f.0,
      f.1,
      f.2,
      subst (λ (value : List Bool). agrees iids computed e value ≡ true) (sym f.3)
          it.2,
    )

-- each element of a list whose numbered elements pass
all_numbered : (test : ℕ → EntryData → Bool) (k : ℕ) (entries : List EntryData)
    → list_all (λ (p : ℕ × EntryData). test p.0 p.1) (enumerate_from k entries) ≡ true
    → (e : EntryData) → Contains entries e → (n : ℕ) × (test n e ≡ true)
all_numbered test k [] h e among = absurd (omega (arith, among.1))
all_numbered test k (d ∷ entries) h e among =
    let parts =
    and_parts (test k d)
    (list_all (λ (p : ℕ × EntryData). test p.0 p.1) (enumerate_from (k + 1) entries)) h in
    elim (Contains-parts d entries e among) [
      | inl one ↦ (k, subst (λ (x : EntryData). test k x ≡ true) one parts.0)
      | inr rest ↦ all_numbered test (k + 1) entries parts.1 e rest
    ]

number_all : (test : ℕ → EntryData → Bool) (k : ℕ) (entries : List EntryData)
    → ((n : ℕ) (e : EntryData) → Contains entries e → test n e ≡ true)
    → list_all (λ (p : ℕ × EntryData). test p.0 p.1) (enumerate_from k entries) ≡ true
number_all test k [] h = refl
number_all test k (e ∷ entries) h =
    and_from (test k e)
    (list_all (λ (p : ℕ × EntryData). test p.0 p.1) (enumerate_from (k + 1) entries))
    (h k e (Contains-first e entries))
    (number_all test (k + 1) entries (λ n d among. h n d (Contains-rest e entries d among)))

-- a field that holds
field_case : (iids : Iids) (computed : Computed) (entries : List EntryData) (f : FieldValue)
    → field_holds iids computed entries f ≡ true → (e : EntryData) × Contains entries e
    × (field_of e ≡ f.at) × (agrees iids computed e f.value ≡ true)
field_case iids computed entries f h =
    let some =
    Any-from_list_any (λ e. same_field (field_of e) f.at && agrees iids computed e f.value)
    entries h in
    let parts : (same_field (field_of some.1) f.at ≡ true)
    × (agrees iids computed some.1 f.value ≡ true) =
    and_parts (same_field (field_of some.1) f.at) (agrees iids computed some.1 f.value) some.4
    in
    (some.1, (some.0, some.2, some.3), same_field-true (field_of some.1) f.at parts.0, parts.1)

module _ (rule : RuleData) (iids : Iids) (direction : Direction) (fields : List FieldValue)
    (computed : Computed) (admitted : IsAdmitted rule) where
  abbrev entries : List EntryData
  entries = covered rule direction

  abbrev entries_hold : Bool
  entries_hold =
      list_all (λ (p : ℕ × EntryData). entry_holds iids computed fields p.0 p.1)
      (enumerate_from 0 entries)

  abbrev fields_hold : Bool
  fields_hold = list_all (field_holds iids computed entries) fields

  differ : Differ entries
  differ = differ_along direction rule.entries (AreApart-from_IsAdmitted rule admitted)

  walk-true : walk_holds rule iids direction fields computed ≡ true
      → Matches rule iids direction fields computed
  walk-true h =
      let last : ((nat_le (length entries) (length fields) && entries_hold) ≡ true)
      × (((length fields == length entries) || fields_hold) ≡ true) =
      and_parts (nat_le (length entries) (length fields) && entries_hold)
      ((length fields == length entries) || fields_hold) h in
      let first : (nat_le (length entries) (length fields) ≡ true) × (entries_hold ≡ true) =
      and_parts (nat_le (length entries) (length fields)) entries_hold last.0 in
      let holds : (e : EntryData) → Contains entries e → Holds iids computed fields e =
      λ e among. let it =
      all_numbered (entry_holds iids computed fields) 0 entries first.1 e among in
      Holds-from iids computed fields it.0 e it.1
      in
      let of_field : (f : FieldValue) → Contains fields f → (e : EntryData) × Contains entries e
      × (field_of e ≡ f.at) × (agrees iids computed e f.value ≡ true) =
      λ f among. elim (or_cases (length fields == length entries) fields_hold last.1) [
        | inl size ↦ each_field iids computed entries fields differ holds
            (eqb-true (length fields) (length entries) size) f among
        | inr each ↦ field_case iids computed entries f
            (passes (field_holds iids computed entries) fields each f among)
      ]
      in
      record {
        same_set = record {
          each_field = λ f among. let e = of_field f among in (e.0, e.1, e.2);
          each_entry = λ e among. let it = holds e among in (it.0, it.1, it.2);
        };
        agrees = λ f e among c same.
            let its = of_field f among in
            let one : its.0 ≡ e = one_entry entries differ its.0 e its.1 c (its.2 ∙ sym same) in
            agrees-true iids computed e f.value
            (subst (λ (d : EntryData). agrees iids computed d f.value ≡ true) one its.3);
      }

  walk-from : Matches rule iids direction fields computed
      → walk_holds rule iids direction fields computed ≡ true
  walk-from m =
      let holds : (e : EntryData) → Contains entries e → Holds iids computed fields e =
      λ e among.
      let some : (f : FieldValue) × Contains fields f × (field_of e ≡ f.at) =
      m.same_set.each_entry e among in (
        some.0,
        some.1,
        some.2,
        agrees-from iids computed e some.0.value
            (m.agrees some.0 e some.1 among some.2),
      )
      in
      let near : (n : ℕ) (e : EntryData) → Contains entries e
      → entry_holds iids computed fields n e ≡ true =
      λ n e among.
      let some = holds e among in
      let it =
      value_near-some (slice_get fields n) fields (field_of e) some.0 (at_place fields n) some.1
      some.2 in
      subst (λ (o : Option (List Bool)). option_map_or (agrees iids computed e) o false ≡ true)
      (sym it.3)
      (agrees-from iids computed e it.0.value (m.agrees it.0 e it.1 among it.2))
      in
      let each : fields_hold ≡ true =
      all_pass (field_holds iids computed entries) fields (λ f among.
      let some : (e : EntryData) × Contains entries e × (field_of e ≡ f.at) =
      m.same_set.each_field f among in
      list_any-from_Any (λ e. same_field (field_of e) f.at && agrees iids computed e f.value)
      entries (
        some.1.0,
        some.0,
        some.1.1,
        some.1.2,
        and_from (same_field (field_of some.0) f.at) (agrees iids computed some.0 f.value)
            (same_field-from (field_of some.0) f.at some.2)
            (agrees-from iids computed some.0 f.value (m.agrees f some.0 among some.1 some.2)),
      ))
      in
      and_from (nat_le (length entries) (length fields) && entries_hold)
      ((length fields == length entries) || fields_hold)
      (and_from (nat_le (length entries) (length fields)) entries_hold
      (le-leb (length entries) (length fields) (no_fewer iids computed entries fields differ holds))
      (number_all (entry_holds iids computed fields) 0 entries near))
      (or_right (length fields == length entries) fields_hold each)

  -- the test as it is walked holds exactly where the rule matches
  pub walk-tested : (walk_holds rule iids direction fields computed ≡ true) ↔ Matches rule iids
      direction fields computed
  walk-tested = (walk-true, walk-from)

  -- so it is the test on two sets
  pub walk-is : walk_holds rule iids direction fields computed ≡ does_match rule iids direction
      fields computed
  walk-is =
      same_from_decides (walk_holds rule iids direction fields computed)
      (does_match rule iids direction fields computed) walk-tested
      (match-tested rule iids direction fields computed)
