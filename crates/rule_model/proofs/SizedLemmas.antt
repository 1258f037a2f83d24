-- Fields found by their name and position, and the sizes of what is sent of them.
use Rattle.std.specs.Prelude.{ℕ, ◌≡◌, ◌<◌, ◌==◌, ◌⊎◌, zero, suc, Bool, true, false, if◌then◌else◌}
use Rattle.std.specs.Prelude.{List, [], ◌∷◌, length, get_or, filter, Contains}
use Rattle.std.proofs.Common.{arith, ap, refl, sym, ◌∙◌, subst, inl, inr}
use Rattle.std.proofs.lemmas.Bool.{cases_Bool, and_parts, and_from, eqb-true, eq-eqb}
use Rattle.std.proofs.lemmas.List.{drop_all}
use Rattle.schc_ids.specs.declared.ends.Direction.{Direction}
use Rattle.schc_ids.specs.declared.names.FieldAt.{FieldAt}
use Rattle.schc_ids.specs.declared.names.FieldName.{FieldName}
use Rattle.schc_ids.specs.Names.{same_name}
use Rattle.schc_ids.proofs.NamesLemmas.{same_name-true, same_name-itself}
use Rattle.rule_model.specs.declared.rule.Length.{Length}
use Rattle.rule_model.specs.declared.rule.Length.TheVariants.{Fixed, Variable, TokenLength}
use Rattle.rule_model.specs.declared.rule.Operator.{Operator}
use Rattle.rule_model.specs.declared.rule.Action.{Action}
use Rattle.rule_model.specs.declared.rule.Action.TheVariants.{NotSent, ValueSent, MappingSent, Lsb}
use Rattle.rule_model.specs.declared.rule.Action.TheVariants.{Compute, DevIid, AppIid}
use Rattle.rule_model.specs.declared.value.FieldValue.{FieldValue}
use Rattle.rule_model.specs.Data.{EntryData, RuleData}
use Rattle.rule_model.specs.Cover.{covered, field_of}
use Rattle.rule_model.specs.Residue.{same_field, value_of, msb_bits, HasSize, SizeHolds, IsSized}

abbrev same_at : FieldName → ℕ → FieldAt
same_at name position = record { name = name; position = position }

-- fields that pass the test are one
pub same_field-true : (a b : FieldAt) → same_field a b ≡ true → a ≡ b
same_field-true a b h =
    let parts : (same_name a.name b.name ≡ true) × ((a.position == b.position) ≡ true) =
    and_parts (same_name a.name b.name) (a.position == b.position) h in
    ap (λ name. same_at name a.position) (same_name-true a.name b.name parts.0)
    ∙ ap (λ position. same_at b.name position) (eqb-true a.position b.position parts.1)

-- each field passes the test with itself
pub same_field-itself : (a : FieldAt) → same_field a a ≡ true
same_field-itself a =
    and_from (same_name a.name a.name) (a.position == a.position) (same_name-itself a.name)
    (eq-eqb a.position a.position refl)

-- an element of the rest is one of the whole
pub Contains-rest : {X : Type 0} → (y : X) (xs : List X) (x : X) → Contains xs x
    → Contains (y ∷ xs) x
Contains-rest y xs x h = (suc h.0, omega (arith, h.1), h.2)

-- the first element is one of the whole
pub Contains-first : {X : Type 0} → (x : X) (xs : List X) → Contains (x ∷ xs) x
Contains-first x xs = (0, omega arith, refl)

filtered : {X : Type 0} → (test : X → Bool) (xs : List X) (x : X) (k : ℕ) → k < length xs
    → get_or xs k x ≡ x → test x ≡ true → Contains (filter test xs) x
filtered test [] x k h e t = absurd (omega arith)
filtered test (y ∷ xs) x zero h e t = rw (e, t) (Contains-first x (filter test xs))
filtered test (y ∷ xs) x (suc k) h e t =
    elim (test y) as (λ b. Contains (if b then y ∷ filter test xs else filter test xs) x) [
      | true ↦ Contains-rest y (filter test xs) x (filtered test xs x k (omega arith) e t)
      | false ↦ filtered test xs x k (omega arith) e t
    ]

-- an element that passes the test is kept
pub Contains-filter : {X : Type 0} → (test : X → Bool) (xs : List X) (x : X) → Contains xs x
    → test x ≡ true → Contains (filter test xs) x
Contains-filter test xs x h t = filtered test xs x h.0 h.1 h.2 t

-- the value of a field that is found; or else no bits
pub value_of-cases : (fields : List FieldValue) (at : FieldAt)
    → ((f : FieldValue) × Contains fields f × (f.at ≡ at) × (value_of fields at ≡ f.value))
    ⊎ (value_of fields at ≡ [])
value_of-cases [] at = inr refl
value_of-cases (f ∷ fields) at =
    elim (cases_Bool (same_field f.at at)) [
      | inl t ↦ inl (f, Contains-first f fields, same_field-true f.at at t, rw t refl)
      | inr t ↦
          elim (value_of-cases fields at) [
            | inl h ↦ inl (h.0, Contains-rest f fields h.0 h.1, h.2, rw t h.3)
            | inr h ↦ inr (rw t h)
          ]
    ]

-- no bits have a size
pub SizeHolds-empty : (kind : Length) (action : Action) (operator : Operator)
    → SizeHolds kind action operator []
SizeHolds-empty (Fixed width) action operator = tt
SizeHolds-empty TokenLength action operator = tt
SizeHolds-empty Variable NotSent operator = tt
SizeHolds-empty Variable ValueSent operator = (omega arith, omega arith)
SizeHolds-empty Variable MappingSent operator = tt
SizeHolds-empty Variable Lsb operator =
    subst HasSize (sym (drop_all (msb_bits operator) [] (omega arith))) (omega arith, omega arith)
SizeHolds-empty Variable Compute operator = tt
SizeHolds-empty Variable DevIid operator = tt
SizeHolds-empty Variable AppIid operator = tt

-- what is sent with its size has one, for each entry that is used
pub SizeHolds-from_IsSized : (rule : RuleData) (direction : Direction) (fields : List FieldValue)
    → IsSized rule direction fields → (e : EntryData) → Contains (covered rule direction) e
    → SizeHolds e.length e.action e.operator (value_of fields (field_of e))
SizeHolds-from_IsSized rule direction fields sized e among =
    elim (value_of-cases fields (field_of e)) [
      | inl h ↦ rw h.3 (sized.sendable h.0 e h.1 among (sym h.2)).size_holds
      | inr h ↦ rw h (SizeHolds-empty e.length e.action e.operator)
    ]
