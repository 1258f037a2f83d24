-- Fields that stand in their order are those of their names.
use Rattle.std.specs.Prelude.{ℕ, ◌≡◌, ◌==◌, ◌||◌, ◌⊎◌, if◌then◌else◌, Bool, true, false, not, ◌&&◌}
use Rattle.std.specs.Prelude.{List, [], ◌∷◌, length, map, Option, Some, None, is_none, unwrap_or}
use Rattle.std.specs.List.{AllByRecursion, list_any}
use Rattle.std.proofs.Common.{ap, refl, sym, subst, ◌∙◌, inl, inr}
use Rattle.std.proofs.lemmas.Bool.{eqb-true, false≢true, and_parts, cases_Bool, not-true, not-false}
use Rattle.schc_ids.specs.declared.names.FieldName.{FieldName}
use Rattle.schc_ids.specs.declared.names.FieldAt.{FieldAt}
use Rattle.schc_ids.specs.Names.{same_name}
use Rattle.rule_model.specs.declared.value.FieldValue.{FieldValue}
use Rattle.rule_model.specs.declared.parts.JoinFault.TheVariants.{FieldWrong}
use Rattle.rule_model.specs.First.{first_held}
use Rattle.ip_udp_fields.specs.Layout.{bits_of}
use Rattle.ip_udp_fields.specs.Fields.{at_name}
use Rattle.ip_udp_fields.specs.Join.{is_at, value_in, value_of, presence_of, presence, names_after}
use Rattle.ip_udp_fields.specs.Join.{order}
use Rattle.rule_model.proofs.FirstLemmas.{first_held-none, first_held-front, first_held-append_none}
use Rattle.schc_ids.proofs.NamesLemmas.{same_name-true}

first_held-next : {A : Type 0} (t : Bool) (x : A) (rest : List (Bool × A))
    → first_held ((t, x) ∷ rest) ≡ None → (t ≡ false) × (first_held rest ≡ None)
first_held-next true x rest e = absurd (cc)
first_held-next false x rest e = (refl, e)

some-is : {A : Type 0} {x y : A} → Some x ≡ Some y → x ≡ y
some-is e = cc

or_parts : (a b : Bool) → (a || b) ≡ false → (a ≡ false) × (b ≡ false)
or_parts true b e = absurd (false≢true (sym e))
or_parts false b e = (refl, e)

cons_parts : (a b : FieldAt) (u v : List Bool) (xs ys : List FieldValue) → a ≡ b → u ≡ v → xs ≡ ys
    → (let p : FieldValue = record { at = a; value = u } in p) ∷ xs ≡ record {
      at = b;
      value =
          v;
    } ∷ ys
cons_parts a b u v xs ys e f g =
    ap (λ (x : FieldAt). (let p : FieldValue = record { at = x; value = u } in p) ∷ xs) e
    ∙ ap (λ (x : List Bool). (let p : FieldValue = record { at = b; value = x } in p) ∷ xs) f
    ∙ ap (λ (x : List FieldValue). (let p : FieldValue = record { at = b; value = v } in p) ∷ x) g

-- no name stands twice
abbrev pub are_distinct : List FieldName → Bool
are_distinct [] = true
are_distinct (name ∷ names) = not (list_any (same_name name) names) && are_distinct names

-- the field of the name, with the value that `v` has for it
abbrev pub with_value : (FieldName → List Bool) → FieldName → FieldValue
with_value v name = record { at = at_name name; value = v name }

at_parts : (a b : FieldName) (m n : ℕ) → a ≡ b → m ≡ n
    → (let p : FieldAt = record { name = a; position = m } in p) ≡ record { name = b; position = n }
at_parts a b m n e f = ap (λ (x : FieldName). record { name = x; position = m }) e
    ∙ ap (λ (x : ℕ). record { name = b; position = x }) f

pub is_at-true : (at : FieldAt) (name : FieldName) → is_at at name ≡ true → at ≡ at_name name
is_at-true at name h =
    let parts : (same_name at.name name ≡ true) × ((at.position == 1) ≡ true) =
    and_parts (same_name at.name name) (at.position == 1) h in
    at_parts at.name name at.position 1 (same_name-true at.name name parts.0)
    (eqb-true at.position 1 parts.1)

if-none : {A : Type 0} (t : Bool) (x : A) (o : Option A) → (if t then Some x else o) ≡ None
    → (t ≡ false) × (o ≡ None)
if-none true x o e = absurd (cc)
if-none false x o e = (refl, e)

if-some : {A : Type 0} (t : Bool) (x r : A) (o : Option A) → (if t then Some x else o) ≡ Some r
    → ((t ≡ true) × (x ≡ r)) ⊎ ((t ≡ false) × (o ≡ Some r))
if-some true x r o e = inl (refl, cc)
if-some false x r o e = inr (refl, e)

some_of : {A : Type 0} (o : Option A) (d : A) → is_none o ≡ false → o ≡ Some (unwrap_or o d)
some_of None d e = absurd (false≢true (sym e))
some_of (Some x) d e = refl

-- a field that isn't among names isn't among those after another one
after-none : (names rest : List FieldName) (at other : FieldAt) → names_after at names ≡ Some rest
    → names_after other names ≡ None → names_after other rest ≡ None
after-none [] rest at other e n = absurd (cc)
after-none (name ∷ names) rest at other e n =
    let left : names_after other names ≡ None =
    (if-none (is_at other name) names (names_after other names) n).1 in
    elim (if-some (is_at at name) names rest (names_after at names) e) [
      | inl found ↦ subst (λ (ns : List FieldName). names_after other ns ≡ None) found.1 left
      | inr later ↦ after-none names rest at other later.1 left
    ]

-- the first field in order, and those after it
order_parts : (names : List FieldName) (field : FieldValue) (fields : List FieldValue)
    → first_held (order names (field ∷ fields)) ≡ None → (rest : List FieldName)
    × ((names_after field.at names ≡ Some rest) × (first_held (order rest fields) ≡ None))
order_parts names field fields e =
    let rest : List FieldName = unwrap_or (names_after field.at names) [] in
    let none =
    first_held-next (is_none (names_after field.at names)) (FieldWrong field.at)
    (order rest fields) e in
    (rest, (some_of (names_after field.at names) [] none.0, none.1))

-- where the names that may come lack one, no field has it
order-absent : (fields : List FieldValue) (names : List FieldName) (name : FieldName)
    → first_held (order names fields) ≡ None → names_after (at_name name) names ≡ None
    → value_in fields name ≡ None
order-absent [] names name e n = refl
order-absent (field ∷ fields) names name e n =
    let parts = order_parts names field fields e in
    let later : names_after (at_name name) parts.0 ≡ None =
    after-none names parts.0 field.at (at_name name) parts.1.0 n in
    let rest : value_in fields name ≡ None = order-absent fields parts.0 name parts.1.1 later in
    elim (cases_Bool (is_at field.at name)) [
      | inl is ↦
          let here : names_after (at_name name) names ≡ Some parts.0 =
          subst (λ (a : FieldAt). names_after a names ≡ Some parts.0) (is_at-true field.at name is)
          parts.1.0
          in
          absurd (cc)
      | inr not_it ↦ rw not_it rest
    ]

-- a name that is none of these isn't found among them
after-other : (name : FieldName) (names : List FieldName) → list_any (same_name name) names ≡ false
    → names_after (at_name name) names ≡ None
after-other name [] h = refl
after-other name (other ∷ names) h =
    let parts : (same_name name other ≡ false) × (list_any (same_name name) names ≡ false) =
    or_parts (same_name name other) (list_any (same_name name) names) h in
    rw parts.0 (after-other name names parts.1)

-- the values of other names are those of the fields after the first
later_values : (v : FieldName → List Bool) (name : FieldName) (field : FieldValue)
    (fields : List FieldValue) (names : List FieldName) → field.at ≡ at_name name
    → list_any (same_name name) names ≡ false
    → AllByRecursion (λ n. value_in (field ∷ fields) n ≡ Some (v n)) names
    → AllByRecursion (λ n. value_in fields n ≡ Some (v n)) names
later_values v name field fields [] e h all = tt
later_values v name field fields (other ∷ names) e h all =
    let parts : (same_name name other ≡ false) × (list_any (same_name name) names ≡ false) =
    or_parts (same_name name other) (list_any (same_name name) names) h in
    let other_at : is_at field.at other ≡ false =
    subst (λ (a : FieldAt). is_at a other ≡ false) (sym e) (rw parts.0) in
    ((rw other_at at all.0), later_values v name field fields names e parts.1 all.1)

-- fields in their order, with these values, are those of the names
pub order-all : (names : List FieldName) (fields : List FieldValue) (v : FieldName → List Bool)
    → are_distinct names ≡ true → first_held (order names fields) ≡ None
    → AllByRecursion (λ n. value_in fields n ≡ Some (v n)) names → fields ≡ map (with_value v) names
order-all [] [] v d o all = refl
order-all [] (field ∷ fields) v d o all = absurd (cc)
order-all (name ∷ names) [] v d o all = absurd (cc (all.0))
order-all (name ∷ names) (field ∷ fields) v d o all =
    let apart = and_parts (not (list_any (same_name name) names)) (are_distinct names) d in
    let other : list_any (same_name name) names ≡ false =
    not-true (list_any (same_name name) names) apart.0 in
    let parts = order_parts (name ∷ names) field fields o in
    elim (if-some (is_at field.at name) names parts.0 (names_after field.at names) parts.1.0) [
      | inl found ↦
          let at : field.at ≡ at_name name = is_at-true field.at name found.0 in
          let value : field.value ≡ v name = some-is (rw found.0 at all.0) in
          let rest : fields ≡ map (with_value v) names =
          order-all names fields v apart.1
          (subst (λ (ns : List FieldName). first_held (order ns fields) ≡ None) (sym found.1)
          parts.1.1) (later_values v name field fields names at other all.1)
          in
          cons_parts field.at (at_name name) field.value (v name) fields (map (with_value v) names)
          at value rest
      | inr later ↦
          let absent : names_after (at_name name) parts.0 ≡ None =
          after-none names parts.0 field.at (at_name name) later.1
          (after-other name names other) in
          let none : value_in fields name ≡ None =
          order-absent fields parts.0 name parts.1.1 absent in
          let here : value_in fields name ≡ Some (v name) = rw later.0 at all.0 in
          absurd (cc)
    ]

-- what the conditions on each field say
pub presence-all : (fields : List FieldValue) (names : List FieldName)
    → first_held (presence fields names) ≡ None
    → AllByRecursion
    (λ n. (value_in fields n ≡ Some (value_of fields n)) × (length (value_of fields n) ≡ bits_of n))
    names
presence-all fields [] e = tt
presence-all fields (name ∷ names) e =
    let front : first_held (presence_of fields name) ≡ None =
    first_held-front (presence_of fields name) (presence fields names) e in
    let back : first_held (presence fields names) ≡ None =
    sym (first_held-append_none (presence_of fields name) (presence fields names) front) ∙ e in
    let none = first_held-none (presence_of fields name) front in (
      (
        some_of (value_in fields name) [] none.0,
        eqb-true (length (value_of fields name)) (bits_of name)
            (not-false (length (value_of fields name) == bits_of name) none.1.0),
      ),
      presence-all fields names back,
    )
