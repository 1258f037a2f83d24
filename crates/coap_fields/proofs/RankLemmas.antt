-- Names by their places in packet order.
use Rattle.std.specs.Prelude.{ℕ, ◌≡◌, ◌+◌, ◌==◌, ◌<◌, ◌≤◌, nat_lt, nat_le, ◌&&◌, if◌then◌else◌}
use Rattle.std.specs.Prelude.{Bool, true, false, not, ◌⊎◌, List, [], ◌∷◌, Some, None}
use Rattle.std.proofs.Common.{arith, ap, refl, sym, ◌∙◌, subst, inl, inr}
use Rattle.std.proofs.lemmas.Bool.{cases_Bool, cases_eq, ltb-true, eqb-true, false≢true, and_parts}
use Rattle.std.proofs.lemmas.Bool.{or_cases, or_left, or_right, and_from, lt-ltb, leb-true, eq-eqb}
use Rattle.std.proofs.lemmas.Bool.{not-false}
use Rattle.schc_ids.specs.declared.names.FieldName.{FieldName}
use Rattle.schc_ids.specs.declared.names.FieldName.TheVariants.{CoapVersion, CoapType, CoapTkl}
use Rattle.schc_ids.specs.declared.names.FieldName.TheVariants.{CoapCode, CoapMid, CoapToken}
use Rattle.schc_ids.specs.declared.names.FieldName.TheVariants.{CoapOption}
use Rattle.schc_ids.specs.declared.names.FieldAt.{FieldAt}
use Rattle.schc_ids.specs.Names.{same_name, rank_of}
use Rattle.schc_ids.proofs.NamesLemmas.{same_name-true, same_name-itself}
use Rattle.rule_model.specs.declared.value.FieldValue.{FieldValue}
use Rattle.rule_model.specs.declared.parts.JoinFault.{JoinFault}
use Rattle.rule_model.specs.First.{first_held}
use Rattle.coap_fields.specs.Fields.{at_name, field}
use Rattle.coap_fields.specs.Join.{is_at, value_in, is_possible, stands_after, is_size_right}
use Rattle.coap_fields.specs.Join.{can_follow, order}

-- the name of a rank below those of the options
abbrev named : ℕ → FieldName
named rank =
    if rank == 14 then CoapVersion
    else if rank == 15 then CoapType
    else if rank == 16 then CoapTkl
    else if rank == 17 then CoapCode
    else if rank == 18 then CoapMid
    else CoapToken

named-rank : (name : FieldName) (position : ℕ) → is_possible name position ≡ true
    → rank_of name < 20 → named (rank_of name) ≡ name
named-rank CoapVersion position p h = refl
named-rank CoapType position p h = refl
named-rank CoapTkl position p h = refl
named-rank CoapCode position p h = refl
named-rank CoapMid position p h = refl
named-rank CoapToken position p h = refl
named-rank (CoapOption number) position p h = absurd (omega arith)
named-rank _ position p h = absurd (false≢true p)

possible_rank : (name : FieldName) (position : ℕ) → is_possible name position ≡ true
    → 14 ≤ rank_of name
possible_rank CoapVersion position p = omega arith
possible_rank CoapType position p = omega arith
possible_rank CoapTkl position p = omega arith
possible_rank CoapCode position p = omega arith
possible_rank CoapMid position p = omega arith
possible_rank CoapToken position p = omega arith
possible_rank (CoapOption number) position p = omega arith
possible_rank _ position p = absurd (false≢true p)

possible_position : (name : FieldName) (position : ℕ) → is_possible name position ≡ true
    → rank_of name < 20 → position ≡ 1
possible_position CoapVersion position p h = eqb-true position 1 p
possible_position CoapType position p h = eqb-true position 1 p
possible_position CoapTkl position p h = eqb-true position 1 p
possible_position CoapCode position p h = eqb-true position 1 p
possible_position CoapMid position p h = eqb-true position 1 p
possible_position CoapToken position p h = eqb-true position 1 p
possible_position (CoapOption number) position p h = absurd (omega arith)
possible_position _ position p h = absurd (false≢true p)

-- names of the options' ranks
pub is_option-name : (name : FieldName) → 20 ≤ rank_of name → (number : ℕ)
    × (name ≡ CoapOption number)
is_option-name (CoapOption number) h = (number, refl)
is_option-name _ h = absurd (omega (arith, h))

-- after a rank and position
pub after : (rank position : ℕ) (at : FieldAt) → stands_after rank position at ≡ true
    → (rank < rank_of at.name) ⊎ ((rank ≡ rank_of at.name) × (position < at.position))
after rank position at h =
    elim (or_cases (nat_lt rank (rank_of at.name))
    ((rank == rank_of at.name) && nat_lt position at.position) h) [
      | inl l ↦ inl (ltb-true rank (rank_of at.name) l)
      | inr r ↦
          let p = and_parts (rank == rank_of at.name) (nat_lt position at.position) r in
          inr (eqb-true rank (rank_of at.name) p.0, ltb-true position at.position p.1)
    ]

-- a field that stands after one of this rank has this rank or a higher one
pub after-at_least : (rank position : ℕ) (at : FieldAt) → stands_after rank position at ≡ true
    → rank ≤ rank_of at.name
after-at_least rank position at h =
    elim (after rank position at h) [
      | inl l ↦ omega (arith, l)
      | inr e ↦ omega (arith, e.0)
    ]

-- what can follow
pub record Follows (rank position : ℕ) (f : FieldValue) : Type 0 where
  pub possible : is_possible f.at.name f.at.position ≡ true
  pub stands : stands_after rank position f.at ≡ true
  pub size : is_size_right f.at.name f.value ≡ true

-- a field that can follow is possible, stands later in packet order, and has a right size
pub follows : (rank position : ℕ) (f : FieldValue) → can_follow rank position f ≡ true
    → Follows rank position f
follows rank position f h =
    let p = and_parts (is_possible f.at.name f.at.position && stands_after rank position f.at)
    (is_size_right f.at.name f.value) h in
    let q = and_parts (is_possible f.at.name f.at.position) (stands_after rank position f.at) p.0 in
    record { possible = q.0; stands = q.1; size = p.1 }

-- where no condition of a list holds, its first one is false, and none of the others holds
pub held-first : (test : Bool) (fault : JoinFault) (more : List (Bool × JoinFault))
    → first_held ((test, fault) ∷ more) ≡ None → (test ≡ false) × (first_held more ≡ None)
held-first true fault more e = absurd (cc)
held-first false fault more e = (refl, e)

-- the first field follows, and then the others
pub order-first : (rank position : ℕ) (f : FieldValue) (fields : List FieldValue)
    → first_held (order rank position (f ∷ fields)) ≡ None → Follows rank position f
    × (first_held (order (rank_of f.at.name) f.at.position fields) ≡ None)
order-first rank position f fields e =
    let h = held-first (not (can_follow rank position f)) _
    (order (rank_of f.at.name) f.at.position fields) e in
    (follows rank position f (not-false (can_follow rank position f) h.0), h.1)

-- a field of another rank isn't the one of this name
other_rank : (at : FieldAt) (name : FieldName) → rank_of name < rank_of at.name
    → is_at at name ≡ false
other_rank at name h =
    elim (cases_Bool (is_at at name)) [
      | inl t ↦
          let p = and_parts (same_name at.name name) (at.position == 1) t in
          let same : rank_of at.name ≡ rank_of name =
          ap rank_of (same_name-true at.name name p.0) in
          absurd (omega (arith, same))
      | inr f ↦ f
    ]

-- a field that stands before all others isn't among them
pub lacks-before : (fields : List FieldValue) (rank position : ℕ) (name : FieldName)
    → first_held (order rank position fields) ≡ None → rank_of name < rank
    → value_in fields name ≡ None
lacks-before [] rank position name e h = refl
lacks-before (f ∷ fields) rank position name e h =
    let p = order-first rank position f fields e in
    let least : rank ≤ rank_of f.at.name = after-at_least rank position f.at p.0.stands in
    let below : rank_of name < rank_of f.at.name = omega arith in
    rw (other_rank f.at name below)
    (lacks-before fields (rank_of f.at.name) f.at.position name p.1 below)

-- the field of this name stands first
pub record Starts (name : FieldName) (value : List Bool) (fields : List FieldValue) : Type 0 where
  pub rest : List FieldValue
  pub is : fields ≡ field name value ∷ rest
  pub ordered : first_held (order (rank_of name) 1 rest) ≡ None

above : (rank : ℕ) (f : FieldValue) → rank < 20 → Follows rank 1 f → rank < rank_of f.at.name
above rank f small h =
    elim (after rank 1 f.at h.stands) [
      | inl l ↦ l
      | inr e ↦
          let one : f.at.position ≡ 1 =
          possible_position f.at.name f.at.position h.possible (omega (arith, e.0)) in
          absurd (omega (arith, e.1, one))
    ]

abbrev at_of : FieldName → ℕ → FieldAt
at_of name position = record { name = name; position = position }

same_rank : (name : FieldName) (f : FieldValue) → is_possible name 1 ≡ true
    → is_possible f.at.name f.at.position ≡ true → rank_of name < 20
    → rank_of f.at.name ≡ rank_of name → f.at ≡ at_name name
same_rank name f p q small e =
    let here : rank_of f.at.name < 20 = omega (arith, e) in
    let names : f.at.name ≡ name = sym (named-rank f.at.name f.at.position q here) ∙ ap named e
    ∙ named-rank name 1 p small in
    let positions : f.at.position ≡ 1 = possible_position f.at.name f.at.position q here in
    let both : at_of f.at.name f.at.position ≡ at_name name = rw (names, positions) in
    both

is_at-itself : (name : FieldName) → is_at (at_name name) name ≡ true
is_at-itself name = rw (same_name-itself name)

abbrev with_value : FieldAt → List Bool → FieldValue
with_value at value = record { at = at; value = value }

found_value : (name : FieldName) (f : FieldValue) (fields : List FieldValue) (value : List Bool)
    → f.at ≡ at_name name → value_in (f ∷ fields) name ≡ Some value → f ≡ field name value
found_value name f fields value a e =
    let here : is_at f.at name ≡ true = ap (λ at. is_at at name) a ∙ is_at-itself name in
    let found : Some f.value ≡ Some value = rw here at e in
    let same : f.value ≡ value = cc in
    let both : with_value f.at f.value ≡ field name value = rw (a, same) in
    both

-- a field of the header, or the token, that is there stands first of the fields in order after the
-- rank just below its own
pub starts : (rank : ℕ) (fields : List FieldValue) (name : FieldName) (value : List Bool)
    → rank_of name ≡ rank + 1 → rank_of name < 20 → is_possible name 1 ≡ true
    → first_held (order rank 1 fields) ≡ None → value_in fields name ≡ Some value
    → Starts name value fields
starts rank [] name value n small p e v = absurd (cc)
starts rank (f ∷ fields) name value n small p e v =
    let o = order-first rank 1 f fields e in
    let up : rank < rank_of f.at.name = above rank f (omega arith) o.0 in
    elim (cases_eq (rank_of f.at.name) (rank_of name)) [
      | inl same ↦
          let at_is : f.at ≡ at_name name = same_rank name f p o.0.possible small same in
          let is : f ≡ field name value = found_value name f fields value at_is v in
          record {
            rest = fields;
            is = ap (λ g. g ∷ fields) is;
            ordered =
                subst (λ (at : FieldAt). first_held
                (order (rank_of at.name) at.position fields) ≡ None) at_is o.1;
          }
      | inr other ↦
          let below : rank_of name < rank_of f.at.name = omega (arith, other) in
          let none : value_in (f ∷ fields) name ≡ None =
          rw (other_rank f.at name below)
          (lacks-before fields (rank_of f.at.name) f.at.position name o.1 below) in
          absurd (cc)
    ]

-- another place before the first field
pub order-moved : (rank position other place : ℕ) (f : FieldValue) (fields : List FieldValue)
    → stands_after other place f.at ≡ true → first_held (order rank position (f ∷ fields)) ≡ None
    → first_held (order other place (f ∷ fields)) ≡ None
order-moved rank position other place f fields h e =
    let o = order-first rank position f fields e in
    rw (o.0.possible, h, o.0.size) o.1

-- a field of a higher rank stands after this one, at whatever position
pub stands-above : (rank position : ℕ) (at : FieldAt) → rank < rank_of at.name
    → stands_after rank position at ≡ true
stands-above rank position at h =
    or_left (nat_lt rank (rank_of at.name))
    ((rank == rank_of at.name) && nat_lt position at.position) (lt-ltb rank (rank_of at.name) h)

-- before the first field of a message, every rank below is as good
pub order-begins : (fields : List FieldValue) → first_held (order 0 0 fields) ≡ None
    → first_held (order 13 1 fields) ≡ None
order-begins [] e = refl
order-begins (f ∷ fields) e =
    let o = order-first 0 0 f fields e in
    let least : 14 ≤ rank_of f.at.name = possible_rank f.at.name f.at.position o.0.possible in
    order-moved 0 0 13 1 f fields (stands-above 13 1 f.at (omega arith)) e

-- where no token is there, options stand after the message ID
pub order-options : (fields : List FieldValue) → value_in fields CoapToken ≡ None
    → first_held (order 18 1 fields) ≡ None → first_held (order 19 1 fields) ≡ None
order-options [] n e = refl
order-options (f ∷ fields) n e =
    let o = order-first 18 1 f fields e in
    let up : 18 < rank_of f.at.name = above 18 f (omega arith) o.0 in
    elim (cases_eq (rank_of f.at.name) 19) [
      | inl same ↦
          let at_is : f.at ≡ at_name CoapToken =
          same_rank CoapToken f refl o.0.possible (omega arith) same in
          let here : is_at f.at CoapToken ≡ true = ap (λ at. is_at at CoapToken) at_is in
          let found : Some f.value ≡ None = rw here at n in
          absurd (cc)
      | inr other ↦
          order-moved 18 1 19 1 f fields (stands-above 19 1 f.at (omega (arith, other))) e
    ]

stands-options : (at : FieldAt) → 19 < rank_of at.name → 1 ≤ at.position
    → stands_after 20 0 at ≡ true
stands-options at h k =
    elim (cases_eq 20 (rank_of at.name)) [
      | inl same ↦
          or_right (nat_lt 20 (rank_of at.name)) ((20 == rank_of at.name) && nat_lt 0 at.position)
          (and_from (20 == rank_of at.name) (nat_lt 0 at.position)
          (eq-eqb 20 (rank_of at.name) same) (lt-ltb 0 at.position (omega (arith, k))))
      | inr other ↦ stands-above 20 0 at (omega (arith, other))
    ]

option_position : (name : FieldName) (position : ℕ) → is_possible name position ≡ true
    → 20 ≤ rank_of name → 1 ≤ position
option_position (CoapOption number) position p h =
    let a = and_parts (nat_le number 65535 && nat_le 1 position) (nat_le position 65535) p in
    let b = and_parts (nat_le number 65535) (nat_le 1 position) a.0 in
    leb-true 1 position b.1
option_position _ position p h = absurd (omega (arith, h))

-- options stand after the place before the first one
pub order-after_token : (fields : List FieldValue) → first_held (order 19 1 fields) ≡ None
    → first_held (order 20 0 fields) ≡ None
order-after_token [] e = refl
order-after_token (f ∷ fields) e =
    let o = order-first 19 1 f fields e in
    let up : 19 < rank_of f.at.name = above 19 f (omega arith) o.0 in
    let one : 1 ≤ f.at.position =
    option_position f.at.name f.at.position o.0.possible (omega (arith, up)) in
    order-moved 19 1 20 0 f fields (stands-options f.at up one) e
