-- What the tests compute is what the statements say.
use Rattle.std.specs.Prelude.{ℕ, ◌≡◌, ◌↔◌, ◌||◌, ◌&&◌, not, Bool, true, false, List, [], ◌∷◌}
use Rattle.std.specs.Prelude.{length, take, nat_le, Contains, Any, Option, Some, None, IfSome}
use Rattle.std.specs.List.{list_all}
use Rattle.std.specs.Option.{option_map_or}
use Rattle.std.proofs.Common.{ap, refl, sym, subst}
use Rattle.std.proofs.lemmas.Bool.{and_parts, and_from, eqb-true, eq-eqb, le-leb, leb-true}
use Rattle.std.proofs.lemmas.List.Elements.{All-contains, All-contains_itself, All-weaker}
use Rattle.std.proofs.lemmas.List.Folds.{Any-from_list_any, list_any-from_Any}
use Rattle.std.proofs.lemmas.List.Sums.{AllPass-from_list_all, list_all-from_AllPass}
use Rattle.schc_bits.specs.Bits.{number_bits}
use Rattle.schc_ids.specs.declared.ends.Direction.{Direction}
use Rattle.schc_ids.specs.declared.ends.Iids.{Iids}
use Rattle.schc_ids.specs.declared.names.FieldAt.{FieldAt}
use Rattle.schc_ids.specs.declared.names.FieldName.{FieldName}
use Rattle.schc_ids.specs.declared.names.FieldName.TheVariants.{CoapOption}
use Rattle.rule_model.specs.declared.rule.Length.{Length}
use Rattle.rule_model.specs.declared.rule.Length.TheVariants.{Fixed}
use Rattle.rule_model.specs.declared.rule.Operator.{Operator}
use Rattle.rule_model.specs.declared.rule.Operator.TheVariants.{Equal, Ignore, Msb, MatchMapping}
use Rattle.rule_model.specs.declared.rule.Action.{Action}
use Rattle.rule_model.specs.declared.rule.Action.TheVariants.{Compute, DevIid, AppIid}
use Rattle.rule_model.specs.declared.value.FieldValue.{FieldValue}
use Rattle.rule_model.specs.declared.value.Computed.{Computed}
use Rattle.rule_model.specs.Data.{EntryData, RuleData}
use Rattle.rule_model.specs.Cover.{covered, field_of}
use Rattle.rule_model.specs.Findings.{same_bits}
use Rattle.rule_model.specs.Matches.{OperatorHolds, LengthHolds, RestoredHolds, computed_value}
use Rattle.rule_model.specs.Matches.{Agrees, Matches}
use Rattle.rule_model.specs.Residue.{same_field}
use Rattle.rule_model.specs.Tests.{operator_holds, length_holds, restored_holds, agrees, has_entry}
use Rattle.rule_model.specs.Tests.{has_value, entries_agree, does_match}
use Rattle.rule_model.proofs.ResidueLemmas.{same_bits-true, same_bits-itself}
use Rattle.rule_model.proofs.SizedLemmas.{same_field-true, same_field-itself}

-- bits that are the same pass the test
same_bits-from : (xs ys : List Bool) → xs ≡ ys → same_bits xs ys ≡ true
same_bits-from xs ys e = subst (λ ys. same_bits xs ys ≡ true) e (same_bits-itself xs)

same_field-from : (a b : FieldAt) → a ≡ b → same_field a b ≡ true
same_field-from a b e = subst (λ b. same_field a b ≡ true) e (same_field-itself a)

-- where the test of a matching operator passes, the operator holds of the value
pub operator_holds-true : (operator : Operator) (targets : List (List Bool)) (value : List Bool)
    → operator_holds operator targets value ≡ true → OperatorHolds operator targets value
operator_holds-true Equal [] value h = absurd (cc)
operator_holds-true Equal (target ∷ targets) value h = ap Some (same_bits-true target value h)
operator_holds-true Ignore targets value h = tt
operator_holds-true (Msb bits) [] value h = absurd (cc)
operator_holds-true (Msb bits) (target ∷ targets) value h =
    let parts : (nat_le bits (length value) ≡ true)
    × (same_bits (take bits target) (take bits value) ≡ true) =
    and_parts (nat_le bits (length value)) (same_bits (take bits target) (take bits value)) h in (
      leb-true bits (length value) parts.0,
      sym
          (same_bits-true (take bits target) (take bits value) parts.1),
    )
operator_holds-true MatchMapping targets value h =
    let some : Any (λ target. same_bits target value ≡ true) targets =
    Any-from_list_any (λ target. same_bits target value) targets h in
    let same : some.1 ≡ value = same_bits-true some.1 value some.4 in
    subst (Contains targets) same (some.0, some.2, some.3)

-- a matching operator that holds of the value passes the test
pub operator_holds-from : (operator : Operator) (targets : List (List Bool)) (value : List Bool)
    → OperatorHolds operator targets value → operator_holds operator targets value ≡ true
operator_holds-from Equal [] value h = absurd (cc)
operator_holds-from Equal (target ∷ targets) value h = let same : target ≡ value = cc in
    same_bits-from target value same
operator_holds-from Ignore targets value h = refl
operator_holds-from (Msb bits) [] value h = absurd h
operator_holds-from (Msb bits) (target ∷ targets) value h =
    and_from (nat_le bits (length value)) (same_bits (take bits target) (take bits value))
    (le-leb bits (length value) h.0)
    (same_bits-from (take bits target) (take bits value) (sym h.1))
operator_holds-from MatchMapping targets value h =
    list_any-from_Any (λ target. same_bits target value) targets
    (h.0, value, h.1, h.2, same_bits-itself value)

-- the operator, tested
pub operator-tested : (operator : Operator) (targets : List (List Bool)) (value : List Bool)
    → (operator_holds operator targets value ≡ true) ↔ OperatorHolds operator targets value
operator-tested operator targets value =
    (operator_holds-true operator targets value, operator_holds-from operator targets value)

-- the length that an entry fixes, tested
pub length-tested : (name : FieldName) (kind : Length) (value : List Bool)
    → (length_holds name kind value ≡ true) ↔ LengthHolds name kind value
length-tested (CoapOption number) (Fixed bits) value =
    (λ h. eqb-true (length value) bits h, λ h. eq-eqb (length value) bits h)
length-tested (CoapOption number) _ value = (λ h. tt, λ h. refl)
length-tested _ kind value = (λ h. tt, λ h. refl)

-- bits of a number, tested
bits-tested : (bits value : List Bool) → (same_bits bits value ≡ true) ↔ (value ≡ bits)
bits-tested bits value =
    (λ h. sym (same_bits-true bits value h), λ h. same_bits-from bits value (sym h))

number-tested : (o : Option ℕ) (value : List Bool)
    → (option_map_or (λ n. same_bits (number_bits 16 n) value) o true ≡ true) ↔ IfSome o
    (λ n. value ≡ number_bits 16 n)
number-tested None value = (λ h. tt, λ h. refl)
number-tested (Some n) value = bits-tested (number_bits 16 n) value

-- what the other end makes of itself, tested
pub restored-tested : (iids : Iids) (computed : Computed) (name : FieldName) (action : Action)
    (value : List Bool)
    → (restored_holds iids computed name action value ≡ true) ↔ RestoredHolds iids computed name
    action value
restored-tested iids computed name Compute value =
    number-tested (computed_value computed name) value
restored-tested iids computed name DevIid value = bits-tested (number_bits 64 iids.dev) value
restored-tested iids computed name AppIid value = bits-tested (number_bits 64 iids.app) value
restored-tested iids computed name _ value = (λ h. tt, λ h. refl)

-- an entry and the value of its field, tested
pub agrees-true : (iids : Iids) (computed : Computed) (e : EntryData) (value : List Bool)
    → agrees iids computed e value ≡ true → Agrees iids computed e value
agrees-true iids computed e value h =
    let last : ((length_holds e.name e.length value && operator_holds e.operator e.targets
    value) ≡ true) × (restored_holds iids computed e.name e.action value ≡ true) =
    and_parts (length_holds e.name e.length value && operator_holds e.operator e.targets value)
    (restored_holds iids computed e.name e.action value) h in
    let first : (length_holds e.name e.length value ≡ true)
    × (operator_holds e.operator e.targets value ≡ true) =
    and_parts (length_holds e.name e.length value) (operator_holds e.operator e.targets value)
    last.0 in
    record {
      length_holds = (length-tested e.name e.length value).0 first.0;
      operator_holds = operator_holds-true e.operator e.targets value first.1;
      restored_holds = (restored-tested iids computed e.name e.action value).0 last.1;
    }

-- an entry that agrees with the value of its field passes the test
pub agrees-from : (iids : Iids) (computed : Computed) (e : EntryData) (value : List Bool)
    → Agrees iids computed e value → agrees iids computed e value ≡ true
agrees-from iids computed e value h =
    and_from (length_holds e.name e.length value && operator_holds e.operator e.targets value)
    (restored_holds iids computed e.name e.action value)
    (and_from (length_holds e.name e.length value) (operator_holds e.operator e.targets value)
    ((length-tested e.name e.length value).1 h.length_holds)
    (operator_holds-from e.operator e.targets value h.operator_holds))
    ((restored-tested iids computed e.name e.action value).1 h.restored_holds)

-- an entry of the field, tested
pub has_entry-true : (entries : List EntryData) (at : FieldAt) → has_entry entries at ≡ true
    → (e : EntryData) × Contains entries e × (field_of e ≡ at)
has_entry-true entries at h =
    let some : Any (λ e. same_field (field_of e) at ≡ true) entries =
    Any-from_list_any (λ e. same_field (field_of e) at) entries h in
    (some.1, (some.0, some.2, some.3), same_field-true (field_of some.1) at some.4)

pub has_entry-from : (entries : List EntryData) (at : FieldAt) (e : EntryData) → Contains entries e
    → field_of e ≡ at → has_entry entries at ≡ true
has_entry-from entries at e h same =
    list_any-from_Any (λ e. same_field (field_of e) at) entries
    (h.0, e, h.1, h.2, same_field-from (field_of e) at same)

-- a field of the entry, tested
pub has_value-true : (fields : List FieldValue) (e : EntryData) → has_value fields e ≡ true
    → (f : FieldValue) × Contains fields f × (field_of e ≡ f.at)
has_value-true fields e h =
    let some : Any (λ f. same_field (field_of e) f.at ≡ true) fields =
    Any-from_list_any (λ f. same_field (field_of e) f.at) fields h in
    (some.1, (some.0, some.2, some.3), same_field-true (field_of e) some.1.at some.4)

pub has_value-from : (fields : List FieldValue) (e : EntryData) (f : FieldValue) → Contains fields f
    → field_of e ≡ f.at → has_value fields e ≡ true
has_value-from fields e f h same =
    list_any-from_Any (λ f. same_field (field_of e) f.at) fields
    (h.0, f, h.1, h.2, same_field-from (field_of e) f.at same)

-- an element of a list, of which each element passes
passes : {X : Type 0} (test : X → Bool) (xs : List X) (x : X) → list_all test xs ≡ true
    → Contains xs x → test x ≡ true
passes test xs x h c = All-contains (λ x. test x ≡ true) xs x (AllPass-from_list_all test xs h) c

-- a list of which each element passes
all_pass : {X : Type 0} (test : X → Bool) (xs : List X) → ((x : X) → Contains xs x → test x ≡ true)
    → list_all test xs ≡ true
all_pass test xs h =
    list_all-from_AllPass test xs
    (All-weaker (Contains xs) (λ x. test x ≡ true) h xs (All-contains_itself xs))

-- an entry of another field, or one that agrees
abbrev agrees_where : Iids → Computed → FieldValue → EntryData → Bool
agrees_where iids computed f e =
    not (same_field (field_of e) f.at) || agrees iids computed e f.value

or_second : (a b : Bool) → a ≡ true → (not a || b) ≡ true → b ≡ true
or_second true b e h = h
or_second false b e h = absurd (cc)

or_from : (a b : Bool) → (a ≡ true → b ≡ true) → (not a || b) ≡ true
or_from true b h = h refl
or_from false b h = refl

module _ (rule : RuleData) (iids : Iids) (direction : Direction) (fields : List FieldValue)
    (computed : Computed) where
  abbrev entries : List EntryData
  entries = covered rule direction

  abbrev each_field : Bool
  each_field = list_all (λ f. has_entry entries f.at) fields

  abbrev each_entry : Bool
  each_entry = list_all (has_value fields) entries

  abbrev each_agrees : Bool
  each_agrees = list_all (entries_agree iids computed entries) fields

  -- the test holds, so the rule matches
  pub does_match-true : does_match rule iids direction fields computed ≡ true
      → Matches rule iids direction fields computed
  does_match-true h =
      let last : ((each_field && each_entry) ≡ true) × (each_agrees ≡ true) =
      and_parts (each_field && each_entry) each_agrees h in
      let first : (each_field ≡ true) × (each_entry ≡ true) =
      and_parts each_field each_entry last.0 in
      record {
        same_set = record {
          each_field =
              λ f c. has_entry-true entries f.at
              (passes (λ f. has_entry entries f.at) fields f first.0 c);
          each_entry =
              λ e c. has_value-true fields e (passes (has_value fields) entries e first.1 c);
        };
        agrees = λ f e c d same.
            let agree : agrees_where iids computed f e ≡ true =
            passes (agrees_where iids computed f) entries e
            (passes (entries_agree iids computed entries) fields f last.1 c) d in
            agrees-true iids computed e f.value
            (or_second (same_field (field_of e) f.at) (agrees iids computed e f.value)
            (same_field-from (field_of e) f.at same) agree);
      }

  -- the rule matches, so the test holds
  pub does_match-from : Matches rule iids direction fields computed
      → does_match rule iids direction fields computed ≡ true
  does_match-from m =
      let first : each_field ≡ true =
      all_pass (λ f. has_entry entries f.at) fields (λ f c.
      let some : (e : EntryData) × Contains entries e × (field_of e ≡ f.at) =
      m.same_set.each_field f c in
      has_entry-from entries f.at some.0 some.1 some.2)
      in
      let second : each_entry ≡ true =
      all_pass (has_value fields) entries (λ e c.
      let some : (f : FieldValue) × Contains fields f × (field_of e ≡ f.at) =
      m.same_set.each_entry e c in
      has_value-from fields e some.0 some.1 some.2)
      in
      let third : each_agrees ≡ true =
      all_pass (entries_agree iids computed entries) fields (λ f c.
      all_pass (agrees_where iids computed f) entries (λ e d.
      or_from (same_field (field_of e) f.at) (agrees iids computed e f.value) (λ same.
      agrees-from iids computed e f.value
      (m.agrees f e c d (same_field-true (field_of e) f.at same)))))
      in
      and_from (each_field && each_entry) each_agrees (and_from each_field each_entry first second)
      third

  -- the rule matches the fields, tested
  pub match-tested : (does_match rule iids direction fields computed ≡ true) ↔ Matches rule iids
      direction fields computed
  match-tested = (does_match-true, does_match-from)
