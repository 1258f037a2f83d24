-- A rule that matches a packet is among the suspects for the number in the packet's key field.
use Rattle.std.proofs.Common.{◌≡◌, ℕ, zero, suc, ◌==◌, ◌<◌, ◌≤◌, Bool, true, false, cond, ◌&&◌}
use Rattle.std.proofs.Common.{◌||◌, not, List, [], ◌∷◌, length, get_or, find, Contains, Some}
use Rattle.std.proofs.Common.{slice_get, ◌∙◌, refl, sym, ap, subst, arith, inl, inr, eq-eqb, ne_eqb}
use Rattle.std.proofs.Common.{nat_lt}
use Rattle.std.specs.List.{list_any, list_all}
use Rattle.std.proofs.lemmas.Bool.{and_from, or_parts, cases_Bool, eqb-false, ltb-false}
use Rattle.std.proofs.lemmas.Bool.{false_from_ne_true}
use Rattle.std.proofs.lemmas.List.Folds.{list_any-from_Any}
use Rattle.std.proofs.lemmas.List.Sums.{AllPass-from_list_all, list_all-from_AllPass}
use Rattle.std.proofs.lemmas.Option.{get_or_from_slice_get, slice_get_within}
use Rattle.std.proofs.lemmas.List.{get_or_default}
use Rattle.schc_ids.proofs.NamesLemmas.{same_name-itself}
use Rattle.schc_bits.specs.Bits.{bits_value}
use Rattle.schc_ids.specs.declared.ends.Direction.{Direction}
use Rattle.schc_ids.specs.declared.ends.Iids.{Iids}
use Rattle.schc_ids.specs.declared.names.FieldName.{FieldName}
use Rattle.schc_ids.specs.declared.names.FieldName.TheVariants as field
use Rattle.schc_ids.specs.declared.names.Stack.{Stack}
use Rattle.schc_ids.specs.declared.names.Stack.TheVariants as stack
use Rattle.schc_ids.specs.Names.{same_name, is_option, fields_of_stack}
use Rattle.rule_model.specs.declared.rule.Operator.{Operator}
use Rattle.rule_model.specs.declared.rule.Operator.TheVariants as operator
use Rattle.rule_model.specs.declared.value.Computed.{Computed}
use Rattle.rule_model.specs.declared.value.FieldValue.{FieldValue}
use Rattle.rule_model.specs.Data.{EntryData, RuleData}
use Rattle.rule_model.specs.Cover.{covered, field_of, has_field, serves, stack_of}
use Rattle.rule_model.specs.Findings.{IsAdmitted, is_length_of}
use Rattle.rule_model.specs.Matches.{Matches, OperatorHolds, Agrees}
use Rattle.rule_model.specs.Residue.{same_field, value_of}
use Rattle.rule_model.specs.Tests.{does_match}
use Rattle.rule_model.proofs.SizedLemmas.{Contains-rest, Contains-first, same_field-true}
use Rattle.rule_model.proofs.SizedLemmas.{same_field-itself}
use Rattle.rule_model.proofs.TestLemmas.{does_match-true}
use Rattle.editions.specs.declared.listed.Listed.{Listed}
use Rattle.editions.specs.Data.{lookup, IsAscending}
use Rattle.editions.specs.Suspects.{same_stack, key_field, key_entry, key_value, takes_key}
use Rattle.editions.specs.Suspects.{is_suspect}
use Rattle.editions.proofs.KeyLemmas.{key-entry-holds}
use Rattle.editions.proofs.LookupLemmas.{IsAscending-tail}

-- the key field is one that each packet of the stack has
key-passes : (headers : Stack) (test : FieldName → Bool)
    → list_all test (fields_of_stack headers) ≡ true → test (key_field headers) ≡ true
key-passes stack.Ip test all =
    AllPass-from_list_all test (fields_of_stack stack.Ip) all 4 field.IpVersion (omega arith)
key-passes stack.IpUdp test all =
    AllPass-from_list_all test (fields_of_stack stack.IpUdp) all 11 field.IpVersion (omega arith)
key-passes stack.IpUdpCoap test all =
    AllPass-from_list_all test (fields_of_stack stack.IpUdpCoap) all 11 field.IpVersion
    (omega arith)

found-cases : (test : EntryData → Bool) (x : EntryData) (xs : List EntryData) (b : Bool)
    → (b || list_any test xs) ≡ true
    → (list_any test xs ≡ true → (e : EntryData) × (find test xs ≡ Some e)) → (e : EntryData)
    × (cond b (Some x) (find test xs) ≡ Some e)
found-cases test x xs true h rest = (x, refl)
found-cases test x xs false h rest = rest h

found-some : (test : EntryData → Bool) (xs : List EntryData) → list_any test xs ≡ true
    → (e : EntryData) × (find test xs ≡ Some e)
found-some test [] h = absurd cc
found-some test (x ∷ xs) h = found-cases test x xs (test x) h (found-some test xs)

-- a rule that serves the direction has a key entry
has-key-entry : (rule : RuleData) (direction : Direction) → serves rule direction ≡ true
    → (e : EntryData) × (key_entry (stack_of rule) rule direction ≡ Some e)
has-key-entry rule direction served =
    found-some (λ e. same_name e.name (key_field (stack_of rule))) (covered rule direction)
    (key-passes (stack_of rule) (has_field rule direction) served)

at-most-one : (position : ℕ) (headers : Stack) (name : FieldName) → name ≡ key_field headers
    → (nat_lt 1 position && not (is_option name)) ≡ false → position ≤ 1
at-most-one position headers name e h =
    let no : (nat_lt 1 position && not (is_option (key_field headers))) ≡ false =
    subst (λ n. (nat_lt 1 position && not (is_option n)) ≡ false) e h in
    ltb-false 1 position (key-cases headers no)
  where
    and-true : (b : Bool) → (b && true) ≡ false → b ≡ false
    and-true true e = e
    and-true false e = e

    key-cases : (headers : Stack)
        → (nat_lt 1 position && not (is_option (key_field headers))) ≡ false
        → nat_lt 1 position ≡ false
    key-cases stack.Ip h = and-true (nat_lt 1 position) h
    key-cases stack.IpUdp h = and-true (nat_lt 1 position) h
    key-cases stack.IpUdpCoap h = and-true (nat_lt 1 position) h

-- it is of the key field, at its only position
key-entry-at : (rule : RuleData) (direction : Direction) (e : EntryData) → IsAdmitted rule
    → key_entry (stack_of rule) rule direction ≡ Some e
    → field_of e ≡ record { name = key_field (stack_of rule); position = 1 }
key-entry-at rule direction e admitted found =
    let holds = key-entry-holds rule (stack_of rule) direction e admitted found in
    let shape =
    or_parts (not (is_length_of e.name e.length) || (e.position == 0))
    (nat_lt 1 e.position && not (is_option e.name)) holds.2.shape in
    let least =
    eqb-false e.position 0
    (or_parts (not (is_length_of e.name e.length)) (e.position == 0) shape.0).1 in
    let most : e.position ≤ 1 = at-most-one e.position (stack_of rule) e.name holds.0 shape.1 in
    let one : e.position ≡ 1 = omega arith in
    ap (λ n. record { name = n; position = e.position }) holds.0
    ∙ ap (λ p. record { name = key_field (stack_of rule); position = p }) one

-- the value of a field that is there
value-found : (fields : List FieldValue) (f : FieldValue) (k : ℕ) → k < length fields
    → get_or fields k f ≡ f → (g : FieldValue) × Contains fields g × (g.at ≡ f.at)
    × (value_of fields f.at ≡ g.value)
value-found [] f k within at = absurd (omega arith)
value-found (x ∷ xs) f zero within at =
    let here : x.at ≡ f.at = ap (λ z. z.at) at in (
      x,
      Contains-first x xs,
      here,
      rw (subst (λ a. same_field x.at a ≡ true) here (same_field-itself x.at)) refl,
    )
value-found (x ∷ xs) f (suc k) within at =
    elim (cases_Bool (same_field x.at f.at)) [
      | inl t ↦ (x, Contains-first x xs, same_field-true x.at f.at t, rw t refl)
      | inr t ↦
          let rest = value-found xs f k (omega arith) at in
          (rest.0, Contains-rest x xs rest.0 rest.1, rest.2, rw t rest.3)
    ]

-- an entry takes the number of the value for which its operator holds
takes-value : (op : Operator) (targets : List (List Bool)) (value : List Bool)
    → OperatorHolds op targets value → takes_key (bits_value value) op targets ≡ true
takes-value operator.Equal targets value holds =
    rw holds (eq-eqb (bits_value value) (bits_value value) refl)
takes-value operator.Ignore targets value holds = refl
takes-value (operator.Msb bits) targets value holds = refl
takes-value operator.MatchMapping targets value holds = refl

same_stack-itself : (headers : Stack) → same_stack headers headers ≡ true
same_stack-itself stack.Ip = refl
same_stack-itself stack.IpUdp = refl
same_stack-itself stack.IpUdpCoap = refl

-- the key entry of a rule that matches takes the number in the packet's key field
key-taken : (rule : RuleData) (iids : Iids) (direction : Direction) (fields : List FieldValue)
    (computed : Computed) (e : EntryData) → IsAdmitted rule
    → Matches rule iids direction fields computed
    → key_entry (stack_of rule) rule direction ≡ Some e
    → takes_key (key_value (stack_of rule) fields) e.operator e.targets ≡ true
key-taken rule iids direction fields computed e admitted m found =
    let holds = key-entry-holds rule (stack_of rule) direction e admitted found in
    let its = m.same_set.each_entry e holds.1 in
    let first = value-found fields its.0 its.1.0 its.1.1 its.1.2 in
    let agree : Agrees iids computed e first.0.value =
    m.agrees first.0 e first.1 holds.1 (its.2 ∙ sym first.2) in
    let at : its.0.at ≡ record { name = key_field (stack_of rule); position = 1 } = sym its.2
    ∙ key-entry-at rule direction e admitted found in
    let value : value_of fields
    (record { name = key_field (stack_of rule); position = 1 }) ≡ first.0.value =
    subst (λ a. value_of fields a ≡ first.0.value) at first.3 in
    subst (λ v. takes_key (bits_value v) e.operator e.targets ≡ true) (sym value)
    (takes-value e.operator e.targets first.0.value agree.operator_holds)

-- a live rule that serves the direction and matches the packet's fields is a suspect
pub is_suspect-from_Matches : (listed : Listed) (iids : Iids) (direction : Direction)
    (fields : List FieldValue) (computed : Computed) → IsAdmitted listed.rule → listed.live ≡ true
    → serves listed.rule direction ≡ true → Matches listed.rule iids direction fields computed
    → is_suspect direction (stack_of listed.rule) (key_value (stack_of listed.rule) fields)
    listed ≡ true
unfolding is_suspect
is_suspect-from_Matches listed iids direction fields computed admitted live served m =
    let entry = has-key-entry listed.rule direction served in
    let takes = key-taken listed.rule iids direction fields computed entry.0 admitted m entry.1 in
    and_from
    (listed.live && same_stack (stack_of listed.rule) (stack_of listed.rule) && serves
    listed.rule direction) _
    (and_from (listed.live && same_stack (stack_of listed.rule) (stack_of listed.rule)) _
    (and_from listed.live _ live (same_stack-itself (stack_of listed.rule))) served)
    (rw entry.1 takes)

-- so one that isn't doesn't match
pub not-suspected : (listed : Listed) (iids : Iids) (direction : Direction)
    (fields : List FieldValue) (computed : Computed) → IsAdmitted listed.rule → listed.live ≡ true
    → serves listed.rule direction ≡ true
    → is_suspect direction (stack_of listed.rule) (key_value (stack_of listed.rule) fields)
    listed ≡ false → does_match listed.rule iids direction fields computed ≡ false
not-suspected listed iids direction fields computed admitted live served other =
    false_from_ne_true (does_match listed.rule iids direction fields computed) (λ h.
    let yes =
    is_suspect-from_Matches listed iids direction fields computed admitted live served
    (does_match-true listed.rule iids direction fields computed h) in absurd cc)

-- a rule serves the direction where it matches fields among which are all that each packet of its
-- stack has
pub serves-from_Matches : (rule : RuleData) (iids : Iids) (direction : Direction)
    (fields : List FieldValue) (computed : Computed) → Matches rule iids direction fields computed
    → ((name : FieldName) → Contains (fields_of_stack (stack_of rule)) name → (f : FieldValue)
    × Contains fields f × (f.at.name ≡ name)) → serves rule direction ≡ true
serves-from_Matches rule iids direction fields computed m always =
    list_all-from_AllPass (has_field rule direction) (fields_of_stack (stack_of rule))
    (λ k d within. named (get_or (fields_of_stack (stack_of rule)) k d)
    (k, within, get_or_default (fields_of_stack (stack_of rule)) k _ d within))
  where
    named : (name : FieldName) → Contains (fields_of_stack (stack_of rule)) name
        → has_field rule direction name ≡ true
    named name among =
        let f = always name among in
        let e = m.same_set.each_field f.0 f.1 in
        let same : e.0.name ≡ name = ap (λ a. a.name) e.2 ∙ f.2 in
        list_any-from_Any (λ d. same_name d.name name) (covered rule direction) (
          e.1.0,
          e.0,
          e.1.1,
          e.1.2,
          subst (λ n. same_name e.0.name n ≡ true) same
              (same_name-itself e.0.name),
        )

-- a rule that stands in an ascending list is listed under its RuleID
pub lookup-ascending : (rules : List Listed) (k : ℕ) (x : Listed) → IsAscending rules
    → slice_get rules k ≡ Some x → lookup rules x.rule.id ≡ Some x
lookup-ascending [] k x asc at = absurd cc
lookup-ascending (y ∷ ys) zero x asc at =
    let same : y ≡ x = cc in
    subst (λ z. lookup (y ∷ ys) z.rule.id ≡ Some z) same
    (rw (eq-eqb y.rule.id y.rule.id refl) refl)
lookup-ascending (y ∷ ys) (suc k) x asc at =
    let there : get_or ys k x ≡ x = get_or_from_slice_get ys k x x at in
    let within : k < length ys = slice_get_within ys k x at in
    let rises : y.rule.id < (get_or ys k x).rule.id = asc 0 (suc k) x (omega arith) (omega arith) in
    let above : y.rule.id < x.rule.id = subst (λ z. y.rule.id < z.rule.id) there rises in
    rw (ne_eqb y.rule.id x.rule.id (λ e. absurd (omega arith)))
    (lookup-ascending ys k x (IsAscending-tail y ys asc) at)
