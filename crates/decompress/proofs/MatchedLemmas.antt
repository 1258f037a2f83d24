-- What the other end restores of the fields of a packet that a rule matches.
use Rattle.std.specs.Prelude.{ℕ, ◌≡◌, ◌*◌, ◌≤◌, ◌⊎◌, Bool, true, false, List, [], ◌∷◌, ◌++◌, length}
use Rattle.std.specs.Prelude.{map, take, drop, get_or, slice_get, unwrap_or, Some, Contains}
use Rattle.std.specs.Prelude.{IsSomeAnd, Ok}
use Rattle.std.specs.List.{AllByRecursion}
use Rattle.std.proofs.Common.{ap, refl, sym, ◌∙◌, subst, inl, inr}
use Rattle.std.proofs.lemmas.Bool.{cases_Bool, and_cases, true≢false, false≢true}
use Rattle.std.proofs.lemmas.List.{take-append-drop}
use Rattle.schc_bits.specs.Bits.{bits_value}
use Rattle.schc_ids.specs.declared.ends.Direction.{Direction}
use Rattle.schc_ids.specs.declared.ends.Iids.{Iids}
use Rattle.schc_ids.specs.declared.names.FieldAt.{FieldAt}
use Rattle.schc_ids.specs.declared.names.FieldName.{FieldName}
use Rattle.schc_ids.specs.declared.names.FieldName.TheVariants.{CoapTkl}
use Rattle.schc_ids.specs.Ends.{covers}
use Rattle.rule_model.specs.declared.rule.Operator.{Operator}
use Rattle.rule_model.specs.declared.rule.Operator.TheVariants.{Equal, Ignore, Msb, MatchMapping}
use Rattle.rule_model.specs.declared.rule.Action.{Action}
use Rattle.rule_model.specs.declared.rule.Action.TheVariants.{NotSent, ValueSent, MappingSent, Lsb}
use Rattle.rule_model.specs.declared.rule.Action.TheVariants.{Compute, DevIid, AppIid}
use Rattle.rule_model.specs.declared.value.Computed.{Computed}
use Rattle.rule_model.specs.declared.value.FieldValue.{FieldValue}
use Rattle.rule_model.specs.Data.{EntryData, RuleData}
use Rattle.rule_model.specs.Cover.{covered, field_of, stack_of, is_lossy, is_compute}
use Rattle.rule_model.specs.Findings.{same_bits, is_allowed_pair, is_computed_by, is_needed}
use Rattle.rule_model.specs.Findings.{IsAdmitted}
use Rattle.rule_model.specs.Matches.{OperatorHolds, RestoredHolds, Agrees, Matches}
use Rattle.rule_model.specs.Residue.{same_field, value_of, index_of, first_target, residue_of}
use Rattle.rule_model.specs.Residue.{token_bits, restored_by, restored_value, restored_field}
use Rattle.rule_model.specs.Residue.{restored_fields, IsSized}
use Rattle.rule_model.proofs.ResidueLemmas.{same_bits-true, same_bits-itself, index_of-cases}
use Rattle.rule_model.proofs.SizedLemmas.{same_field-true, same_field-itself, value_of-cases}
use Rattle.rule_model.proofs.EntryRowsLemmas.{position-none, EntryHolds, EntryHolds-from_IsAdmitted}
use Rattle.rule_model.proofs.EntryRowsLemmas.{InOrder-from_IsAdmitted}
use Rattle.decompress.specs.Reading.{restore_at}
use Rattle.decompress.proofs.EntryLemmas.{SentFits, some-at}
use Rattle.decompress.proofs.AlongLemmas.{token_length, value_of-lacks, Lacks-restored, again-along}
use Rattle.decompress.proofs.SoundLemmas.{Passes}
use Rattle.decompress.proofs.LawLemmas.{all-from, all-at, unfilter, passes-at, sound-all}
use Rattle.decompress.proofs.LawLemmas.{value_of-there, fits-at}

-- the first target
first_of : (targets : List (List Bool)) (value : List Bool) → slice_get targets 0 ≡ Some value
    → first_target targets ≡ value
first_of [] value e = absurd (cc)
first_of (t ∷ targets) value e = cc

-- MSB's bits are those of the first target
msb_front : (bits : ℕ) (targets : List (List Bool)) (value : List Bool)
    → IsSomeAnd (slice_get targets 0)
    (λ target. (bits ≤ length value) × (take bits value ≡ take bits target))
    → take bits (first_target targets) ≡ take bits value
msb_front bits [] value h = absurd h
msb_front bits (t ∷ targets) value h = sym h.1

-- a value that is a target has its index
mapped_back : (targets : List (List Bool)) (value : List Bool) → Contains targets value
    → unwrap_or (slice_get targets (index_of targets value)) [] ≡ value
mapped_back targets value among =
    elim (index_of-cases targets value) [
      | inl h ↦
          ap (λ found. unwrap_or found []) (some-at targets (index_of targets value) h.0)
          ∙ same_bits-true (get_or targets (index_of targets value) []) value h.1
      | inr none ↦
          let fails : same_bits (get_or targets among.0 value) value ≡ false =
          position-none (λ target. same_bits target value) targets none among.0 value among.1 in
          let own : same_bits (get_or targets among.0 value) value ≡ true =
          subst (λ (t : List Bool). same_bits t value ≡ true) (sym among.2) (same_bits-itself value)
          in
          absurd (true≢false (sym own ∙ fails))
    ]

-- a value that agrees with its entry is restored, but where the entry drops or computes it
restored_agrees : (iids : Iids) (computed : Computed) (action : Action) (operator : Operator)
    (name : FieldName) (targets : List (List Bool)) (value : List Bool)
    → is_allowed_pair operator action ≡ true → is_lossy operator action ≡ false
    → is_compute action ≡ false → OperatorHolds operator targets value
    → RestoredHolds iids computed name action value
    → restored_by iids action name operator targets value ≡ value
restored_agrees iids computed NotSent Equal name targets value pair lossy compute holds made =
    first_of targets value holds
restored_agrees iids computed NotSent Ignore name targets value pair lossy compute holds made =
    absurd (true≢false lossy)
restored_agrees iids computed NotSent (Msb bits) name targets value pair lossy compute holds made =
    absurd (false≢true pair)
restored_agrees iids computed NotSent MatchMapping name targets value pair lossy compute holds
    made = absurd (false≢true pair)
restored_agrees iids computed ValueSent operator name targets value pair lossy compute holds made =
    refl
restored_agrees iids computed MappingSent Equal name targets value pair lossy compute holds made =
    absurd (false≢true pair)
restored_agrees iids computed MappingSent Ignore name targets value pair lossy compute holds made =
    absurd (false≢true pair)
restored_agrees iids computed MappingSent (Msb bits) name targets value pair lossy compute holds
    made = absurd (false≢true pair)
restored_agrees iids computed MappingSent MatchMapping name targets value pair lossy compute holds
    made = mapped_back targets value holds
restored_agrees iids computed Lsb Equal name targets value pair lossy compute holds made =
    absurd (false≢true pair)
restored_agrees iids computed Lsb Ignore name targets value pair lossy compute holds made =
    absurd (false≢true pair)
restored_agrees iids computed Lsb (Msb bits) name targets value pair lossy compute holds made =
    ap (λ front. front ++ drop bits value) (msb_front bits targets value holds)
    ∙ take-append-drop bits value
restored_agrees iids computed Lsb MatchMapping name targets value pair lossy compute holds made =
    absurd (false≢true pair)
restored_agrees iids computed Compute operator name targets value pair lossy compute holds made =
    absurd (true≢false compute)
restored_agrees iids computed DevIid operator name targets value pair lossy compute holds made =
    sym made
restored_agrees iids computed AppIid operator name targets value pair lossy compute holds made =
    sym made

-- a value that agrees with its entry, whose operator and action are an allowed pair, is restored as
-- it is, but where the entry drops or computes it
pub restored_value-agrees : (iids : Iids) (computed : Computed) (e : EntryData) (value : List Bool)
    → is_allowed_pair e.operator e.action ≡ true → is_lossy e.operator e.action ≡ false
    → is_compute e.action ≡ false → Agrees iids computed e value
    → restored_value iids e value ≡ value
restored_value-agrees iids computed e value pair lossy compute agrees =
    restored_agrees iids computed e.action e.operator e.name e.targets value pair lossy compute
    agrees.operator_holds agrees.restored_holds

-- the token length is never computed
compute_no_length : (action : Action) → is_computed_by action CoapTkl ≡ true
    → is_compute action ≡ false
compute_no_length Compute h = absurd (false≢true h)
compute_no_length _ h = refl

-- the token length that is restored is that of the fields, or neither has one
token_along : (iids : Iids) (fields : List FieldValue) (entries : List EntryData)
    → AllByRecursion
    (λ e. same_field (field_of e) token_length ≡ true
    → restored_value iids e (value_of fields (field_of e)) ≡ value_of fields (field_of e)) entries
    → (value_of (map (restored_field iids fields) entries) token_length ≡ value_of fields
    token_length) ⊎ AllByRecursion (λ e. same_field (field_of e) token_length ≡ false) entries
token_along iids fields [] h = inr tt
token_along iids fields (e ∷ entries) h =
    elim (cases_Bool (same_field (field_of e) token_length)) [
      | inl t ↦ inl
          (rw t (h.0 t ∙ ap (value_of fields) (same_field-true (field_of e) token_length t)))
      | inr f ↦
          elim (token_along iids fields entries h.1) [
            | inl same ↦ inl (rw f same)
            | inr none ↦ inr (f, none)
          ]
    ]

-- the token length is restored as it was
length_restored : (rule : RuleData) (iids : Iids) (direction : Direction) (fields : List FieldValue)
    (computed : Computed) → IsAdmitted rule → Matches rule iids direction fields computed
    → (e : EntryData) → Contains (covered rule direction) e
    → same_field (field_of e) token_length ≡ true
    → restored_value iids e (value_of fields (field_of e)) ≡ value_of fields (field_of e)
length_restored rule iids direction fields computed admitted matches e used t =
    let name : e.name ≡ CoapTkl =
    ap (λ (at : FieldAt). at.name) (same_field-true (field_of e) token_length t) in
    let holds : EntryHolds (stack_of rule) e =
    EntryHolds-from_IsAdmitted rule admitted e
    (unfilter (λ d. covers d.direction direction) rule.entries e used).0 in
    let passes : Passes (stack_of rule) e = passes-at rule direction admitted e used in
    let lossy : is_lossy e.operator e.action ≡ false =
    elim (and_cases (is_lossy e.operator e.action) (is_needed e.name) holds.needed) [
      | inl l ↦ l
      | inr unneeded ↦ absurd
          (true≢false (sym (subst (λ name. is_needed name ≡ true) (sym name) refl) ∙ unneeded))
    ]
    in
    let compute : is_compute e.action ≡ false =
    compute_no_length e.action
    (subst (λ name. is_computed_by e.action name ≡ true) name passes.computed) in
    let there = matches.same_set.each_entry e used in
    let g = value_of-there fields there.0 there.1 in
    let value : value_of fields (field_of e) ≡ g.0.value = ap (value_of fields) there.2 ∙ g.3 in
    let agrees : Agrees iids computed e g.0.value =
    matches.agrees g.0 e g.1 used (there.2 ∙ sym g.2) in
    subst (λ v. restored_value iids e v ≡ v) (sym value)
    (restored_value-agrees iids computed e g.0.value passes.pair lossy compute agrees)

tokens_restored : (rule : RuleData) (iids : Iids) (direction : Direction) (fields : List FieldValue)
    (computed : Computed) → IsAdmitted rule → Matches rule iids direction fields computed
    → token_bits (restored_fields rule iids direction fields) ≡ token_bits fields
tokens_restored rule iids direction fields computed admitted matches =
    let stays =
    token_along iids fields (covered rule direction)
    (all-from
    (λ e. same_field (field_of e) token_length ≡ true
    → restored_value iids e (value_of fields (field_of e)) ≡ value_of fields (field_of e))
    (covered rule direction)
    (length_restored rule iids direction fields computed admitted matches))
    in
    let same : value_of (restored_fields rule iids direction fields) token_length ≡ value_of fields
    token_length =
    elim stays [
      | inl same ↦ same
      | inr none ↦
          let lacks : value_of (restored_fields rule iids direction fields) token_length ≡ [] =
          value_of-lacks (restored_fields rule iids direction fields) token_length
          (Lacks-restored iids fields token_length (covered rule direction) none)
          in
          elim (value_of-cases fields token_length) [
            | inl found ↦
                let its = matches.same_set.each_field found.0 found.1 in
                let passes : same_field (field_of its.0) token_length ≡ true =
                subst (λ (at : FieldAt). same_field at token_length ≡ true) (sym (its.2 ∙ found.2))
                (same_field-itself token_length)
                in
                absurd (true≢false
                (sym passes
                ∙ all-at (λ e. same_field (field_of e) token_length ≡ false)
                (covered rule direction) none its.0 its.1))
            | inr empty ↦ lacks ∙ sym empty
          ]
    ]
    in
    ap (λ value. 8 * bits_value value) same

-- what is written of the fields that a rule matches is read back
pub reads_back : (rule : RuleData) (iids : Iids) (direction : Direction) (fields : List FieldValue)
    (computed : Computed) (rest : List Bool) → IsAdmitted rule
    → Matches rule iids direction fields computed → IsSized rule direction fields
    → restore_at rule iids direction (residue_of rule direction fields ++ rest) ≡ Ok
    (restored_fields rule iids direction fields, rest)
reads_back rule iids direction fields computed rest admitted matches sized =
    again-along iids direction fields (restored_fields rule iids direction fields) 1 [] rule.entries
    rest (InOrder-from_IsAdmitted rule admitted) (sound-all rule admitted)
    (all-from (λ e. SentFits fields e (value_of fields (field_of e))) (covered rule direction)
    (λ e used.
    let there = matches.same_set.each_entry e used in
    fits-at rule direction fields admitted sized e used there.0 there.1 there.2))
    (tokens_restored rule iids direction fields computed admitted matches) refl
