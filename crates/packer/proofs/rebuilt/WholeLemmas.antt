-- The values of restored options are whole bytes.
use Rattle.std.specs.Prelude.{ℕ, zero, suc, ◌≡◌, ◌+◌, ◌-◌, ◌%◌, ◌==◌, ◌≤◌, Bool, true, false, not}
use Rattle.std.specs.Prelude.{◌&&◌, ◌||◌, nat_lt, nat_le, List, [], ◌∷◌, ◌++◌, length, take, drop}
use Rattle.std.specs.Prelude.{slice_get, unwrap_or, Contains}
use Rattle.std.specs.List.{list_any}
use Rattle.std.proofs.Common.{arith, ap, refl, sym, ◌∙◌, subst}
use Rattle.std.proofs.lemmas.Bool.{and_parts, or_parts, not-false, false≢true, eqb-true, eq-eqb}
use Rattle.std.proofs.lemmas.Bool.{ltb-false}
use Rattle.std.proofs.lemmas.List.{length-append, length-take-le, length-drop}
use Rattle.schc_ids.specs.declared.ends.Direction.{Direction}
use Rattle.schc_ids.specs.declared.ends.Iids.{Iids}
use Rattle.schc_ids.specs.declared.names.FieldAt.{FieldAt}
use Rattle.schc_ids.specs.declared.names.FieldName.{FieldName}
use Rattle.schc_ids.specs.declared.names.FieldName.TheVariants.{CoapToken, CoapOption}
use Rattle.schc_ids.specs.Names.{is_option, same_name}
use Rattle.rule_model.specs.declared.rule.Length.{Length}
use Rattle.rule_model.specs.declared.rule.Length.TheVariants.{Fixed, Variable, TokenLength}
use Rattle.rule_model.specs.declared.rule.Operator.{Operator}
use Rattle.rule_model.specs.declared.rule.Operator.TheVariants.{Equal, Ignore, Msb, MatchMapping}
use Rattle.rule_model.specs.declared.rule.Action.{Action}
use Rattle.rule_model.specs.declared.rule.Action.TheVariants.{NotSent, ValueSent, MappingSent, Lsb}
use Rattle.rule_model.specs.declared.rule.Action.TheVariants.{Compute, DevIid, AppIid}
use Rattle.rule_model.specs.declared.value.FieldValue.{FieldValue}
use Rattle.rule_model.specs.Data.{EntryData, RuleData}
use Rattle.rule_model.specs.Cover.{covered, field_of, stack_of}
use Rattle.rule_model.specs.Findings.{is_option_length, is_length_of, has_length, has_value}
use Rattle.rule_model.specs.Findings.{is_msb_wrong, is_computed_by, IsAdmitted}
use Rattle.rule_model.specs.Matches.{LengthHolds}
use Rattle.rule_model.specs.Residue.{value_of, index_of, SizeHolds, first_target, restored_by}
use Rattle.rule_model.specs.Residue.{restored_value}
use Rattle.rule_model.proofs.EntryRowsLemmas.{AreApart-from_IsAdmitted}
use Rattle.rule_model.proofs.SizedLemmas.{Contains-first, Contains-rest}
use Rattle.decompress.specs.Stands.{Stands}
use Rattle.decompress.proofs.LawLemmas.{passes-at, value_of-own}
use Rattle.coap_fields.specs.Join.{is_whole}
use Rattle.packer.proofs.CoverLemmas.{passes-each, mapped-value}
use Rattle.packer.proofs.rebuilt.PutLemmas.{same-restored}

-- each of these targets is whole bytes
abbrev AreWhole : List (List Bool) → Type 0
AreWhole targets = (target : List Bool) → Contains targets target → length target % 8 ≡ 0

target_whole : (kind : Length) (target : List Bool) → is_option_length kind ≡ true
    → has_length kind target ≡ true → length target % 8 ≡ 0
target_whole Variable target k h =
    let some =
    and_parts ((length target % 8 == 0) && nat_le 0 (length target))
    (nat_le (length target) 12000) h in
    eqb-true (length target % 8) 0
    (and_parts (length target % 8 == 0) (nat_le 0 (length target)) some.0).0
target_whole (Fixed bits) target k h =
    ap (λ n. n % 8) (eqb-true (length target) bits h)
    ∙ eqb-true (bits % 8) 0 (and_parts (bits % 8 == 0) (nat_le bits 2040) k).0
target_whole TokenLength target k h = absurd (false≢true k)

first_whole : (targets : List (List Bool)) → AreWhole targets
    → length (first_target targets) % 8 ≡ 0
first_whole [] h = refl
first_whole (target ∷ targets) h = h target (Contains-first target targets)

got_whole : (targets : List (List Bool)) (index : ℕ) → AreWhole targets
    → length (unwrap_or (slice_get targets index) []) % 8 ≡ 0
got_whole [] index h = refl
got_whole (target ∷ targets) zero h = h target (Contains-first target targets)
got_whole (target ∷ targets) (suc index) h =
    got_whole targets index (λ other among. h other (Contains-rest target targets other among))

none_taken : (count : ℕ) → length (take {A = Bool} count []) ≡ 0
none_taken zero = refl
none_taken (suc count) = refl

-- what follows MSB's first bits is whole bytes, and so are these
after_whole : (count number : ℕ) (targets : List (List Bool)) (value : List Bool)
    → is_msb_wrong (Msb count) (CoapOption number) targets ≡ false
    → length (drop count value) % 8 ≡ 0
    → value ≡ take count (first_target targets) ++ drop count value → length value % 8 ≡ 0
after_whole count number [] value m size is =
    let own : length value ≡ length (take count (first_target [])) + length (drop count value) =
    ap (λ (bits : List Bool). length bits) is
    ∙ length-append (take count (first_target [])) (drop count value)
    in
    omega (arith, own, none_taken count, size)
after_whole count number (target ∷ targets) value m size is =
    let short : Bool = list_any (λ t. nat_lt (length t) count) (target ∷ targets) in
    let some = or_parts ((count == 0) || short || not (count % 8 == 0)) false m in
    let more = or_parts ((count == 0) || short) (not (count % 8 == 0)) some.0 in
    let most = or_parts (count == 0) short more.0 in
    let first =
    or_parts (nat_lt (length target) count) (list_any (λ t. nat_lt (length t) count) targets)
    most.1 in
    let eight : count % 8 ≡ 0 = eqb-true (count % 8) 0 (not-false (count % 8 == 0) more.1) in
    let long : count ≤ length target = ltb-false (length target) count first.0 in
    let own : length value ≡ length (take count target) + length (drop count value) =
    ap (λ (bits : List Bool). length bits) is ∙ length-append (take count target) (drop count value)
    in
    omega (arith, eight, own, length-take-le count target long, size)

plain_whole : (value : List Bool) → length (drop 0 value) % 8 ≡ 0 → length value % 8 ≡ 0
plain_whole value size = omega (arith, size, length-drop 0 value)

lsb_whole : (operator : Operator) (number : ℕ) (targets : List (List Bool)) (value : List Bool)
    → is_msb_wrong operator (CoapOption number) targets ≡ false
    → SizeHolds Variable Lsb operator value
    → value ≡ restored_by (record { dev = 0; app = 0 }) Lsb (CoapOption number) operator targets
    value → length value % 8 ≡ 0
lsb_whole (Msb count) number targets value m size is =
    after_whole count number targets value m size.0 is
lsb_whole Equal number targets value m size is = plain_whole value size.0
lsb_whole Ignore number targets value m size is = plain_whole value size.0
lsb_whole MatchMapping number targets value m size is = plain_whole value size.0

variable_whole : (iids : Iids) (action : Action) (operator : Operator) (number : ℕ)
    (targets : List (List Bool)) (value : List Bool) → SizeHolds Variable action operator value
    → AreWhole targets → is_msb_wrong operator (CoapOption number) targets ≡ false
    → is_computed_by action (CoapOption number) ≡ true
    → value ≡ restored_by iids action (CoapOption number) operator targets value
    → length value % 8 ≡ 0
variable_whole iids NotSent operator number targets value size all m c is =
    ap (λ (bits : List Bool). length bits % 8) is ∙ first_whole targets all
variable_whole iids ValueSent operator number targets value size all m c is = size.0
variable_whole iids MappingSent operator number targets value size all m c is =
    ap (λ (bits : List Bool). length bits % 8) is ∙ got_whole targets (index_of targets value) all
variable_whole iids Lsb operator number targets value size all m c is =
    lsb_whole operator number targets value m size is
variable_whole iids Compute operator number targets value size all m c is = absurd (false≢true c)
variable_whole iids DevIid operator number targets value size all m c is = absurd (false≢true c)
variable_whole iids AppIid operator number targets value size all m c is = absurd (false≢true c)

option_whole : (iids : Iids) (kind : Length) (action : Action) (operator : Operator) (number : ℕ)
    (targets : List (List Bool)) (value : List Bool) → is_option_length kind ≡ true
    → LengthHolds (CoapOption number) kind value → SizeHolds kind action operator value
    → AreWhole targets → is_msb_wrong operator (CoapOption number) targets ≡ false
    → is_computed_by action (CoapOption number) ≡ true
    → value ≡ restored_by iids action (CoapOption number) operator targets value
    → length value % 8 ≡ 0
option_whole iids Variable action operator number targets value k l size all m c is =
    variable_whole iids action operator number targets value size all m c is
option_whole iids (Fixed bits) action operator number targets value k l size all m c is =
    ap (λ n. n % 8) l ∙ eqb-true (bits % 8) 0 (and_parts (bits % 8 == 0) (nat_le bits 2040) k).0
option_whole iids TokenLength action operator number targets value k l size all m c is =
    absurd (false≢true k)

whole_by : (iids : Iids) (name : FieldName) (kind : Length) (action : Action) (operator : Operator)
    (targets : List (List Bool)) (value : List Bool) → is_length_of name kind ≡ true
    → LengthHolds name kind value → SizeHolds kind action operator value
    → ((target : List Bool) → Contains targets target → has_length kind target ≡ true)
    → is_msb_wrong operator name targets ≡ false → is_computed_by action name ≡ true
    → value ≡ restored_by iids action name operator targets value → is_whole name value ≡ true
whole_by iids (CoapOption number) kind action operator targets value k l size all m c is =
    eq-eqb (length value % 8) 0
    (option_whole iids kind action operator number targets value k l size
    (λ target among. target_whole kind target k (all target among)) m c is)
whole_by iids _ kind action operator targets value k l size all m c is = refl

-- the value of each option that stands in the bits
pub whole-stands : (rule : RuleData) (iids : Iids) (direction : Direction)
    (fields : List FieldValue) (bits rest : List Bool) → IsAdmitted rule
    → Stands rule iids direction fields bits rest → (f : FieldValue) → Contains fields f
    → is_whole f.at.name f.value ≡ true
whole-stands rule iids direction fields bits rest admitted stands f among =
    let e = (same-restored rule iids direction fields stands.restored).each_field f among in
    let passes = passes-at rule direction admitted e.0 e.1 in
    let sendable = stands.sized.sendable f e.0 among e.1 e.2 in
    let own : value_of fields (field_of e.0) ≡ f.value = ap (value_of fields) e.2
    ∙ value_of-own fields f stands.sized.each_once among in
    let stays : value_of fields (field_of e.0) ≡ restored_value iids e.0
    (value_of fields (field_of e.0)) =
    ap (λ (all : List FieldValue). value_of all (field_of e.0)) stands.restored
    ∙ mapped-value rule direction (λ d. restored_value iids d (value_of fields (field_of d))) e.0
    (AreApart-from_IsAdmitted rule admitted) e.1
    in
    let is : f.value ≡ restored_value iids e.0 f.value = sym own ∙ stays
    ∙ ap (restored_value iids e.0) own in
    let fits : List Bool → Bool =
    λ target. has_length e.0.length target && has_value (stack_of rule) e.0.name target in
    let each : (target : List Bool) → Contains e.0.targets target
    → has_length e.0.length target ≡ true =
    λ target there.
    (and_parts (has_length e.0.length target) (has_value (stack_of rule) e.0.name target)
    (passes-each fits e.0.targets passes.lengths target there)).0
    in
    subst (λ n. is_whole n f.value ≡ true) (ap (λ (at : FieldAt). at.name) e.2)
    (whole_by iids e.0.name e.0.length e.0.action e.0.operator e.0.targets f.value passes.kind
    sendable.length_holds sendable.size_holds each passes.msb passes.computed is)
