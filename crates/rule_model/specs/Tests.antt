-- Whether a rule matches the fields of a packet, as a test that computes: RFC 8724, sections 7.2
-- and 7.3. It holds exactly where the rule matches.
use Rattle.std.specs.Prelude.{ℕ, ◌==◌, Bool, true, false, ◌&&◌, ◌||◌, not, nat_le, List, length}
use Rattle.std.specs.Prelude.{take, slice_get}
use Rattle.std.specs.List.{list_any, list_all}
use Rattle.std.specs.Option.{option_map_or}
use Rattle.schc_bits.specs.Bits.{number_bits}
use Rattle.schc_ids.specs.declared.ends.Direction.{Direction}
use Rattle.schc_ids.specs.declared.ends.Iids.{Iids}
use Rattle.schc_ids.specs.declared.names.FieldAt.{FieldAt}
use Rattle.schc_ids.specs.declared.names.FieldName.{FieldName}
use Rattle.schc_ids.specs.declared.names.FieldName.TheVariants.{CoapOption}
use Rattle.rule_model.specs.declared.rule.Length.{Length}
use Rattle.rule_model.specs.declared.rule.Length.TheVariants.{Fixed}
use Rattle.rule_model.specs.declared.rule.Operator.{Operator}
use Rattle.rule_model.specs.declared.rule.Operator.TheVariants.{Equal, Ignore, Msb, MatchMapping}
use Rattle.rule_model.specs.declared.rule.Action.{Action}
use Rattle.rule_model.specs.declared.rule.Action.TheVariants.{Compute, DevIid, AppIid}
use Rattle.rule_model.specs.declared.value.FieldValue.{FieldValue}
use Rattle.rule_model.specs.declared.value.Computed.{Computed}
use Rattle.rule_model.specs.Data.{EntryData, RuleData}
use Rattle.rule_model.specs.Cover.{covered, field_of}
use Rattle.rule_model.specs.Findings.{same_bits}
use Rattle.rule_model.specs.Matches.{computed_value}
use Rattle.rule_model.specs.Residue.{same_field}

-- the value has at least so many bits, and its first ones are those of the target
abbrev pub begins_as : ℕ → List Bool → List Bool → Bool
begins_as count value target =
    nat_le count (length value) && same_bits (take count target) (take count value)

-- the operator holds of the value
abbrev pub operator_holds : Operator → List (List Bool) → List Bool → Bool
operator_holds Equal targets value =
    option_map_or (λ target. same_bits target value) (slice_get targets 0) false
operator_holds Ignore targets value = true
operator_holds (Msb bits) targets value =
    option_map_or (begins_as bits value) (slice_get targets 0) false
operator_holds MatchMapping targets value = list_any (λ target. same_bits target value) targets

-- an option's value has the length that its entry fixes
abbrev pub length_holds : FieldName → Length → List Bool → Bool
length_holds (CoapOption number) (Fixed bits) value = length value == bits
length_holds _ _ value = true

-- where the other end makes the value of itself, the packet already has what it will make
abbrev pub restored_holds : Iids → Computed → FieldName → Action → List Bool → Bool
restored_holds iids computed name Compute value =
    option_map_or (λ n. same_bits (number_bits 16 n) value) (computed_value computed name) true
restored_holds iids computed name DevIid value = same_bits (number_bits 64 iids.dev) value
restored_holds iids computed name AppIid value = same_bits (number_bits 64 iids.app) value
restored_holds iids computed name _ value = true

-- an entry and the value of its field agree
abbrev pub agrees : Iids → Computed → EntryData → List Bool → Bool
agrees iids computed e value =
    length_holds e.name e.length value && operator_holds e.operator e.targets
    value && restored_holds iids computed e.name e.action value

-- some entry is of the field
abbrev pub has_entry : List EntryData → FieldAt → Bool
has_entry entries at = list_any (λ e. same_field (field_of e) at) entries

-- some field is the entry's
abbrev pub has_value : List FieldValue → EntryData → Bool
has_value fields e = list_any (λ f. same_field (field_of e) f.at) fields

-- each entry of the field agrees with its value
abbrev pub entries_agree : Iids → Computed → List EntryData → FieldValue → Bool
entries_agree iids computed entries f =
    list_all (λ e. not (same_field (field_of e) f.at) || agrees iids computed e f.value) entries

-- the rule matches the fields: they and the entries that are used in the direction are of the same
-- set, and agree
abbrev pub does_match : RuleData → Iids → Direction → List FieldValue → Computed → Bool
does_match rule iids direction fields computed =
    list_all (λ f. has_entry (covered rule direction) f.at) fields
    && list_all (has_value fields) (covered rule direction)
    && list_all (entries_agree iids computed (covered rule direction)) fields
