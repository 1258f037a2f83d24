-- What is written for an edition, and which editions can be written.
use Rattle.std.specs.Prelude.{ℕ, ◌≡◌, ◌%◌, Bool, List, [], length, map, Option, Some, None, IsSome}
use Rattle.std.specs.Prelude.{unwrap_or, codes}
use Rattle.std.specs.List.{AllByRecursion}
use Rattle.serde_json.specs.Data.{Data, boolean, number, unsigned, string, array, object, Members}
use Rattle.serde_json.specs.Data.{member, no_members}
use Rattle.serde_json.specs.View.{items_of}
use Rattle.serde_json.specs.Written.{compact_text}
use Rattle.schc_ids.specs.Texts.{text_of}
use Rattle.rule_model.specs.Data.{EntryData}
use Rattle.rule_model.specs.RawData.{RawEditionData}
use Rattle.rule_model.specs.declared.raw.RawRule.{RawRule}
use Rattle.rule_model.specs.declared.rule.Length.{Length}
use Rattle.rule_model.specs.declared.rule.Length.TheVariants.{Fixed, Variable, TokenLength}
use Rattle.rule_model.specs.declared.rule.Operator.{Operator}
use Rattle.rule_model.specs.declared.rule.Operator.TheVariants.{Equal, Ignore, Msb, MatchMapping}
use Rattle.rule_json.specs.Words.{indicator_text, operator_text, action_text}
use Rattle.rule_json.specs.Digits.{target_text}

-- a list of what each item is written as
abbrev pub list_data : {A : Type 0} → (A → Data) → List A → Data
list_data write xs = array (items_of (map write xs))

-- `field-length`
abbrev pub length_data : Length → Data
length_data (Fixed bits) = number (unsigned bits)
length_data Variable = string (codes "fl-variable")
length_data TokenLength = string (codes "fl-token-length")

-- the number of bits that MSB compares
abbrev pub msb_bits : Operator → Option ℕ
msb_bits (Msb bits) = Some bits
msb_bits Equal = None
msb_bits Ignore = None
msb_bits MatchMapping = None

-- `matching-operator-value`, where the operator has a value, and the members after it
abbrev pub with_value : Option ℕ → Members → Members
with_value (Some bits) rest = member (codes "matching-operator-value") (number (unsigned bits)) rest
with_value None rest = rest

-- one target
abbrev pub target_data : List Bool → Data
target_data bits = string (target_text bits)

-- an entry, with all its members in the order of their keys; `value` is that of its operator, where
-- it has one
unfoldable pub entry_object : EntryData → Option ℕ → Data
entry_object entry value =
    object (member (codes "comp-decomp-action") (string (action_text entry.action))
    (member (codes "direction-indicator") (string (indicator_text entry.direction))
    (member (codes "field-id") (string (unwrap_or (text_of entry.name) []))
    (member (codes "field-length") (length_data entry.length)
    (member (codes "field-position") (number (unsigned entry.position))
    (member (codes "matching-operator") (string (operator_text entry.operator))
    (with_value value
    (member (codes "target-value") (list_data target_data entry.targets) no_members))))))))

unfoldable pub entry_data : EntryData → Data
entry_data entry = entry_object entry (msb_bits entry.operator)

-- a rule
unfoldable pub rule_data : RawRule → Data
rule_data raw =
    object (member (codes "entry") (list_data entry_data raw.rule.entries)
    (member (codes "live") (boolean raw.live)
    (member (codes "rule-id-value") (number (unsigned raw.rule.id)) no_members)))

-- an edition
unfoldable pub edition_data : RawEditionData → Data
edition_data edition =
    object (member (codes "number") (number (unsigned edition.number))
    (member (codes "rules") (list_data rule_data edition.rules) no_members))

-- the text of an edition, without spaces
unfoldable pub edition_text : RawEditionData → List ℕ
edition_text edition = compact_text (edition_data edition)

-- a target of a field of a fixed length has that many bits, each other target whole bytes
abbrev pub TargetCanBeSpelt : Length → List Bool → Type 0
TargetCanBeSpelt (Fixed width) bits = length bits ≡ width
TargetCanBeSpelt Variable bits = length bits % 8 ≡ 0
TargetCanBeSpelt TokenLength bits = length bits % 8 ≡ 0

-- the field has a text, and each target can be spelt
abbrev pub EntryCanBeSpelt : EntryData → Type 0
EntryCanBeSpelt entry = IsSome (text_of entry.name)
    × AllByRecursion (TargetCanBeSpelt entry.length) entry.targets

abbrev pub RuleCanBeSpelt : RawRule → Type 0
RuleCanBeSpelt raw = AllByRecursion EntryCanBeSpelt raw.rule.entries

-- the edition can be spelt
abbrev pub CanBeSpelt : RawEditionData → Type 0
CanBeSpelt edition = AllByRecursion RuleCanBeSpelt edition.rules
