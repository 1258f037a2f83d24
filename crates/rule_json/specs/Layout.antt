-- The layout of rule text: what a JSON value means as an entry, a rule or an edition. Members that
-- aren't named here aren't looked at.
use Rattle.std.specs.Prelude.{ℕ, ◌^◌, Bool, true, if◌then◌else◌, List, [], Option, Some, None}
use Rattle.std.specs.Prelude.{codes}
use Rattle.std.specs.Option.{option_map, option_and_then}
use Rattle.serde_json.specs.Data.{Data}
use Rattle.serde_json.specs.Find.{get, as_str, as_bool}
use Rattle.schc_ids.specs.Texts.{name_of_text}
use Rattle.rule_model.specs.Data.{EntryData}
use Rattle.rule_model.specs.RawData.{RawEditionData}
use Rattle.rule_model.specs.declared.raw.RawRule.{RawRule}
use Rattle.rule_model.specs.declared.rule.Length.{Length}
use Rattle.rule_model.specs.declared.rule.Length.TheVariants.{Fixed}
use Rattle.rule_model.specs.declared.rule.Operator.{Operator}
use Rattle.rule_model.specs.declared.rule.Operator.TheVariants.{Msb}
use Rattle.rule_json.specs.Values.{◌>>=◌, number_below, member_in, default_or, list_of}
use Rattle.rule_json.specs.Words.{indicator_of, length_word, plain_operator, is_msb, action_of}
use Rattle.rule_json.specs.Digits.{target_of}

-- what a text is read as
abbrev pub text_in : {A : Type 0} → (List ℕ → Option A) → Data → Option A
text_in read d = option_and_then read (as_str d)

-- `field-length`: a word, or a number of bits
unfoldable pub length_from : Option (List ℕ) → Option ℕ → Option Length
length_from (Some text) number = length_word text
length_from None number = option_map Fixed number

unfoldable pub length_in : Data → Option Length
length_in d = length_from (as_str d) (number_below (2 ^ 16) d)

-- `matching-operator` with `matching-operator-value`, which is there exactly for `mo-msb`
unfoldable pub operator_with : List ℕ → Option Data → Option Operator
operator_with text (Some value) =
    if is_msb text then option_map Msb (number_below (2 ^ 16) value) else None
operator_with text None = plain_operator text

unfoldable pub operator_in : Data → Option Operator
operator_in d = do
  text ← member_in (codes "matching-operator") as_str d
  operator_with text (get (codes "matching-operator-value") d)

-- `target-value`: a list of texts, which may be absent and is then empty
unfoldable pub targets_in : Length → Data → Option (List (List Bool))
targets_in length d =
    default_or [] (list_of (text_in (target_of length))) (get (codes "target-value") d)

-- RFC 8724, section 7.1: an entry
unfoldable pub entry_in : Data → Option EntryData
entry_in d = do
  name ← member_in (codes "field-id") (text_in name_of_text) d
  length ← member_in (codes "field-length") length_in d
  position ← member_in (codes "field-position") (number_below (2 ^ 16)) d
  direction ← member_in (codes "direction-indicator") (text_in indicator_of) d
  operator ← operator_in d
  action ← member_in (codes "comp-decomp-action") (text_in action_of) d
  targets ← targets_in length d
  Some (record {
    name = name;
    length = length;
    position = position;
    direction = direction;
    targets =
        targets;
    operator = operator;
    action = action;
  })

-- whether a rule is live: so it is where nothing is said
unfoldable pub live_in : Data → Option Bool
live_in d = default_or true as_bool (get (codes "live") d)

-- a rule, and whether it is live
unfoldable pub rule_in : Data → Option RawRule
rule_in d = do
  id ← member_in (codes "rule-id-value") (number_below (2 ^ 16)) d
  live ← live_in d
  entries ← member_in (codes "entry") (list_of entry_in) d
  Some (record { rule = record { id = id; entries = entries }; live = live })

-- an edition
unfoldable pub edition_in : Data → Option RawEditionData
edition_in d = do
  number ← member_in (codes "number") (number_below (2 ^ 32)) d
  rules ← member_in (codes "rules") (list_of rule_in) d
  Some (record { number = number; rules = rules })
