-- Whether two rules are one, as a test that computes.
use Rattle.std.specs.Prelude.{◌==◌, Bool, true, false, ◌&&◌}
use Rattle.std.specs.Cmp.Lexicographic.{pointwise}
use Rattle.schc_ids.specs.declared.ends.DirInd.{DirInd}
use Rattle.schc_ids.specs.declared.ends.DirInd.TheVariants.{Up, Down, Both}
use Rattle.schc_ids.specs.Names.{same_name}
use Rattle.rule_model.specs.declared.rule.Length.{Length}
use Rattle.rule_model.specs.declared.rule.Length.TheVariants.{Fixed, Variable, TokenLength}
use Rattle.rule_model.specs.declared.rule.Operator.{Operator}
use Rattle.rule_model.specs.declared.rule.Operator.TheVariants.{Equal, Ignore, Msb, MatchMapping}
use Rattle.rule_model.specs.declared.rule.Action.{Action}
use Rattle.rule_model.specs.declared.rule.Action.TheVariants.{NotSent, ValueSent, MappingSent, Lsb}
use Rattle.rule_model.specs.declared.rule.Action.TheVariants.{Compute, DevIid, AppIid}
use Rattle.rule_model.specs.Data.{EntryData, RuleData}
use Rattle.rule_model.specs.Findings.{same_bits}

-- whether two lengths are one
abbrev pub same_length : Length → Length → Bool
same_length (Fixed a) (Fixed b) = a == b
same_length Variable Variable = true
same_length TokenLength TokenLength = true
same_length _ _ = false

-- whether two direction indicators are one
abbrev pub same_indicator : DirInd → DirInd → Bool
same_indicator Up Up = true
same_indicator Down Down = true
same_indicator Both Both = true
same_indicator _ _ = false

-- whether two operators are one
abbrev pub same_operator : Operator → Operator → Bool
same_operator Equal Equal = true
same_operator Ignore Ignore = true
same_operator (Msb a) (Msb b) = a == b
same_operator MatchMapping MatchMapping = true
same_operator _ _ = false

-- whether two actions are one
abbrev pub same_action : Action → Action → Bool
same_action NotSent NotSent = true
same_action ValueSent ValueSent = true
same_action MappingSent MappingSent = true
same_action Lsb Lsb = true
same_action Compute Compute = true
same_action DevIid DevIid = true
same_action AppIid AppIid = true
same_action _ _ = false

-- whether two entries have the same members
unfoldable pub same_entry : EntryData → EntryData → Bool
same_entry a b =
    same_name a.name b.name && same_length a.length b.length && (a.position == b.position)
    && same_indicator a.direction b.direction && pointwise same_bits a.targets b.targets
    && same_operator a.operator b.operator && same_action a.action b.action

-- whether two rules have the same RuleID and the same entries in the same order
unfoldable pub same_rule : RuleData → RuleData → Bool
same_rule a b = (a.id == b.id) && pointwise same_entry a.entries b.entries
