-- A rule as contracts see it: its entries with their targets as plain lists.
use Rattle.std.specs.Prelude.{ℕ, ◌≡◌, List, Bool}
use Rattle.schc_ids.specs.declared.ends.DirInd.{DirInd}
use Rattle.schc_ids.specs.declared.names.FieldName.{FieldName}
use Rattle.rule_model.specs.declared.rule.Length.{Length}
use Rattle.rule_model.specs.declared.rule.Operator.{Operator}
use Rattle.rule_model.specs.declared.rule.Action.{Action}

-- an entry: RFC 8724, section 7.1
pub record EntryData : Type 0 where
  pub name : FieldName
  pub length : Length
  pub position : ℕ
  pub direction : DirInd
  pub targets : List (List Bool)
  pub operator : Operator
  pub action : Action

-- a rule: its RuleID, and its entries in the order of the residue
pub record RuleData : Type 0 where
  pub id : ℕ
  pub entries : List EntryData

-- the two entries are of the same field, with the same length and in the same directions
abbrev pub SameField : EntryData → EntryData → Type 0
SameField a b = (a.name ≡ b.name) × (a.length ≡ b.length) × (a.position ≡ b.position)
    × (a.direction ≡ b.direction)

-- the two entries have the same operator and action
abbrev pub SameUse : EntryData → EntryData → Type 0
SameUse a b = (a.operator ≡ b.operator) × (a.action ≡ b.action)
