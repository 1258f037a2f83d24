-- When fields stand at a place in the bits, and the laws of writing and reading.
use Rattle.std.specs.Prelude.{◌≡◌, ◌↔◌, Bool, List, ◌++◌, Ok}
use Rattle.schc_ids.specs.declared.ends.Direction.{Direction}
use Rattle.schc_ids.specs.declared.ends.Iids.{Iids}
use Rattle.rule_model.specs.declared.value.Computed.{Computed}
use Rattle.rule_model.specs.declared.value.FieldValue.{FieldValue}
use Rattle.rule_model.specs.Data.{RuleData}
use Rattle.rule_model.specs.Findings.{IsAdmitted}
use Rattle.rule_model.specs.Matches.{Matches}
use Rattle.rule_model.specs.Residue.{residue_of, restored_fields, IsSized}
use Rattle.decompress.specs.Reading.{restore_at}

-- the residue of sized fields stands in front of the bits, and `rest` after it. The fields are
-- those that the rule restores, one for each entry that is used in the direction, in the rule's
-- order: what isn't sent of them is as the other end makes it
pub record Stands (rule : RuleData) (iids : Iids) (direction : Direction) (fields : List FieldValue)
    (bits rest : List Bool) : Type 0 where
  pub sized : IsSized rule direction fields
  pub restored : fields ≡ restored_fields rule iids direction fields
  pub bits_are : bits ≡ residue_of rule direction fields ++ rest

-- no fields stand in front of the bits
abbrev pub NoneStands : RuleData → Iids → Direction → List Bool → Type 0
NoneStands rule iids direction bits = (fields : List FieldValue) (rest : List Bool)
    → ¬ Stands rule iids direction fields bits rest

-- what is written of the fields of a packet that an admitted rule matches is read back, whatever
-- follows: each field as the other end restores it
abbrev pub ReadsBack : Type 0
ReadsBack =
    (rule : RuleData) (iids : Iids) (direction : Direction) (fields : List FieldValue)
    (computed : Computed) (rest : List Bool) →
    IsAdmitted rule → Matches rule iids direction fields computed → IsSized rule direction fields →
    restore_at rule iids direction (residue_of rule direction fields ++ rest) ≡ Ok
    (restored_fields rule iids direction fields, rest)

-- what is read is what stands there, and all that stands there is read. So at most one list of
-- fields stands at a place
abbrev pub ReadsExactly : Type 0
ReadsExactly =
    (rule : RuleData) (iids : Iids) (direction : Direction) (fields : List FieldValue)
    (bits rest : List Bool) →
    IsAdmitted rule →
    (restore_at rule iids direction bits ≡ Ok (fields, rest)) ↔ Stands rule iids direction fields
    bits rest
