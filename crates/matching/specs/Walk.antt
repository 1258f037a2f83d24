-- The test of a rule as it is walked: the entries are counted, and each is looked at once.
use Rattle.std.specs.Prelude.{ℕ, ◌==◌, Bool, false, ◌&&◌, ◌||◌, nat_le, if◌then◌else◌, List, []}
use Rattle.std.specs.Prelude.{◌∷◌, length, Option, Some, None, slice_get}
use Rattle.std.specs.List.{list_any, list_all, enumerate_from}
use Rattle.std.specs.Option.{option_map_or}
use Rattle.schc_ids.specs.declared.ends.Direction.{Direction}
use Rattle.schc_ids.specs.declared.ends.Iids.{Iids}
use Rattle.schc_ids.specs.declared.names.FieldAt.{FieldAt}
use Rattle.rule_model.specs.declared.value.FieldValue.{FieldValue}
use Rattle.rule_model.specs.declared.value.Computed.{Computed}
use Rattle.rule_model.specs.Data.{EntryData, RuleData}
use Rattle.rule_model.specs.Cover.{covered, field_of}
use Rattle.rule_model.specs.Residue.{same_field}
use Rattle.rule_model.specs.Tests.{agrees}

-- the value of the first field of this name and position; none where it isn't among the fields
abbrev pub found_value : List FieldValue → FieldAt → Option (List Bool)
found_value [] at = None
found_value (f ∷ fields) at = if same_field at f.at then Some f.value else found_value fields at

-- the value of the field at this place, where that is of the name and position; or else of the
-- first field that is
abbrev pub value_or : Option FieldValue → List FieldValue → FieldAt → Option (List Bool)
value_or None fields at = found_value fields at
value_or (Some f) fields at = if same_field at f.at then Some f.value else found_value fields at

abbrev pub value_near : List FieldValue → ℕ → FieldAt → Option (List Bool)
value_near fields near at = value_or (slice_get fields near) fields at

-- the entry has a value, and agrees with it. It is looked for first at this place
abbrev pub entry_holds : Iids → Computed → List FieldValue → ℕ → EntryData → Bool
entry_holds iids computed fields near e =
    option_map_or (agrees iids computed e) (value_near fields near (field_of e)) false

-- the field has an entry that agrees with its value
abbrev pub field_holds : Iids → Computed → List EntryData → FieldValue → Bool
field_holds iids computed entries f =
    list_any (λ e. same_field (field_of e) f.at && agrees iids computed e f.value) entries

-- no fewer fields than entries that are used in the direction, and each of these holds. Where there
-- are as many fields, each is then the field of one entry; where there are more, each has to hold
abbrev pub walk_holds : RuleData → Iids → Direction → List FieldValue → Computed → Bool
walk_holds rule iids direction fields computed =
    nat_le (length (covered rule direction)) (length fields)
    && list_all (λ p. entry_holds iids computed fields p.0 p.1)
    (enumerate_from 0 (covered rule direction))
    && ((length fields == length (covered rule direction)) || list_all
    (field_holds iids computed (covered rule direction)) fields)
