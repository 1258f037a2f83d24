-- The residue entry by entry.
use Rattle.std.specs.Prelude.{◌≡◌, Bool, true, if◌then◌else◌, List, [], ◌∷◌, ◌++◌, length, take}
use Rattle.schc_ids.specs.declared.ends.Direction.{Direction}
use Rattle.schc_ids.specs.Ends.{covers}
use Rattle.rule_model.specs.declared.value.FieldValue.{FieldValue}
use Rattle.rule_model.specs.Data.{EntryData}
use Rattle.rule_model.specs.Cover.{field_of}
use Rattle.rule_model.specs.Residue.{entry_residue, value_of, SizeHolds}

-- what is sent of an entry: nothing where it isn't used in the direction
abbrev pub turn_residue : Direction → List FieldValue → EntryData → List Bool
turn_residue direction fields e =
    if covers e.direction direction then entry_residue e (value_of fields (field_of e)) else []

-- what is sent of the entries
abbrev pub joined : Direction → List FieldValue → List EntryData → List Bool
joined direction fields [] = []
joined direction fields (e ∷ entries) =
    turn_residue direction fields e ++ joined direction fields entries

-- what is sent with its size has one
abbrev pub TurnHolds : Direction → List FieldValue → EntryData → Type 0
TurnHolds direction fields e =
    covers e.direction direction ≡ true
    → SizeHolds e.length e.action e.operator (value_of fields (field_of e))

abbrev pub TurnsHold : Direction → List FieldValue → List EntryData → Type 0
TurnsHold direction fields [] = Unit {0}
TurnsHold direction fields (e ∷ entries) = TurnHolds direction fields e
    × TurnsHold direction fields entries

-- the first bits are the old ones
abbrev pub KeepsFront : List Bool → List Bool → Type 0
KeepsFront old new = take (length old) new ≡ old
