-- Fields looked up by their name, and whether each field that a header always has is among them.
use Rattle.std.specs.Prelude.{ℕ, ◌==◌, Bool, not, ◌&&◌, if◌then◌else◌, List, [], ◌∷◌, ◌++◌, length}
use Rattle.std.specs.Prelude.{Option, Some, None, is_none, unwrap_or}
use Rattle.schc_ids.specs.declared.names.FieldName.{FieldName}
use Rattle.schc_ids.specs.declared.names.FieldAt.{FieldAt}
use Rattle.schc_ids.specs.Names.{same_name, width_of}
use Rattle.rule_model.specs.declared.value.FieldValue.{FieldValue}
use Rattle.rule_model.specs.declared.parts.JoinFault.{JoinFault}
use Rattle.rule_model.specs.declared.parts.JoinFault.TheVariants.{FieldAbsent, FieldWrong}

-- the field of the name. Only an option can stand again, so any other field has position 1
abbrev pub at_name : FieldName → FieldAt
at_name name = record { name = name; position = 1 }

-- whether this is the field of the name
abbrev pub is_at : FieldAt → FieldName → Bool
is_at at name = same_name at.name name && (at.position == 1)

-- the value of the first field of the name; none where it isn't among the fields
abbrev pub value_in : List FieldValue → FieldName → Option (List Bool)
value_in [] name = None
value_in (f ∷ fields) name = if is_at f.at name then Some f.value else value_in fields name

-- the same, and no bits where it isn't among the fields
abbrev pub value_of : List FieldValue → FieldName → List Bool
value_of fields name = unwrap_or (value_in fields name) []

-- the bits of a field with a fixed width
abbrev pub bits_of : FieldName → ℕ
bits_of name = unwrap_or (width_of name) 0

-- the field is among the fields, and has its width
abbrev pub presence_of : List FieldValue → FieldName → List (Bool × JoinFault)
presence_of fields name =
    (is_none (value_in fields name), FieldAbsent (at_name name))
    ∷ (not (length (value_of fields name) == bits_of name), FieldWrong (at_name name))
    ∷ []

-- each field of these names, in their order
abbrev pub presence : List FieldValue → List FieldName → List (Bool × JoinFault)
presence fields [] = []
presence fields (name ∷ names) = presence_of fields name ++ presence fields names
