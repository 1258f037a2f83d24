-- What is read or written so far, and what is left.
use Rattle.std.specs.Prelude.{ℕ, ◌-◌, ◌≤◌, Bool, List, [], ◌++◌, length, Result, Ok, Err}
use Rattle.schc_bits.specs.Bits.{bytes_of}
use Rattle.schc_ids.specs.declared.names.FieldName.{FieldName}
use Rattle.schc_ids.specs.declared.names.FieldName.TheVariants.{CoapOption}
use Rattle.rule_model.specs.declared.value.FieldValue.{FieldValue}
use Rattle.rule_model.specs.SplitData.{SplitData}
use Rattle.coap_fields.specs.Message.{OptionData, option_spelled}
use Rattle.coap_fields.specs.Fields.{option_fields}

-- the fields so far, with those of the options that are read after them from a message of `size`
-- bytes
abbrev pub placed : List FieldValue → ℕ → ℕ → ℕ → Result (List OptionData × List ℕ) ℕ
    → Result SplitData ℕ
placed front before place size (Err stop) = Err stop
placed front before place size (Ok read) =
    Ok (record {
      fields = front ++ option_fields before place read.0;
      payload_from =
          size - length read.1;
    })

-- an option's value has a length that can be written
abbrev pub HasLength : FieldName → List Bool → Type 0
HasLength (CoapOption number) value = length (bytes_of value) ≤ 65804
HasLength _ value = Unit {0}

abbrev pub IsWritable : FieldValue → Type 0
IsWritable f = HasLength f.at.name f.value

-- the bytes of a field after an option of this number: none where it isn't an option
abbrev pub field_spelled : ℕ → FieldName → List Bool → List ℕ
field_spelled before (CoapOption number) value =
    option_spelled before (record { number = number; value = bytes_of value })
field_spelled before _ value = []
