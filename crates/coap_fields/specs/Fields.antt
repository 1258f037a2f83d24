-- The fields of a CoAP message: RFC 8824, sections 4 and 5, over the format of RFC 7252, section 3.
use Rattle.std.specs.Prelude.{ℕ, ◌≡◌, ◌-◌, Bool, List, [], ◌∷◌, ◌++◌, length}
use Rattle.schc_bits.specs.Bits.{number_bits, octets}
use Rattle.schc_ids.specs.declared.names.FieldName.{FieldName}
use Rattle.schc_ids.specs.declared.names.FieldName.TheVariants.{CoapVersion, CoapType, CoapTkl}
use Rattle.schc_ids.specs.declared.names.FieldName.TheVariants.{CoapCode, CoapMid, CoapToken}
use Rattle.schc_ids.specs.declared.names.FieldName.TheVariants.{CoapOption}
pub use Rattle.rule_model.specs.Presence.{at_name}
use Rattle.rule_model.specs.declared.value.FieldValue.{FieldValue}
use Rattle.coap_fields.specs.Message.{OptionData, Message, next_place, IsMessage, spelled}

abbrev pub field : FieldName → List Bool → FieldValue
field name value = record { at = at_name name; value = value }

-- the token is a field exactly where it isn't empty
abbrev pub token_fields : List ℕ → List FieldValue
token_fields [] = []
token_fields (byte ∷ token) = field CoapToken (octets (byte ∷ token)) ∷ []

-- an option as a field: its position counts the options of its number from 1
abbrev pub option_field : ℕ → ℕ → List ℕ → FieldValue
option_field number position value =
    record { at = record { name = CoapOption number; position = position }; value = octets value }

-- options after one of this number and place, as fields
unfoldable pub option_fields : ℕ → ℕ → List OptionData → List FieldValue
option_fields before place [] = []
option_fields before place (o ∷ options) =
    option_field o.number (next_place before place o.number) o.value
    ∷ option_fields o.number (next_place before place o.number) options

-- the fields of the header
abbrev pub header_fields : ℕ → ℕ → ℕ → ℕ → List FieldValue
header_fields kind tkl code id =
    field CoapVersion (number_bits 2 1)
    ∷ field CoapType (number_bits 2 kind)
    ∷ field CoapTkl (number_bits 4 tkl)
    ∷ field CoapCode (number_bits 8 code)
    ∷ field CoapMid (number_bits 16 id)
    ∷ []

-- the fields of a message, in packet order
unfoldable pub fields_of_message : Message → List FieldValue
fields_of_message m =
    header_fields m.kind (length m.token) m.code
    m.id ++ (token_fields m.token ++ option_fields 0 0 m.options)

-- the bytes spell a message, these are its fields, and its payload begins at this byte, which is
-- the end where there is none
pub record MessageOf (bytes : List ℕ) (fields : List FieldValue) (payload_from : ℕ) : Type 0 where
  pub message : Message
  pub is_message : IsMessage message
  pub its_spelling : bytes ≡ spelled message
  pub its_fields : fields ≡ fields_of_message message
  pub its_payload : payload_from ≡ length bytes - length message.payload
