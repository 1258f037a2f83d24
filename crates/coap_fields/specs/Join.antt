-- Why fields make no CoAP message, and the message that they make.
use Rattle.std.specs.Prelude.{ℕ, ◌*◌, ◌%◌, ◌==◌, Bool, true, false, not, ◌&&◌, ◌||◌, List, [], ◌∷◌}
use Rattle.std.specs.Prelude.{◌++◌, length, nat_lt, nat_le, Option, is_none, is_some}
use Rattle.schc_bits.specs.Bits.{bits_value, bytes_of}
use Rattle.schc_ids.specs.declared.names.FieldName.{FieldName}
use Rattle.schc_ids.specs.declared.names.FieldName.TheVariants.{CoapVersion, CoapType, CoapTkl}
use Rattle.schc_ids.specs.declared.names.FieldName.TheVariants.{CoapCode, CoapMid, CoapToken}
use Rattle.schc_ids.specs.declared.names.FieldName.TheVariants.{CoapOption}
use Rattle.schc_ids.specs.declared.names.FieldAt.{FieldAt}
use Rattle.schc_ids.specs.Names.{rank_of, coap_fields}
use Rattle.rule_model.specs.declared.value.FieldValue.{FieldValue}
use Rattle.rule_model.specs.declared.parts.JoinFault.{JoinFault}
use Rattle.rule_model.specs.declared.parts.JoinFault.TheVariants.{FieldAbsent, FieldWrong}
use Rattle.rule_model.specs.First.{first_held}
use Rattle.coap_fields.specs.Message.{OptionData, Message, next_place, spelled}
pub use Rattle.rule_model.specs.Presence.{at_name, is_at, value_in, value_of, bits_of, presence_of}
pub use Rattle.rule_model.specs.Presence.{presence}

-- a message can have the field: an option at a position from 1 to 65,535, another field of CoAP at
-- position 1
abbrev pub is_possible : FieldName → ℕ → Bool
is_possible CoapVersion position = position == 1
is_possible CoapType position = position == 1
is_possible CoapTkl position = position == 1
is_possible CoapCode position = position == 1
is_possible CoapMid position = position == 1
is_possible CoapToken position = position == 1
is_possible (CoapOption number) position =
    nat_le number 65535 && nat_le 1 position && nat_le position 65535
is_possible _ position = false

-- the field stands, in packet order, after one of this rank and position
abbrev pub stands_after : ℕ → ℕ → FieldAt → Bool
stands_after rank position at =
    nat_lt rank (rank_of at.name) || ((rank == rank_of at.name) && nat_lt position at.position)

-- an option's value is whole bytes, at most 269 + 65,535 of them
abbrev pub is_size_right : FieldName → List Bool → Bool
is_size_right (CoapOption number) value =
    (length value % 8 == 0) && nat_le (length value) (8 * 65804)
is_size_right _ value = true

-- the field can stand after one of this rank and position
abbrev pub can_follow : ℕ → ℕ → FieldValue → Bool
can_follow rank position f =
    is_possible f.at.name f.at.position && stands_after rank position f.at && is_size_right
    f.at.name f.value

-- each field of the list, in the list's order: a message can have it, it stands after the field
-- before it, and has a right size where it is an option
abbrev pub order : ℕ → ℕ → List FieldValue → List (Bool × JoinFault)
order rank position [] = []
order rank position (f ∷ fields) =
    (not (can_follow rank position f), FieldWrong f.at) ∷ order (rank_of f.at.name) f.at.position
    fields

-- the length of the token that the fields say
abbrev pub tkl_of : List FieldValue → ℕ
tkl_of fields = bits_value (value_of fields CoapTkl)

-- the token is there exactly where its length is above 0, and has 8 times as many bits
abbrev pub token_refusals : List FieldValue → List (Bool × JoinFault)
token_refusals fields = (
  nat_lt 0 (tkl_of fields) && is_none (value_in fields CoapToken),
  FieldAbsent
      (at_name CoapToken),
)
    ∷ ((tkl_of fields == 0) && is_some (value_in fields CoapToken), FieldWrong (at_name CoapToken))
    ∷ (
      not (length (value_of fields CoapToken) == 8 * tkl_of fields),
      FieldWrong
          (at_name CoapToken),
    )
    ∷ []

-- what the values have to be: the version is 1, and the token at most 8 bytes long
abbrev pub value_refusals : List FieldValue → List (Bool × JoinFault)
value_refusals fields =
    (not (bits_value (value_of fields CoapVersion) == 1), FieldWrong (at_name CoapVersion))
    ∷ (nat_lt 8 (tkl_of fields), FieldWrong (at_name CoapTkl))
    ∷ token_refusals fields

-- the field, where it is an option, leaves no gap after one of this number and position: else the
-- next position lacks
abbrev pub gap : ℕ → ℕ → FieldName → ℕ → List (Bool × JoinFault)
gap before position (CoapOption number) its = (
  nat_lt (next_place before position number) its,
  FieldAbsent (record { name = CoapOption number; position = next_place before position number }),
)
    ∷ []
gap before position _ its = []

-- the number of the last option
abbrev pub number_after : ℕ → FieldName → ℕ
number_after before (CoapOption number) = number
number_after before _ = before

-- the position of the last option
abbrev pub position_after : ℕ → FieldName → ℕ → ℕ
position_after position (CoapOption number) its = its
position_after position _ its = position

-- the positions of each option, in ascending number, are 1 to the number of its repeats
abbrev pub gaps : ℕ → ℕ → List FieldValue → List (Bool × JoinFault)
gaps before position [] = []
gaps before position (f ∷ fields) =
    gap before position f.at.name f.at.position
    ++ gaps (number_after before f.at.name) (position_after position f.at.name f.at.position) fields

-- an option's value is whole bytes
abbrev pub is_whole : FieldName → List Bool → Bool
is_whole (CoapOption number) value = length value % 8 == 0
is_whole _ value = true

-- the field can stand after one of this rank and position, whatever its size
abbrev pub can_stand : ℕ → ℕ → FieldValue → Bool
can_stand rank position f =
    is_possible f.at.name f.at.position && stands_after rank position f.at && is_whole f.at.name
    f.value

-- each field of the list, in the list's order, can stand after the field before it
abbrev pub standing : ℕ → ℕ → List FieldValue → List (Bool × JoinFault)
standing rank position [] = []
standing rank position (f ∷ fields) =
    (not (can_stand rank position f), FieldWrong f.at) ∷ standing (rank_of f.at.name) f.at.position
    fields

-- in their order, the conditions under which the fields make no message, but for the size of an
-- option
abbrev pub message_refusals : List FieldValue → List (Bool × JoinFault)
message_refusals fields =
    presence fields
    coap_fields ++ (standing 0 0 fields ++ (value_refusals fields ++ gaps 0 0 fields))

-- in their order, the conditions under which the fields make no message
abbrev pub join_refusals : List FieldValue → List (Bool × JoinFault)
join_refusals fields =
    presence fields coap_fields ++ (order 0 0 fields ++ (value_refusals fields ++ gaps 0 0 fields))

-- the first condition that holds; none where they make one
unfoldable pub join_refusal : List FieldValue → Option JoinFault
join_refusal fields = first_held (join_refusals fields)

-- a field as an option, in front of others
abbrev pub option_from : FieldName → List Bool → List OptionData → List OptionData
option_from (CoapOption number) value options =
    record { number = number; value = bytes_of value } ∷ options
option_from _ value options = options

-- the options among the fields
abbrev pub options_from : List FieldValue → List OptionData
options_from [] = []
options_from (f ∷ fields) = option_from f.at.name f.value (options_from fields)

-- the message of the fields and a payload
abbrev pub message_of : List FieldValue → List ℕ → Message
message_of fields payload =
    record {
      kind = bits_value (value_of fields CoapType);
      code = bits_value (value_of fields CoapCode);
      id = bits_value (value_of fields CoapMid);
      token = bytes_of (value_of fields CoapToken);
      options = options_from fields;
      payload = payload;
    }

-- the bytes that the fields and a payload spell
unfoldable pub message_from : List FieldValue → List ℕ → List ℕ
message_from fields payload = spelled (message_of fields payload)
