-- Why fields make no packet, and the bits of their headers.
use Rattle.std.specs.Prelude.{ℕ, ◌+◌, ◌==◌, Bool, false, not, ◌&&◌, if◌then◌else◌, List, [], ◌∷◌}
use Rattle.std.specs.Prelude.{◌++◌, length, nat_lt, Option, Some, None, is_none, unwrap_or}
use Rattle.schc_bits.specs.Bits.{bits_value}
use Rattle.schc_ids.specs.declared.ends.Direction.{Direction}
use Rattle.schc_ids.specs.declared.names.Stack.{Stack}
use Rattle.schc_ids.specs.declared.names.Stack.TheVariants as stack
use Rattle.schc_ids.specs.declared.names.FieldName.{FieldName}
use Rattle.schc_ids.specs.declared.names.FieldName.TheVariants.{
  IpVersion,
  IpPayloadLength,
  IpNextHeader,
  UdpLength,
}
use Rattle.schc_ids.specs.declared.names.FieldAt.{FieldAt}
use Rattle.schc_ids.specs.Names.{fields_of_stack}
use Rattle.rule_model.specs.declared.value.FieldValue.{FieldValue}
use Rattle.rule_model.specs.declared.parts.JoinFault.{JoinFault}
use Rattle.rule_model.specs.declared.parts.JoinFault.TheVariants.{FieldWrong}
use Rattle.rule_model.specs.First.{first_held}
pub use Rattle.rule_model.specs.Presence.{at_name, is_at, value_in, value_of, bits_of, presence_of}
pub use Rattle.rule_model.specs.Presence.{presence}
use Rattle.ip_udp_fields.specs.Layout.{mirrored, fields_in_packet_order}

-- the names that stand after the one of the field; none where that isn't among them
abbrev pub names_after : FieldAt → List FieldName → Option (List FieldName)
names_after at [] = None
names_after at (name ∷ names) = if is_at at name then Some names else names_after at names

-- each field of the list, in the list's order: it is one of the names, and stands after the field
-- before it
abbrev pub order : List FieldName → List FieldValue → List (Bool × JoinFault)
order names [] = []
order names (field ∷ fields) =
    (is_none (names_after field.at names), FieldWrong field.at) ∷ order
    (unwrap_or (names_after field.at names) []) fields

-- the value is there, and writes this number in this many bits
abbrev pub is_number : ℕ → ℕ → Option (List Bool) → Bool
is_number width number None = false
is_number width number (Some value) = (length value == width) && (bits_value value == number)

abbrev pub has_number : List FieldValue → FieldName → ℕ → Bool
has_number fields name number = is_number (bits_of name) number (value_in fields name)

-- the field of the name has another number
abbrev pub other_number : List FieldValue → FieldName → ℕ → Bool × JoinFault
other_number fields name number = (not (has_number fields name number), FieldWrong (at_name name))

-- the number of bytes after the IPv6 header fits 16 bits, and is the payload length (RFC 8200,
-- section 3)
abbrev pub too_many : ℕ → Bool × JoinFault
too_many bytes = (nat_lt 65535 bytes, FieldWrong (at_name IpPayloadLength))

-- what the values have to be, with this many bytes of payload
abbrev pub value_refusals : Stack → List FieldValue → ℕ → List (Bool × JoinFault)
value_refusals stack.Ip fields size =
    other_number fields IpVersion 6 ∷ too_many size ∷ other_number fields IpPayloadLength size ∷ []
value_refusals _ fields size =
    other_number fields IpVersion 6
    ∷ other_number fields IpNextHeader 17
    ∷ too_many (8 + size)
    ∷ other_number fields IpPayloadLength (8 + size)
    ∷ other_number fields UdpLength (8 + size)
    ∷ []

-- in their order, the conditions under which the fields and a payload of this many bytes make no
-- packet of the stack
abbrev pub join_refusals : Stack → Direction → List FieldValue → ℕ → List (Bool × JoinFault)
join_refusals stack direction fields size =
    presence fields (fields_in_packet_order stack direction)
    ++ (order (fields_in_packet_order stack direction) fields ++ value_refusals stack fields size)

-- the first condition that holds; none where they make one
unfoldable pub join_refusal : Stack → Direction → List FieldValue → ℕ → Option JoinFault
join_refusal stack direction fields size = first_held (join_refusals stack direction fields size)

-- the values of the fields, in the order in which they stand in the packet
abbrev pub values_in : Direction → List FieldValue → List FieldName → List Bool
values_in direction fields [] = []
values_in direction fields (name ∷ names) =
    value_of fields (mirrored direction name) ++ values_in direction fields names

-- the bits of the headers
unfoldable pub header_bits : Stack → Direction → List FieldValue → List Bool
header_bits stack direction fields = values_in direction fields (fields_of_stack stack)
