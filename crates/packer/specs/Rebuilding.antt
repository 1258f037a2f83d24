-- Making a packet of restored fields: what is needed of them, and the part that comes after the
-- operators.
use Rattle.std.specs.Prelude.{ℕ, ◌≡◌, ◌<◌, ◌⊎◌, ◌&&◌, Bool, true, nat_le, Some, None, List, [], ◌∷◌}
use Rattle.std.specs.Prelude.{◌++◌, length, map, Contains, Result}
use Rattle.std.specs.List.{list_all}
use Rattle.std.specs.Option.{option_map}
use Rattle.schc_ids.specs.declared.faults.UnpackFault.{UnpackFault}
use Rattle.schc_ids.specs.declared.faults.UnpackFault.TheVariants.{BadPacket, Memory}
use Rattle.schc_ids.specs.declared.names.FieldName.TheVariants.{IpVersion, IpPayloadLength}
use Rattle.schc_ids.specs.declared.names.FieldName.TheVariants.{IpNextHeader, CoapOption}
use Rattle.schc_ids.specs.declared.ends.Direction.{Direction}
use Rattle.schc_ids.specs.declared.ends.Iids.{Iids}
use Rattle.schc_ids.specs.declared.names.FieldName.{FieldName}
use Rattle.schc_ids.specs.declared.names.Stack.{Stack}
use Rattle.schc_ids.specs.declared.names.Stack.TheVariants as stack
use Rattle.rule_model.specs.declared.value.FieldValue.{FieldValue}
use Rattle.rule_model.specs.declared.parts.JoinFault.{JoinFault}
use Rattle.rule_model.specs.declared.parts.JoinFault.TheVariants as join
use Rattle.rule_model.specs.Data.{EntryData, RuleData}
use Rattle.rule_model.specs.Cover.{covered, field_of, stack_of}
use Rattle.rule_model.specs.First.{first_held}
use Rattle.rule_model.specs.Residue.{value_of, WidthHolds}
use Rattle.editions.specs.declared.listed.Listed.{Listed}
use Rattle.editions.specs.Data.{EditionData, lookup}
use Rattle.ip_udp_fields.specs.Fields.{at_name}
use Rattle.ip_udp_fields.specs.Join.{value_refusals, other_number}
use Rattle.coap_fields.specs.Join.{message_refusals, message_from}
use Rattle.decompress.specs.Stands.{Stands}
use Rattle.packer.specs.Ordering.{message_fields}
use Rattle.packer.specs.Unpacking.{wrong_field, filled_headers, body_of, packet_around, packet_of}
use Rattle.packer.specs.Unpacking.{packet_or, reads}

-- the rule reads packets of the direction, and the fields stand in some bits. So for each entry
-- that is used the value of its field has the field's width
pub record AreRestored (rule : RuleData) (direction : Direction) (fields : List FieldValue) : Type 0
  where
    pub reading : reads rule direction ≡ true
    pub iids : Iids
    pub bits : List Bool
    pub rest : List Bool
    pub stands : Stands rule iids direction fields bits rest
    pub widths : (e : EntryData) → Contains (covered rule direction) e
        → WidthHolds e.name (value_of fields (field_of e))

-- what is wrong with the headers: the version, with UDP the next header, the number of bytes after
-- the IPv6 header, and the lengths
abbrev pub header_tests : Stack → List FieldValue → ℕ → List (Bool × UnpackFault)
header_tests of fields size =
    map (λ condition. (condition.0, wrong_field condition.1)) (value_refusals of fields size)

-- the headers in front of a CoAP message: the version is 6, and the next header is 17
abbrev pub front_tests : List FieldValue → List (Bool × JoinFault)
front_tests fields = other_number fields IpVersion 6 ∷ other_number fields IpNextHeader 17 ∷ []

-- with CoAP, the headers in front of the message are tried first, and then the message, but for the
-- sizes of its options: with one that is too long to be spelled, too many bytes follow the IPv6
-- header
abbrev pub message_tests : Stack → List FieldValue → List (Bool × UnpackFault)
message_tests stack.IpUdpCoap fields =
    map (λ condition. (condition.0, wrong_field condition.1))
    (front_tests fields ++ message_refusals (message_fields fields))
message_tests _ fields = []

-- what is tried where no operator fails. Of restored fields it is what is wrong with their values,
-- and some that never is
abbrev pub made_tests : RuleData → Direction → List FieldValue → List ℕ → List (Bool × UnpackFault)
made_tests rule direction fields body =
    message_tests (stack_of rule) fields ++ header_tests (stack_of rule)
    (filled_headers rule direction fields (length body)) (length body)

-- the packet of the restored fields and of what follows the headers that stand at fixed places,
-- where neither an operator nor the message fails: or the first fault of the headers
unfoldable pub packet_behind_headers : RuleData → Direction → List FieldValue → List ℕ
    → Result (List ℕ) UnpackFault
packet_behind_headers rule direction fields body =
    packet_or
    (first_held
    (header_tests (stack_of rule) (filled_headers rule direction fields (length body))
    (length body))) (packet_around rule direction fields body)

-- the packet, where no operator fails: or the first fault of the message or of the headers
unfoldable pub packet_of_values : RuleData → Direction → List FieldValue → List ℕ
    → Result (List ℕ) UnpackFault
packet_of_values rule direction fields payload =
    packet_or
    (first_held (made_tests rule direction fields (body_of (stack_of rule) fields payload)))
    (packet_of rule direction fields payload)

-- the fault of a packet whose message can't be joined for the size of an option: too many bytes
-- after its IPv6 header
abbrev pub size_fault : JoinFault → UnpackFault
size_fault join.Memory = Memory
size_fault _ = BadPacket (at_name IpPayloadLength)

-- the fault is that of a packet with too many bytes after its IPv6 header, and the message in it
-- has more than an option's value can have
abbrev pub IsTooLong : UnpackFault → ℕ → Type 0
IsTooLong fault size = (fault ≡ BadPacket (at_name IpPayloadLength)) × (65804 < size)

-- what is wrong with the fields of a message, in packet order: themselves, or else that an option
-- is too long
abbrev pub IsMessageFault : UnpackFault → List FieldValue → List ℕ → Type 0
IsMessageFault fault fields payload =
    (option_map wrong_field (first_held (message_refusals fields)) ≡ Some fault)
    ⊎ ((first_held (message_refusals fields) ≡ None)
    × IsTooLong fault (length (message_from fields payload)))

-- an option of a message can have the number, and the position: 16 bits hold them (RFC 7252,
-- section 12.2). So it is for the entries of each rule that can be written
abbrev pub is_option_at : FieldName → ℕ → Bool
is_option_at (CoapOption number) position = nat_le number 65535 && nat_le position 65535
is_option_at _ position = true

-- each of these entries, where it is of an option, is of one that a message can have
abbrev pub HasOptions : List EntryData → Type 0
HasOptions entries = list_all (λ e. is_option_at e.name e.position) entries ≡ true

-- and so it is for those that are used, of the rule that an edition lists under a RuleID
abbrev pub HasOptionsUnder : EditionData → Direction → ℕ → Type 0
HasOptionsUnder edition direction id = (listed : Listed) → lookup edition.rules id ≡ Some listed
    → HasOptions (covered listed.rule direction)

-- and for all entries of an edition
abbrev pub EditionHasOptions : EditionData → Type 0
EditionHasOptions edition = (listed : Listed) → Contains edition.rules listed
    → HasOptions listed.rule.entries
