-- How bits are read, as a function that computes: the RuleID, the residue, the payload, and what
-- keeps the restored fields from being a packet.
use Rattle.std.specs.Prelude.{ℕ, ◌+◌, ◌/◌, ◌%◌, ◌==◌, Bool, not, ◌&&◌, ◌||◌, nat_lt, if◌then◌else◌}
use Rattle.std.specs.Prelude.{List, [], ◌∷◌, ◌++◌, length, take, drop, map, Option, Some, None}
use Rattle.std.specs.Prelude.{Result, Ok, Err}
use Rattle.schc_bits.specs.Bits.{number_bits, bits_value, padded, bytes_of}
use Rattle.schc_ids.specs.declared.ends.Direction.{Direction}
use Rattle.schc_ids.specs.declared.ends.Iids.{Iids}
use Rattle.schc_ids.specs.declared.faults.ResidueFault.TheVariants.{Short}
use Rattle.schc_ids.specs.declared.faults.UnpackFault.{UnpackFault}
use Rattle.schc_ids.specs.declared.faults.UnpackFault.TheVariants.{UnknownRule, BadResidue}
use Rattle.schc_ids.specs.declared.faults.UnpackFault.TheVariants.{BadPacket, Memory}
use Rattle.schc_ids.specs.declared.names.FieldName.TheVariants.{IpVersion, IpPayloadLength}
use Rattle.schc_ids.specs.declared.names.FieldName.TheVariants.{IpNextHeader, UdpLength}
use Rattle.schc_ids.specs.declared.names.Stack.{Stack}
use Rattle.schc_ids.specs.declared.names.Stack.TheVariants as stack
use Rattle.schc_ids.specs.Names.{same_name}
use Rattle.rule_model.specs.declared.value.FieldValue.{FieldValue}
use Rattle.rule_model.specs.Data.{EntryData, RuleData}
use Rattle.rule_model.specs.Cover.{covered, field_of, stack_of, serves, is_compute}
use Rattle.rule_model.specs.Cover.{computes_checksum}
use Rattle.rule_model.specs.declared.parts.JoinFault.{JoinFault}
use Rattle.rule_model.specs.declared.parts.JoinFault.TheVariants as join
use Rattle.rule_model.specs.First.{first_held}
use Rattle.rule_model.specs.Residue.{value_of}
use Rattle.rule_model.specs.Tests.{operator_holds}
use Rattle.editions.specs.declared.listed.Listed.{Listed}
use Rattle.editions.specs.Data.{EditionData, lookup}
use Rattle.ip_udp_fields.specs.Fields.{at_name}
use Rattle.ip_udp_fields.specs.Join.{other_number, too_many, header_bits}
use Rattle.ip_udp_fields.specs.Checksum.{checksum_of}
use Rattle.coap_fields.specs.Join.{gaps, message_from}
use Rattle.coap_fields.specs.Join.{value_refusals as message_value_refusals}
use Rattle.decompress.specs.Reading.{restore_at}
use Rattle.packer.specs.UnpackedData.{UnpackedData}
use Rattle.ip_udp_fields.specs.Fields.{has_ipv6_header}
use Rattle.packer.specs.Ordering.{message_fields}
use Rattle.schc_ids.specs.Limits.{uncompressed_port}

-- the operator of the entry doesn't hold of what was restored
abbrev pub operator_fault : List FieldValue → EntryData → Bool × UnpackFault
operator_fault fields e = (
  not (operator_holds e.operator e.targets (value_of fields (field_of e))),
  BadPacket
      (field_of e),
)

-- what a length is filled in with: the true one, where it is computed
abbrev pub is_computed_length : EntryData → Bool
is_computed_length e =
    is_compute e.action && (same_name e.name IpPayloadLength || same_name e.name UdpLength)

abbrev pub filled_value : ℕ → EntryData → List Bool → List Bool
filled_value size e value = if is_computed_length e then number_bits 16 size else value

abbrev pub filled_field : ℕ → List FieldValue → EntryData → FieldValue
filled_field size fields e =
    record { at = field_of e; value = filled_value size e (value_of fields (field_of e)) }

-- the restored fields with computed lengths filled in, where this many bytes follow the IPv6 header
unfoldable pub with_lengths : RuleData → Direction → ℕ → List FieldValue → List FieldValue
with_lengths rule direction size fields = map (filled_field size fields) (covered rule direction)

-- the bytes after the IPv6 header, of a packet of the stack with this many bytes of payload
abbrev pub size_after : Stack → ℕ → ℕ
size_after stack.Ip size = size
size_after _ size = 8 + size

-- the fields of the headers, with a payload of this many bytes
abbrev pub filled_headers : RuleData → Direction → List FieldValue → ℕ → List FieldValue
filled_headers rule direction fields size =
    with_lengths rule direction (size_after (stack_of rule) size) fields

-- the field that can't be joined
abbrev pub wrong_field : JoinFault → UnpackFault
wrong_field (join.FieldAbsent at) = BadPacket at
wrong_field (join.FieldWrong at) = BadPacket at
wrong_field join.Memory = Memory

-- what follows the headers that stand at fixed places: the payload, or the CoAP message of the
-- restored fields and the payload
abbrev pub body_of : Stack → List FieldValue → List ℕ → List ℕ
body_of stack.IpUdpCoap fields payload = message_from (message_fields fields) payload
body_of _ fields payload = payload

-- the version is 6 (RFC 8200, section 3), and with UDP the next header is 17 (RFC 768)
abbrev pub number_faults : Stack → List FieldValue → List (Bool × JoinFault)
number_faults stack.Ip fields = other_number fields IpVersion 6 ∷ []
number_faults _ fields = other_number fields IpVersion 6 ∷ other_number fields IpNextHeader 17 ∷ []

-- with CoAP (RFC 7252, section 3): the version is 1, the token length at most 8, the token is there
-- exactly where its length is above 0, and has that length; and the positions of each option, in
-- ascending number, count from 1 without a gap
abbrev pub message_faults : Stack → List FieldValue → List (Bool × JoinFault)
message_faults stack.IpUdpCoap fields =
    message_value_refusals (message_fields fields) ++ gaps 0 0 (message_fields fields)
message_faults _ fields = []

-- at most 65,535 bytes follow the IPv6 header, and each length of the headers is their number
abbrev pub length_faults : Stack → List FieldValue → ℕ → List (Bool × JoinFault)
length_faults stack.Ip headers size = too_many size ∷ other_number headers IpPayloadLength size ∷ []
length_faults _ headers size =
    too_many (8 + size)
    ∷ other_number headers IpPayloadLength (8 + size)
    ∷ other_number headers UdpLength (8 + size)
    ∷ []

-- the conditions that aren't of operators, with this many bytes after the headers that stand at
-- fixed places
abbrev pub value_faults : RuleData → Direction → List FieldValue → ℕ → List (Bool × JoinFault)
value_faults rule direction fields size =
    number_faults (stack_of rule) fields
    ++ (message_faults (stack_of rule) fields ++ length_faults (stack_of rule)
    (filled_headers rule direction fields size) size)

-- in their order, the conditions under which restored fields and a payload make no packet that the
-- rule matches: an operator of an entry that is used, in the rule's order, doesn't hold; or a value
-- isn't what it has to be
unfoldable pub packet_faults : RuleData → Direction → List FieldValue → List ℕ
    → List (Bool × UnpackFault)
packet_faults rule direction fields payload =
    map (operator_fault fields) (covered rule direction)
    ++ map (λ condition. (condition.0, wrong_field condition.1))
    (value_faults rule direction fields (length (body_of (stack_of rule) fields payload)))

-- a number of 16 bits as two bytes
abbrev pub two_bytes : ℕ → List ℕ
two_bytes number = number / 256 % 256 ∷ number % 256 ∷ []

-- the packet with its UDP checksum made anew
unfoldable pub with_checksum : List ℕ → List ℕ
with_checksum packet = take 46 packet ++ (two_bytes (checksum_of packet) ++ drop 48 packet)

-- the headers of the fields and the payload
unfoldable pub headers_and_payload : Stack → Direction → List FieldValue → List ℕ → List ℕ
headers_and_payload of direction fields payload =
    bytes_of (padded (header_bits of direction fields)) ++ payload

-- the headers that stand at fixed places
abbrev pub fixed_headers : Stack → Stack
fixed_headers stack.Ip = stack.Ip
fixed_headers _ = stack.IpUdp

-- the packet with what is computed over it: the checksum, where the rule computes it
abbrev pub checksummed : RuleData → Direction → List ℕ → List ℕ
checksummed rule direction packet =
    if computes_checksum rule direction then with_checksum packet else packet

-- the packet of the restored fields and of what follows the headers that stand at fixed places
unfoldable pub packet_around : RuleData → Direction → List FieldValue → List ℕ → List ℕ
packet_around rule direction fields body =
    checksummed rule direction
    (headers_and_payload (fixed_headers (stack_of rule)) direction
    (filled_headers rule direction fields (length body)) body)

-- the packet of the restored fields and the payload
abbrev pub packet_of : RuleData → Direction → List FieldValue → List ℕ → List ℕ
packet_of rule direction fields payload =
    packet_around rule direction fields (body_of (stack_of rule) fields payload)

-- the first fault, or the packet
abbrev pub packet_or : Option UnpackFault → List ℕ → Result (List ℕ) UnpackFault
packet_or (Some fault) packet = Err fault
packet_or None packet = Ok packet

abbrev pub rebuilt : RuleData → Direction → List FieldValue → List ℕ → Result (List ℕ) UnpackFault
rebuilt rule direction fields payload =
    packet_or (first_held (packet_faults rule direction fields payload))
    (packet_of rule direction fields payload)

-- the packet of what was read of the residue, and of the whole bytes behind it
abbrev pub rebuilt_from : RuleData → Direction → Result (List FieldValue × List Bool) UnpackFault
    → Result (List ℕ) UnpackFault
rebuilt_from rule direction (Err fault) = Err fault
rebuilt_from rule direction (Ok read) = rebuilt rule direction read.0 (bytes_of read.1)

-- the rule reads packets of the direction: it serves it
abbrev pub reads : RuleData → Direction → Bool
reads rule direction = serves rule direction

-- by a rule that is listed under the RuleID, if one is and serves the direction
abbrev pub read_by : ℕ → Iids → Direction → Option Listed → List Bool → Result (List ℕ) UnpackFault
read_by id iids direction None bits = Err (UnknownRule id)
read_by id iids direction (Some listed) bits =
    if reads listed.rule direction then rebuilt_from listed.rule direction
    (restore_at listed.rule iids direction bits) else Err (UnknownRule id)

-- a packet that no rule compresses has a whole IPv6 header
abbrev pub read_whole : List ℕ → Result (List ℕ) UnpackFault
read_whole packet =
    if has_ipv6_header packet then Ok packet else Err (BadPacket (at_name IpVersion))

-- what follows the RuleID
abbrev pub read_under : EditionData → Iids → Direction → ℕ → List Bool → Result (List ℕ) UnpackFault
read_under edition iids direction id bits =
    if id == uncompressed_port then read_whole (bytes_of bits) else read_by id iids direction
    (lookup edition.rules id) bits

-- with the RuleID under which it was read
abbrev pub under : ℕ → Result (List ℕ) UnpackFault → Result UnpackedData UnpackFault
under id (Err fault) = Err fault
under id (Ok packet) = Ok (record { rule_id = id; packet = packet })

-- the RuleID in the first 8 bits, and the packet; or the first cause why there is none
unfoldable pub unpacked : EditionData → Iids → Direction → List Bool
    → Result UnpackedData UnpackFault
unpacked edition iids direction bits =
    if nat_lt (length bits) 8 then Err (BadResidue 0 Short)
    else under (bits_value (take 8 bits))
    (read_under edition iids direction (bits_value (take 8 bits)) (drop 8 bits))
