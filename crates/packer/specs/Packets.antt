-- Packets of a stack: their fields, their payload, and what is computed over them.
use Rattle.std.specs.Prelude.{ℕ, ◌≡◌, ◌+◌, ◌-◌, is_none, if◌then◌else◌, List, ◌++◌, length, drop}
use Rattle.std.specs.Prelude.{Option, Some, None, Result, Ok, Err}
use Rattle.schc_ids.specs.declared.ends.Direction.{Direction}
use Rattle.schc_ids.specs.declared.names.Stack.{Stack}
use Rattle.schc_ids.specs.declared.names.Stack.TheVariants as stack
use Rattle.rule_model.specs.declared.value.FieldValue.{FieldValue}
use Rattle.rule_model.specs.declared.value.Computed.{Computed}
use Rattle.rule_model.specs.SplitData.{SplitData}
use Rattle.ip_udp_fields.specs.Layout.{header_size}
use Rattle.ip_udp_fields.specs.Fields.{IsUdp, FieldsOf, fields_in}
use Rattle.ip_udp_fields.specs.Refusals.{refusal}
use Rattle.ip_udp_fields.specs.Checksum.{checksum_of}
use Rattle.coap_fields.specs.Fields.{MessageOf}
use Rattle.coap_fields.specs.Reading.{message_in}

-- a packet whose UDP datagram is a CoAP message (RFC 7252, section 3): these are its fields, those
-- of the message last, and the message's payload begins at this byte
pub record IsCoapPacket (direction : Direction) (packet : List ℕ) (fields : List FieldValue)
    (payload_from : ℕ) : Type 0 where
  pub message_fields : List FieldValue
  pub message_from : ℕ
  pub is_udp : IsUdp packet
  pub its_message : MessageOf (drop 48 packet) message_fields message_from
  pub its_fields : fields ≡ fields_in stack.IpUdp direction packet ++ message_fields
  pub its_payload : payload_from ≡ 48 + message_from

-- the packet is one of the stack, these are its fields in packet order, and its payload begins at
-- this byte
abbrev pub PacketOf : Stack → Direction → List ℕ → List FieldValue → ℕ → Type 0
PacketOf stack.Ip direction packet fields payload_from =
    FieldsOf stack.Ip direction packet fields payload_from
PacketOf stack.IpUdp direction packet fields payload_from =
    FieldsOf stack.IpUdp direction packet fields payload_from
PacketOf stack.IpUdpCoap direction packet fields payload_from =
    IsCoapPacket direction packet fields payload_from

-- the same as a function that computes: the fields and the place of the payload, where the packet
-- is one of the stack
abbrev pub split_headers : Stack → Direction → List ℕ → Option SplitData
split_headers of direction packet =
    if is_none (refusal of packet) then Some
    (record { fields = fields_in of direction packet; payload_from = header_size of }) else None

-- with the fields of the message, where the UDP datagram is one
abbrev pub with_message : SplitData → Result SplitData ℕ → Option SplitData
with_message headers (Err place) = None
with_message headers (Ok message) =
    Some (record {
      fields = headers.fields ++ message.fields;
      payload_from =
          headers.payload_from + message.payload_from;
    })

abbrev pub split_message : List ℕ → Option SplitData → Option SplitData
split_message packet None = None
split_message packet (Some headers) = with_message headers (message_in (drop 48 packet))

unfoldable pub split_of : Stack → Direction → List ℕ → Option SplitData
split_of stack.Ip direction packet = split_headers stack.Ip direction packet
split_of stack.IpUdp direction packet = split_headers stack.IpUdp direction packet
split_of stack.IpUdpCoap direction packet =
    split_message packet (split_headers stack.IpUdp direction packet)

-- what is computed over a packet of the stack as it is: the number of bytes after the IPv6 header,
-- which is that of the UDP datagram too, and the UDP checksum (RFC 8200, section 8.1)
abbrev pub computed_over : Stack → List ℕ → Computed
computed_over stack.Ip packet =
    record { payload_length = length packet - 40; udp_length = 0; checksum = 0 }
computed_over _ packet =
    record {
      payload_length = length packet - 40;
      udp_length = length packet - 40;
      checksum =
          checksum_of packet;
    }
