-- The bytes after the headers of a packet.
use Rattle.std.specs.Prelude.{ℕ, ◌≡◌, ◌-◌, ◌<◌, ◌≤◌, ◌⊎◌, true, false, List, length, drop, Option}
use Rattle.std.specs.Prelude.{Some, None}
use Rattle.std.specs.Option.{option_map}
use Rattle.std.proofs.Common.{arith, ap, refl, sym, inl, inr}
use Rattle.std.proofs.lemmas.List.{length-drop}
use Rattle.schc_bits.specs.Bits.{AreBytes}
use Rattle.schc_ids.specs.declared.ends.Direction.{Direction}
use Rattle.schc_ids.specs.declared.names.Stack.{Stack}
use Rattle.schc_ids.specs.declared.names.Stack.TheVariants as stack
use Rattle.rule_model.specs.declared.parts.SplitFault.{SplitFault}
use Rattle.rule_model.specs.declared.parts.SplitFault.TheVariants.{Memory}
use Rattle.rule_model.specs.declared.value.Computed.{Computed}
use Rattle.rule_model.specs.declared.value.FieldValue.{FieldValue}
use Rattle.rule_model.specs.SplitData.{SplitData}
use Rattle.ip_udp_fields.specs.Layout.{IsWithoutCoap}
use Rattle.ip_udp_fields.specs.Fields.{FieldsOf, IsIpv6}
use Rattle.ip_udp_fields.specs.Refusals.{refusal}
use Rattle.ip_udp_fields.proofs.RefusalLemmas.{header_size-is_packet}
use Rattle.ip_udp_fields.proofs.SumLemmas.{number_in-below}
use Rattle.coap_fields.specs.Fields.{MessageOf}
use Rattle.packer.specs.Packets.{PacketOf, split_headers, split_of, computed_over}
use Rattle.packer.proofs.SplitLemmas.{packet-split_of, split_of-packet}

-- the bytes after an IPv6 header are counted in 16 bits
pub size_after-below : (packet : List ℕ) → IsIpv6 packet → length packet - 40 < 65536
size_after-below packet p = omega (arith, number_in-below 32 16 packet, p.payload_length, p.header)

-- a packet of a stack whose headers stand at fixed places
pub fields-packet : (of : Stack) (direction : Direction) (packet : List ℕ)
    (fields : List FieldValue) (from : ℕ) → IsWithoutCoap of
    → FieldsOf of direction packet fields from → PacketOf of direction packet fields from
fields-packet stack.Ip direction packet fields from h p = p
fields-packet stack.IpUdp direction packet fields from h p = p
fields-packet stack.IpUdpCoap direction packet fields from h p = absurd h

-- a packet that is refused
is_refused : (of : Stack) (direction : Direction) (packet : List ℕ) (fault : SplitFault)
    → refusal of packet ≡ Some fault → split_headers of direction packet ≡ None
is_refused of direction packet fault e = rw e refl

-- a packet that is refused as one of a stack without CoAP isn't split as one
pub refused-split_of : (of : Stack) (direction : Direction) (packet : List ℕ) (fault : SplitFault)
    → IsWithoutCoap of → refusal of packet ≡ Some fault → split_of of direction packet ≡ None
unfolding split_of
refused-split_of stack.Ip direction packet fault h e = is_refused stack.Ip direction packet fault e
refused-split_of stack.IpUdp direction packet fault h e =
    is_refused stack.IpUdp direction packet fault e
refused-split_of stack.IpUdpCoap direction packet fault h e = absurd h

-- the payload begins within the packet
message-within : (bytes : List ℕ) (fields : List FieldValue) (from : ℕ)
    → MessageOf bytes fields from → from ≤ length bytes
message-within bytes fields from m = omega (arith, m.its_payload)

-- the payload of a packet begins within the packet, or at its end
pub from-within : (of : Stack) (direction : Direction) (packet : List ℕ) (fields : List FieldValue)
    (from : ℕ) → PacketOf of direction packet fields from → from ≤ length packet
from-within stack.Ip direction packet fields from p =
    rw p.its_payload (header_size-is_packet stack.Ip packet p.is_packet)
from-within stack.IpUdp direction packet fields from p =
    rw p.its_payload (header_size-is_packet stack.IpUdp packet p.is_packet)
from-within stack.IpUdpCoap direction packet fields from p =
    omega (
      arith,
      p.its_payload,
      message-within (drop 48 packet) p.message_fields p.message_from
          p.its_message,
      length-drop 48 packet,
      p.is_udp.header,
    )
