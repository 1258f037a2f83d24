-- The fields of a packet: RFC 8200, section 3, and RFC 768.
use Rattle.std.specs.Prelude.{ℕ, ◌≡◌, ◌+◌, ◌≤◌, ◌==◌, ◌&&◌, Bool, nat_le, List, length, map, take}
use Rattle.std.specs.Prelude.{drop}
use Rattle.schc_ids.specs.declared.ends.Direction.{Direction}
use Rattle.schc_ids.specs.declared.names.Stack.{Stack}
use Rattle.schc_ids.specs.declared.names.Stack.TheVariants as stack
use Rattle.schc_ids.specs.declared.names.FieldName.{FieldName}
use Rattle.rule_model.specs.declared.value.FieldValue.{FieldValue}
pub use Rattle.rule_model.specs.Presence.{at_name}
use Rattle.ip_udp_fields.specs.Layout.{header_size, fields_in_packet_order, place_of, bits_of}
use Rattle.ip_udp_fields.specs.Layout.{piece, number_in}

-- the field of this name, with its bits in the packet
abbrev pub field_in : Direction → List ℕ → FieldName → FieldValue
field_in direction packet name =
    record { at = at_name name; value = piece (place_of direction name) (bits_of name) packet }

-- the same, where these are the bits of the headers
abbrev pub field_within : Direction → List Bool → FieldName → FieldValue
field_within direction header name =
    record {
      at = at_name name;
      value =
          take (bits_of name) (drop (place_of direction name) header);
    }

-- the fields of a packet of the stack, in packet order
unfoldable pub fields_in : Stack → Direction → List ℕ → List FieldValue
fields_in stack direction packet =
    map (field_in direction packet) (fields_in_packet_order stack direction)

-- an IPv6 header stands in front: at least 40 bytes, and the version is 6 (RFC 8200, section 3)
abbrev pub has_ipv6_header : List ℕ → Bool
has_ipv6_header packet = nat_le 40 (length packet) && number_in 0 4 packet == 6

-- an IPv6 packet: the version is 6, and the payload length is the number of the bytes after the
-- header (RFC 8200, section 3)
pub record IsIpv6 (packet : List ℕ) : Type 0 where
  pub header : 40 ≤ length packet
  pub version : number_in 0 4 packet ≡ 6
  pub payload_length : number_in 32 16 packet + 40 ≡ length packet

-- an IPv6 packet whose payload is a UDP datagram: the next header is 17 (RFC 8200, section 3), and
-- the UDP length is the number of the datagram's bytes (RFC 768)
pub record IsUdp (packet : List ℕ) : Type 0 where
  pub ipv6 : IsIpv6 packet
  pub next_header : number_in 48 8 packet ≡ 17
  pub header : 48 ≤ length packet
  pub udp_length : number_in 352 16 packet + 40 ≡ length packet

-- the packet is one of the stack; packets with CoAP are described elsewhere
abbrev pub IsPacketOf : Stack → List ℕ → Type 0
IsPacketOf stack.Ip packet = IsIpv6 packet
IsPacketOf stack.IpUdp packet = IsUdp packet
IsPacketOf stack.IpUdpCoap packet = ⊥

-- the packet is one of the stack, these are its fields, and its payload begins at this byte
pub record FieldsOf (stack : Stack) (direction : Direction) (packet : List ℕ)
    (fields : List FieldValue) (payload_from : ℕ) : Type 0 where
  pub is_packet : IsPacketOf stack packet
  pub its_fields : fields ≡ fields_in stack direction packet
  pub its_payload : payload_from ≡ header_size stack
