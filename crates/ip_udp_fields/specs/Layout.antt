-- Where the fields of an IPv6 header (RFC 8200, section 3) and of a UDP header (RFC 768) stand in a
-- packet, in bits.
use Rattle.std.specs.Prelude.{ℕ, List, Bool, map, take, drop}
use Rattle.schc_bits.specs.Bits.{octets, bits_value}
use Rattle.schc_ids.specs.declared.ends.Direction.{Direction}
use Rattle.schc_ids.specs.declared.ends.Direction.TheVariants.{Up, Down}
use Rattle.schc_ids.specs.declared.names.Stack.{Stack}
use Rattle.schc_ids.specs.declared.names.Stack.TheVariants as stack
use Rattle.schc_ids.specs.declared.names.FieldName.{FieldName}
use Rattle.schc_ids.specs.declared.names.FieldName.TheVariants as fid
use Rattle.schc_ids.specs.Names.{fields_of_stack}
pub use Rattle.rule_model.specs.Presence.{bits_of}

-- the stacks whose headers all stand at fixed places
abbrev pub IsWithoutCoap : Stack → Type 0
IsWithoutCoap stack.Ip = Unit {0}
IsWithoutCoap stack.IpUdp = Unit {0}
IsWithoutCoap stack.IpUdpCoap = ⊥

-- the bytes of the headers: 40 of IPv6, and 8 of UDP
abbrev pub header_size : Stack → ℕ
header_size stack.Ip = 40
header_size _ = 48

-- the device's one of two places, that of a source and that of a destination: on the way up the
-- device is the source, on the way down it is the destination
abbrev pub device_place : Direction → ℕ → ℕ → ℕ
device_place Up source destination = source
device_place Down source destination = destination

-- the first bit of a field in the packet
abbrev pub place_of : Direction → FieldName → ℕ
place_of direction fid.IpVersion = 0
place_of direction fid.IpTrafficClass = 4
place_of direction fid.IpFlowLabel = 12
place_of direction fid.IpPayloadLength = 32
place_of direction fid.IpNextHeader = 48
place_of direction fid.IpHopLimit = 56
place_of direction fid.IpDevPrefix = device_place direction 64 192
place_of direction fid.IpDevIid = device_place direction 128 256
place_of direction fid.IpAppPrefix = device_place direction 192 64
place_of direction fid.IpAppIid = device_place direction 256 128
place_of direction fid.UdpDevPort = device_place direction 320 336
place_of direction fid.UdpAppPort = device_place direction 336 320
place_of direction fid.UdpLength = 352
place_of direction fid.UdpChecksum = 368
place_of direction _ = 384

-- the field that stands where this one stands on the way up: on the way down source and destination
-- are exchanged
abbrev pub mirrored : Direction → FieldName → FieldName
mirrored Up name = name
mirrored Down fid.IpDevPrefix = fid.IpAppPrefix
mirrored Down fid.IpDevIid = fid.IpAppIid
mirrored Down fid.IpAppPrefix = fid.IpDevPrefix
mirrored Down fid.IpAppIid = fid.IpDevIid
mirrored Down fid.UdpDevPort = fid.UdpAppPort
mirrored Down fid.UdpAppPort = fid.UdpDevPort
mirrored Down name = name

-- the fields of the headers of a stack in packet order: the source's address and port stand before
-- the destination's
abbrev pub fields_in_packet_order : Stack → Direction → List FieldName
fields_in_packet_order stack direction = map (mirrored direction) (fields_of_stack stack)

-- the bits of the packet from a place on
unfoldable pub piece : ℕ → ℕ → List ℕ → List Bool
piece place width packet = take width (drop place (octets packet))

-- the number that these bits write
unfoldable pub number_in : ℕ → ℕ → List ℕ → ℕ
number_in place width packet = bits_value (piece place width packet)
