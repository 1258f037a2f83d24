use Rattle.std.specs.Prelude.{ℕ, ◌+◌, ◌==◌, Bool, true, false, Option, Some, None, List, [], ◌∷◌}
use Rattle.std.specs.Prelude.{◌++◌}
use Rattle.schc_ids.specs.declared.names.Layer.{Layer}
use Rattle.schc_ids.specs.declared.names.Layer.TheVariants as layer
use Rattle.schc_ids.specs.declared.names.Stack.{Stack}
use Rattle.schc_ids.specs.declared.names.Stack.TheVariants as stack
use Rattle.schc_ids.specs.declared.names.FieldName.{FieldName}
use Rattle.schc_ids.specs.declared.names.FieldName.TheVariants as field

-- the bits of a field: RFC 8200, section 3 (an address as a prefix and an interface identifier of
-- 64 bits each), RFC 768, and RFC 7252, section 3; none for the token and the options
abbrev pub width_of : FieldName → Option ℕ
width_of field.IpVersion = Some 4
width_of field.IpTrafficClass = Some 8
width_of field.IpFlowLabel = Some 20
width_of field.IpPayloadLength = Some 16
width_of field.IpNextHeader = Some 8
width_of field.IpHopLimit = Some 8
width_of field.IpDevPrefix = Some 64
width_of field.IpDevIid = Some 64
width_of field.IpAppPrefix = Some 64
width_of field.IpAppIid = Some 64
width_of field.UdpDevPort = Some 16
width_of field.UdpAppPort = Some 16
width_of field.UdpLength = Some 16
width_of field.UdpChecksum = Some 16
width_of field.CoapVersion = Some 2
width_of field.CoapType = Some 2
width_of field.CoapTkl = Some 4
width_of field.CoapCode = Some 8
width_of field.CoapMid = Some 16
width_of field.CoapToken = None
width_of (field.CoapOption number) = None

-- a name of a CoAP option
abbrev pub is_option : FieldName → Bool
is_option (field.CoapOption number) = true
is_option _ = false

-- the layer whose header has the field
abbrev pub layer_of : FieldName → Layer
layer_of field.IpVersion = layer.Ip
layer_of field.IpTrafficClass = layer.Ip
layer_of field.IpFlowLabel = layer.Ip
layer_of field.IpPayloadLength = layer.Ip
layer_of field.IpNextHeader = layer.Ip
layer_of field.IpHopLimit = layer.Ip
layer_of field.IpDevPrefix = layer.Ip
layer_of field.IpDevIid = layer.Ip
layer_of field.IpAppPrefix = layer.Ip
layer_of field.IpAppIid = layer.Ip
layer_of field.UdpDevPort = layer.Udp
layer_of field.UdpAppPort = layer.Udp
layer_of field.UdpLength = layer.Udp
layer_of field.UdpChecksum = layer.Udp
layer_of _ = layer.Coap

-- the place of a field in packet order; options stand last, by their numbers
abbrev pub rank_of : FieldName → ℕ
rank_of field.IpVersion = 0
rank_of field.IpTrafficClass = 1
rank_of field.IpFlowLabel = 2
rank_of field.IpPayloadLength = 3
rank_of field.IpNextHeader = 4
rank_of field.IpHopLimit = 5
rank_of field.IpDevPrefix = 6
rank_of field.IpDevIid = 7
rank_of field.IpAppPrefix = 8
rank_of field.IpAppIid = 9
rank_of field.UdpDevPort = 10
rank_of field.UdpAppPort = 11
rank_of field.UdpLength = 12
rank_of field.UdpChecksum = 13
rank_of field.CoapVersion = 14
rank_of field.CoapType = 15
rank_of field.CoapTkl = 16
rank_of field.CoapCode = 17
rank_of field.CoapMid = 18
rank_of field.CoapToken = 19
rank_of (field.CoapOption number) = 20 + number

-- the fields of an IPv6 header
abbrev pub ip_fields : List FieldName
ip_fields =
    field.IpVersion ∷ field.IpTrafficClass ∷ field.IpFlowLabel ∷ field.IpPayloadLength
    ∷ field.IpNextHeader ∷ field.IpHopLimit ∷ field.IpDevPrefix
    ∷ field.IpDevIid ∷ field.IpAppPrefix ∷ field.IpAppIid ∷ []

-- the fields of a UDP header
abbrev pub udp_fields : List FieldName
udp_fields = field.UdpDevPort ∷ field.UdpAppPort ∷ field.UdpLength ∷ field.UdpChecksum ∷ []

-- the fields that each CoAP message has
abbrev pub coap_fields : List FieldName
coap_fields =
    field.CoapVersion ∷ field.CoapType ∷ field.CoapTkl ∷ field.CoapCode ∷ field.CoapMid ∷ []

-- the fields that each packet of a stack has, in packet order
abbrev pub fields_of_stack : Stack → List FieldName
fields_of_stack stack.Ip = ip_fields
fields_of_stack stack.IpUdp = ip_fields ++ udp_fields
fields_of_stack stack.IpUdpCoap = ip_fields ++ udp_fields ++ coap_fields

-- whether two layers are one
abbrev pub same_layer : Layer → Layer → Bool
same_layer layer.Ip layer.Ip = true
same_layer layer.Udp layer.Udp = true
same_layer layer.Coap layer.Coap = true
same_layer _ _ = false

-- whether two names are one
abbrev pub same_name : FieldName → FieldName → Bool
same_name field.IpVersion field.IpVersion = true
same_name field.IpTrafficClass field.IpTrafficClass = true
same_name field.IpFlowLabel field.IpFlowLabel = true
same_name field.IpPayloadLength field.IpPayloadLength = true
same_name field.IpNextHeader field.IpNextHeader = true
same_name field.IpHopLimit field.IpHopLimit = true
same_name field.IpDevPrefix field.IpDevPrefix = true
same_name field.IpDevIid field.IpDevIid = true
same_name field.IpAppPrefix field.IpAppPrefix = true
same_name field.IpAppIid field.IpAppIid = true
same_name field.UdpDevPort field.UdpDevPort = true
same_name field.UdpAppPort field.UdpAppPort = true
same_name field.UdpLength field.UdpLength = true
same_name field.UdpChecksum field.UdpChecksum = true
same_name field.CoapVersion field.CoapVersion = true
same_name field.CoapType field.CoapType = true
same_name field.CoapTkl field.CoapTkl = true
same_name field.CoapCode field.CoapCode = true
same_name field.CoapMid field.CoapMid = true
same_name field.CoapToken field.CoapToken = true
same_name (field.CoapOption a) (field.CoapOption b) = a == b
same_name _ _ = false
