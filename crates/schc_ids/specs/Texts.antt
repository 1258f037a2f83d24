-- The texts of field names in rule text: field identifiers in the manner of RFC 9363, and the names
-- of the options of RFC 7252 (section 5.10), RFC 7641, RFC 7959, RFC 7967 and RFC 8613.
use Rattle.std.specs.Prelude.{ℕ, ◌≡◌, ◌↔◌, ◌==◌, Bool, false, if◌then◌else◌, List, [], ◌∷◌, ◌++◌}
use Rattle.std.specs.Prelude.{map, Option, Some, None, codes, find}
use Rattle.std.specs.Option.{option_map_or}
use Rattle.std.specs.Str.{bytes_eq}
use Rattle.schc_ids.specs.declared.names.FieldName.{FieldName}
use Rattle.schc_ids.specs.declared.names.FieldName.TheVariants as field
use Rattle.schc_ids.specs.declared.names.Stack.TheVariants as stack
use Rattle.schc_ids.specs.Names.{fields_of_stack}

-- the text of an option's name
unfoldable pub option_text : ℕ → Option (List ℕ)
option_text number =
    if number == 1 then Some (codes "fid-coap-option-if-match")
    else if number == 3 then Some (codes "fid-coap-option-uri-host")
    else if number == 4 then Some (codes "fid-coap-option-etag")
    else if number == 5 then Some (codes "fid-coap-option-if-none-match")
    else if number == 6 then Some (codes "fid-coap-option-observe")
    else if number == 7 then Some (codes "fid-coap-option-uri-port")
    else if number == 8 then Some (codes "fid-coap-option-location-path")
    else if number == 9 then Some (codes "fid-coap-option-oscore")
    else if number == 11 then Some (codes "fid-coap-option-uri-path")
    else if number == 12 then Some (codes "fid-coap-option-content-format")
    else if number == 14 then Some (codes "fid-coap-option-max-age")
    else if number == 15 then Some (codes "fid-coap-option-uri-query")
    else if number == 17 then Some (codes "fid-coap-option-accept")
    else if number == 20 then Some (codes "fid-coap-option-location-query")
    else if number == 23 then Some (codes "fid-coap-option-block2")
    else if number == 27 then Some (codes "fid-coap-option-block1")
    else if number == 28 then Some (codes "fid-coap-option-size2")
    else if number == 35 then Some (codes "fid-coap-option-proxy-uri")
    else if number == 39 then Some (codes "fid-coap-option-proxy-scheme")
    else if number == 60 then Some (codes "fid-coap-option-size1")
    else if number == 258 then Some (codes "fid-coap-option-no-response")
    else None

-- the text of a name, which some options have and all other fields
unfoldable pub text_of : FieldName → Option (List ℕ)
text_of field.IpVersion = Some (codes "fid-ipv6-version")
text_of field.IpTrafficClass = Some (codes "fid-ipv6-trafficclass")
text_of field.IpFlowLabel = Some (codes "fid-ipv6-flowlabel")
text_of field.IpPayloadLength = Some (codes "fid-ipv6-payload-length")
text_of field.IpNextHeader = Some (codes "fid-ipv6-nextheader")
text_of field.IpHopLimit = Some (codes "fid-ipv6-hoplimit")
text_of field.IpDevPrefix = Some (codes "fid-ipv6-devprefix")
text_of field.IpDevIid = Some (codes "fid-ipv6-deviid")
text_of field.IpAppPrefix = Some (codes "fid-ipv6-appprefix")
text_of field.IpAppIid = Some (codes "fid-ipv6-appiid")
text_of field.UdpDevPort = Some (codes "fid-udp-dev-port")
text_of field.UdpAppPort = Some (codes "fid-udp-app-port")
text_of field.UdpLength = Some (codes "fid-udp-length")
text_of field.UdpChecksum = Some (codes "fid-udp-checksum")
text_of field.CoapVersion = Some (codes "fid-coap-version")
text_of field.CoapType = Some (codes "fid-coap-type")
text_of field.CoapTkl = Some (codes "fid-coap-tkl")
text_of field.CoapCode = Some (codes "fid-coap-code")
text_of field.CoapMid = Some (codes "fid-coap-mid")
text_of field.CoapToken = Some (codes "fid-coap-token")
text_of (field.CoapOption number) = option_text number

-- the numbers of the options that have a text
abbrev pub named_options : List ℕ
named_options =
    1 ∷ 3 ∷ 4 ∷ 5 ∷ 6 ∷ 7 ∷ 8 ∷ 9 ∷ 11 ∷ 12 ∷ 14 ∷ 15 ∷ 17 ∷ 20 ∷ 23 ∷ 27 ∷ 28 ∷ 35 ∷ 39 ∷ 60 ∷ 258
    ∷ []

-- the names that have a text
abbrev pub named_fields : List FieldName
named_fields =
    fields_of_stack stack.IpUdpCoap ++ field.CoapToken ∷ map field.CoapOption named_options

-- whether this is the name's text
abbrev pub has_text : FieldName → List ℕ → Bool
has_text name text = option_map_or (λ its. bytes_eq its text) (text_of name) false

-- the name that has this text
unfoldable pub name_of_text : List ℕ → Option FieldName
name_of_text text = find (λ name. has_text name text) named_fields

-- the text of a field's name names that field, and no other text does
abbrev pub TextsName : Type 0
TextsName = (name : FieldName) (text : List ℕ)
    → (text_of name ≡ Some text) ↔ (name_of_text text ≡ Some name)
