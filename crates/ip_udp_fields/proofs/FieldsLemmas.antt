-- The fields of a packet, one after another.
use Rattle.std.specs.Prelude.{ℕ, ◌≡◌, ◌+◌, ◌-◌, ◌*◌, ◌≤◌, ◌<◌, Bool, true, List, [], ◌∷◌, ◌++◌}
use Rattle.std.specs.Prelude.{length, map, take, drop, get_or}
use Rattle.std.specs.List.{list_all}
use Rattle.std.proofs.Common.{arith, ap, refl, sym, ◌∙◌, add-one}
use Rattle.std.proofs.lemmas.Bool.{leb-true, and_parts}
use Rattle.std.proofs.lemmas.List.{append_assoc, length-take-le}
use Rattle.std.proofs.Math.Seq.{drop-cons}
use Rattle.schc_bits.specs.Bits.{octets}
use Rattle.schc_bits.proofs.Octets.{length-octets}
use Rattle.schc_ids.specs.declared.ends.Direction.{Direction}
use Rattle.schc_ids.specs.declared.names.Stack.{Stack}
use Rattle.schc_ids.specs.declared.names.FieldName.{FieldName}
use Rattle.rule_model.specs.declared.value.FieldValue.{FieldValue}
use Rattle.ip_udp_fields.specs.Layout.{IsWithoutCoap, header_size, fields_in_packet_order, place_of}
use Rattle.ip_udp_fields.specs.Layout.{bits_of, piece}
use Rattle.ip_udp_fields.specs.Fields.{at_name, field_in, field_within, fields_in}
use Rattle.ip_udp_fields.proofs.PieceLemmas.{piece-of_header}
use Rattle.ip_udp_fields.proofs.PlaceLemmas.{is_within, fields_in_packet_order-within}

-- one field more; `d` is never met
pub fields-next : (direction : Direction) (header : List Bool) (items all : List FieldValue)
    (names : List FieldName) (i : ℕ) (d : FieldName) (from width : ℕ) (value : List Bool)
    → i < length names → from ≡ place_of direction (get_or names i d)
    → width ≡ bits_of (get_or names i d) → value ≡ take (from + width - from) (drop from header)
    → items ++ map (field_within direction header) (drop i names) ≡ all
    → (items ++ record { at = at_name (get_or names i d); value = value } ∷ []) ++ map
    (field_within direction header) (drop (i + 1) names) ≡ all
fields-next direction header items all names i d from width value h f w v e =
    let first : drop i names ≡ get_or names i d ∷ drop (i + 1) names =
    rw (add-one i) (drop-cons names i d h) in
    let count : from + width - from ≡ width = omega arith in
    let same : value ≡ take (bits_of (get_or names i d))
    (drop (place_of direction (get_or names i d)) header) =
    v ∙ ap (λ n. take n (drop from header)) (count ∙ w)
    ∙ ap (λ n. take (bits_of (get_or names i d)) (drop n header)) f
    in
    let cut : items ++ (field_within direction header (get_or names i d) ∷ map
    (field_within direction header) (drop (i + 1) names)) ≡ all =
    ap (λ ns. items ++ map (field_within direction header) ns) (sym first) ∙ e
    in
    append_assoc items (record { at = at_name (get_or names i d); value = value } ∷ [])
    (map (field_within direction header) (drop (i + 1) names))
    ∙ ap (λ (bits : List Bool).
    items ++ (record { at = at_name (get_or names i d); value = bits } ∷ map
    (field_within direction header) (drop (i + 1) names))) same
    ∙ cut

-- cut from the bits of the headers, a field is the one in the packet
fields_from : (of : Stack) (direction : Direction) (packet : List ℕ) (names : List FieldName)
    → list_all (is_within of direction) names ≡ true
    → map (field_within direction (octets (take (header_size of) packet))) names ≡ map
    (field_in direction packet) names
fields_from of direction packet [] h = refl
fields_from of direction packet (name ∷ names) h =
    let parts : (is_within of direction name ≡ true)
    × (list_all (is_within of direction) names ≡ true) =
    and_parts (is_within of direction name) (list_all (is_within of direction) names) h in
    let within : place_of direction name + bits_of name ≤ 8 * header_size of =
    leb-true (place_of direction name + bits_of name) (8 * header_size of) parts.0 in
    let value : take (bits_of name)
    (drop (place_of direction name) (octets (take (header_size of) packet))) ≡ piece
    (place_of direction name) (bits_of name) packet =
    piece-of_header (place_of direction name) (bits_of name) (header_size of) packet within
    in
    let first : field_within direction (octets (take (header_size of) packet)) name ≡ field_in
    direction packet name =
    ap (λ (bits : List Bool). record { at = at_name name; value = bits }) value
    in
    let rest : map (field_within direction (octets (take (header_size of) packet))) names ≡ map
    (field_in direction packet) names = fields_from of direction packet names parts.1 in
    ap (λ (f : FieldValue). f ∷ map (field_within direction (octets (take (header_size of) packet)))
    names) first
    ∙ ap (λ (fs : List FieldValue). field_in direction packet name ∷ fs) rest

-- the fields of a packet of a stack without CoAP are those in the bits of its headers alone
pub fields_in-of_header : (of : Stack) (direction : Direction) (packet : List ℕ) → IsWithoutCoap of
    → map (field_within direction (octets (take (header_size of) packet)))
    (fields_in_packet_order of direction) ≡ fields_in of direction packet
unfolding fields_in
fields_in-of_header of direction packet h =
    fields_from of direction packet (fields_in_packet_order of direction)
    (fields_in_packet_order-within of direction h)

-- in a packet that isn't shorter than the headers, these have eight bits for each of their bytes
pub length-header : (of : Stack) (packet : List ℕ) → header_size of ≤ length packet
    → length (octets (take (header_size of) packet)) ≡ 8 * header_size of
length-header of packet h =
    rw (length-octets (take (header_size of) packet), length-take-le (header_size of) packet h)
