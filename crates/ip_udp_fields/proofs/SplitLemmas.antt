-- The fields of a packet are not refused, and make that packet again.
use Rattle.std.specs.Prelude.{ℕ, ◌≡◌, ◌+◌, ◌-◌, ◌*◌, ◌≤◌, ◌==◌, ◌↔◌, zero, suc, Bool, true, false}
use Rattle.std.specs.Prelude.{not, List, [], ◌∷◌, ◌++◌, length, take, drop, nat_lt, Option, Some}
use Rattle.std.specs.Prelude.{None, is_none, unwrap_or}
use Rattle.std.specs.List.{AllByRecursion, list_all}
use Rattle.std.proofs.Common.{arith, ap, refl, sym, ◌∙◌}
use Rattle.std.proofs.lemmas.Bool.{leb-true, eq-eqb, le-ltb, and_parts, and_from}
use Rattle.std.proofs.lemmas.List.{length-take-le, length-drop, take-append-drop}
use Rattle.schc_bits.specs.Bits.{octets, bits_value, AreBytes}
use Rattle.schc_bits.proofs.Octets.{length-octets, take-octets, octets-injective}
use Rattle.schc_ids.specs.declared.ends.Direction.{Direction}
use Rattle.schc_ids.specs.declared.ends.Direction.TheVariants.{Up, Down}
use Rattle.schc_ids.specs.declared.names.Stack.{Stack}
use Rattle.schc_ids.specs.declared.names.Stack.TheVariants as stack
use Rattle.schc_ids.specs.declared.names.FieldName.{FieldName}
use Rattle.schc_ids.specs.declared.names.FieldName.TheVariants.{IpVersion, IpPayloadLength}
use Rattle.schc_ids.specs.declared.names.FieldName.TheVariants.{IpNextHeader, UdpLength}
use Rattle.schc_ids.specs.Names.{fields_of_stack}
use Rattle.rule_model.specs.declared.value.FieldValue.{FieldValue}
use Rattle.rule_model.specs.First.{first_held}
use Rattle.ip_udp_fields.specs.Layout.{IsWithoutCoap, header_size, fields_in_packet_order, place_of}
use Rattle.ip_udp_fields.specs.Layout.{bits_of, piece, number_in}
use Rattle.ip_udp_fields.specs.Fields.{fields_in, IsIpv6, IsUdp, IsPacketOf, FieldsOf}
use Rattle.ip_udp_fields.specs.Refusals.{ip_refusals, udp_refusals, refusal}
use Rattle.ip_udp_fields.specs.Join.{value_in, value_of, presence_of, presence, order, is_number}
use Rattle.ip_udp_fields.specs.Join.{value_refusals, join_refusal, values_in}
use Rattle.rule_model.proofs.FirstLemmas.{first_held-from_none, first_held-append_none}
use Rattle.ip_udp_fields.proofs.PlaceLemmas.{is_within, fields_in_packet_order-within}
use Rattle.ip_udp_fields.proofs.RefusalLemmas.{refusal-is_packet, header_size-is_packet}
use Rattle.ip_udp_fields.proofs.SpanLemmas.{span-headers, values_in-pieces, mirror, to-packet-order}
use Rattle.ip_udp_fields.proofs.SumLemmas.{number_in-below}

-- the bits of the packet in which the field of the name stands
abbrev pub field_bits : Direction → List ℕ → FieldName → List Bool
field_bits direction packet name = piece (place_of direction name) (bits_of name) packet

-- each field is found with its bits
fields_found-ip : (direction : Direction) (packet : List ℕ)
    → AllByRecursion
    (λ n. value_in (fields_in stack.Ip direction packet) n ≡ Some (field_bits direction packet n))
    (fields_of_stack stack.Ip)
unfolding fields_in
fields_found-ip Up packet =
    (refl, (refl, (refl, (refl, (refl, (refl, (refl, (refl, (refl, (refl, tt))))))))))
fields_found-ip Down packet =
    (refl, (refl, (refl, (refl, (refl, (refl, (refl, (refl, (refl, (refl, tt))))))))))

fields_found-udp : (direction : Direction) (packet : List ℕ)
    → AllByRecursion
    (λ n. value_in (fields_in stack.IpUdp direction packet) n ≡ Some
    (field_bits direction packet n)) (fields_of_stack stack.IpUdp)
unfolding fields_in
fields_found-udp Up packet = (
  refl,
  (
    refl,
    (
      refl,
      (
        refl,
        (refl, (refl, (refl, (refl, (refl, (refl, (refl, (refl, (refl, (refl, tt)))))))))),
      ),
    ),
  ),
)
fields_found-udp Down packet = (
  refl,
  (
    refl,
    (
      refl,
      (
        refl,
        (refl, (refl, (refl, (refl, (refl, (refl, (refl, (refl, (refl, (refl, tt)))))))))),
      ),
    ),
  ),
)

pub fields-found : (of : Stack) (direction : Direction) (packet : List ℕ) → IsWithoutCoap of
    → AllByRecursion
    (λ n. value_in (fields_in of direction packet) n ≡ Some (field_bits direction packet n))
    (fields_of_stack of)
fields-found stack.Ip direction packet h = fields_found-ip direction packet
fields-found stack.IpUdp direction packet h = fields_found-udp direction packet
fields-found stack.IpUdpCoap direction packet h = absurd h

pub ordered : (of : Stack) (direction : Direction) (packet : List ℕ) → IsWithoutCoap of
    → first_held
    (order (fields_in_packet_order of direction) (fields_in of direction packet)) ≡ None
unfolding fields_in
ordered stack.Ip Up packet h = refl
ordered stack.Ip Down packet h = refl
ordered stack.IpUdp Up packet h = refl
ordered stack.IpUdp Down packet h = refl
ordered stack.IpUdpCoap direction packet h = absurd h

pub length-piece : (place width : ℕ) (packet : List ℕ) → place + width ≤ 8 * length packet
    → length (piece place width packet) ≡ width
unfolding piece
length-piece place width packet h =
    length-take-le width (drop place (octets packet))
    (omega (arith, length-drop place (octets packet), length-octets packet))

-- in a packet that has all its headers, each field that ends within them has the bits of its width
pub lengths : (of : Stack) (direction : Direction) (packet : List ℕ) (names : List FieldName)
    → header_size of ≤ length packet → list_all (is_within of direction) names ≡ true
    → AllByRecursion (λ n. length (field_bits direction packet n) ≡ bits_of n) names
lengths of direction packet [] l w = tt
lengths of direction packet (name ∷ names) l w =
    let parts : (is_within of direction name ≡ true)
    × (list_all (is_within of direction) names ≡ true) =
    and_parts (is_within of direction name) (list_all (is_within of direction) names) w in
    let within : place_of direction name + bits_of name ≤ 8 * header_size of =
    leb-true (place_of direction name + bits_of name) (8 * header_size of) parts.0 in (
      length-piece (place_of direction name) (bits_of name) packet (omega arith),
      lengths of
          direction packet names l parts.1,
    )

not_same : (a b : ℕ) → a ≡ b → not (a == b) ≡ false
not_same a b e = ap not (eq-eqb a b e)

-- where each name has a field, with a value of its width, none is missing or of another width
pub present : (fields : List FieldValue) (v : FieldName → List Bool) (names : List FieldName)
    → AllByRecursion (λ n. value_in fields n ≡ Some (v n)) names
    → AllByRecursion (λ n. length (v n) ≡ bits_of n) names
    → first_held (presence fields names) ≡ None
present fields v [] f l = refl
present fields v (name ∷ names) f l =
    let absent : is_none (value_in fields name) ≡ false = ap is_none f.0 in
    let value : value_of fields name ≡ v name =
    ap (λ (o : Option (List Bool)). unwrap_or o []) f.0 in
    let wide : not (length (value_of fields name) == bits_of name) ≡ false =
    not_same (length (value_of fields name)) (bits_of name)
    (ap (λ (bits : List Bool). length bits) value ∙ l.0)
    in
    first_held-append_none (presence_of fields name) (presence fields names)
    (first_held-from_none (presence_of fields name) (absent, (wide, tt)))
    ∙ present fields v names f.1 l.1

is_number-piece : (place width number : ℕ) (packet : List ℕ) (value : Option (List Bool))
    → value ≡ Some (piece place width packet) → place + width ≤ 8 * length packet
    → number_in place width packet ≡ number → not (is_number width number value) ≡ false
unfolding number_in
is_number-piece place width number packet value v h e =
    rw v (ap not
    (and_from (length (piece place width packet) == width)
    (bits_value (piece place width packet) == number)
    (eq-eqb (length (piece place width packet)) width (length-piece place width packet h))
    (eq-eqb (bits_value (piece place width packet)) number e)))

not_below : (a b : ℕ) → b ≤ a → nat_lt a b ≡ false
not_below a b h = le-ltb a b h

right-ip : (direction : Direction) (packet : List ℕ) (size : ℕ) → IsIpv6 packet
    → size + 40 ≡ length packet → size ≤ 65535
    → first_held (value_refusals stack.Ip (fields_in stack.Ip direction packet) size) ≡ None
right-ip direction packet size p s m =
    let its : List FieldValue = fields_in stack.Ip direction packet in
    let all = fields_found-ip direction packet in
    first_held-from_none (value_refusals stack.Ip its size) (
      is_number-piece 0 4 6 packet (value_in its IpVersion) all.0 (omega (arith, p.header))
          p.version,
      (
        not_below 65535 size m,
        (
          is_number-piece 32 16 size packet (value_in its IpPayloadLength) all.1.1.1.0
              (omega (arith, p.header)) (omega (arith, p.payload_length)),
          tt,
        ),
      ),
    )

right-udp : (direction : Direction) (packet : List ℕ) (size : ℕ) → IsUdp packet
    → size + 48 ≡ length packet → 8 + size ≤ 65535
    → first_held (value_refusals stack.IpUdp (fields_in stack.IpUdp direction packet) size) ≡ None
right-udp direction packet size p s m =
    let its : List FieldValue = fields_in stack.IpUdp direction packet in
    let all = fields_found-udp direction packet in
    first_held-from_none (value_refusals stack.IpUdp its size) (
      is_number-piece 0 4 6 packet (value_in its IpVersion) all.0 (omega (arith, p.header))
          p.ipv6.version,
      (
        is_number-piece 48 8 17 packet (value_in its IpNextHeader) all.1.1.1.1.0
            (omega (arith, p.header)) p.next_header,
        (
          not_below 65535 (8 + size) m,
          (
            is_number-piece 32 16 (8 + size) packet (value_in its IpPayloadLength) all.1.1.1.0
                (omega (arith, p.header)) (omega (arith, p.ipv6.payload_length)),
            (
              is_number-piece 352 16 (8 + size) packet (value_in its UdpLength)
                  all.1.1.1.1.1.1.1.1.1.1.1.1.0 (omega (arith, p.header))
                  (omega (arith, p.udp_length)),
              tt,
            ),
          ),
        ),
      ),
    )

right : (of : Stack) (direction : Direction) (packet : List ℕ) → IsPacketOf of packet
    → first_held
    (value_refusals of (fields_in of direction packet) (length packet - header_size of)) ≡ None
right stack.Ip direction packet p =
    right-ip direction packet (length packet - 40) p (omega (arith, p.header))
    (omega (arith, p.payload_length, number_in-below 32 16 packet))
right stack.IpUdp direction packet p =
    right-udp direction packet (length packet - 48) p (omega (arith, p.header))
    (omega (arith, p.header, p.udp_length, number_in-below 352 16 packet))
right stack.IpUdpCoap direction packet p = absurd p

-- a packet as it is described here is one of a stack without CoAP
pub without-coap : (of : Stack) (packet : List ℕ) → IsPacketOf of packet → IsWithoutCoap of
without-coap stack.Ip packet p = tt
without-coap stack.IpUdp packet p = tt
without-coap stack.IpUdpCoap packet p = absurd p

-- what a packet was split into isn't refused
pub joins-again : (of : Stack) (direction : Direction) (packet : List ℕ) (fields : List FieldValue)
    (from : ℕ) → FieldsOf of direction packet fields from
    → join_refusal of direction fields (length (drop from packet)) ≡ None
unfolding join_refusal
joins-again of direction packet fields from f =
    let h : IsWithoutCoap of = without-coap of packet f.is_packet in
    let names : List FieldName = fields_in_packet_order of direction in
    let its : List FieldValue = fields_in of direction packet in
    let size : ℕ = length packet - header_size of in
    let long : header_size of ≤ length packet = header_size-is_packet of packet f.is_packet in
    let none_absent : first_held (presence its names) ≡ None =
    present its (field_bits direction packet) names
    (to-packet-order (λ n. value_in its n ≡ Some (field_bits direction packet n)) of direction h
    (fields-found of direction packet h))
    (lengths of direction packet names long (fields_in_packet_order-within of direction h))
    in
    let none : first_held
    (presence its names ++ (order names its ++ value_refusals of its size)) ≡ None =
    first_held-append_none (presence its names) (order names its ++ value_refusals of its size)
    none_absent
    ∙ first_held-append_none (order names its) (value_refusals of its size)
    (ordered of direction packet h)
    ∙ right of direction packet f.is_packet
    in
    let count : length (drop from packet) ≡ size = length-drop from packet
    ∙ ap (λ (n : ℕ). length packet - n) f.its_payload in
    rw (f.its_fields, count) none

take_bytes : (count : ℕ) (bytes : List ℕ) → AreBytes bytes → AreBytes (take count bytes)
take_bytes zero bytes a = tt
take_bytes (suc count) [] a = tt
take_bytes (suc count) (byte ∷ bytes) a = (a.0, take_bytes count bytes a.1)

values : (fields : List FieldValue) (v : FieldName → List Bool) (names : List FieldName)
    → AllByRecursion (λ n. value_in fields n ≡ Some (v n)) names
    → AllByRecursion (λ n. value_of fields n ≡ v n) names
values fields v [] a = tt
values fields v (name ∷ names) a =
    (ap (λ (o : Option (List Bool)). unwrap_or o []) a.0, values fields v names a.1)

-- the headers of a packet are the values of its fields
pub headers : (of : Stack) (direction : Direction) (packet : List ℕ) → IsWithoutCoap of
    → octets (take (header_size of) packet) ≡ values_in direction (fields_in of direction packet)
    (fields_of_stack of)
unfolding piece
headers of direction packet h =
    let its : List FieldValue = fields_in of direction packet in
    let all =
    mirror (λ n. value_of its n ≡ field_bits direction packet n) of direction h
    (values its (field_bits direction packet) (fields_of_stack of)
    (fields-found of direction packet h)) in
    let whole : 8 * header_size of - 0 ≡ 8 * header_size of = omega arith in
    let joined : values_in direction its (fields_of_stack of) ≡ take (8 * header_size of - 0)
    (octets packet) =
    values_in-pieces direction its (fields_of_stack of) 0 (8 * header_size of) packet
    (span-headers of direction h) all
    in
    sym (joined ∙ ap (λ (n : ℕ). take n (octets packet)) whole
    ∙ take-octets (header_size of) packet)

-- packets with the same fields and the same payload are one
pub one_packet : (of : Stack) (direction : Direction) (this that : List ℕ)
    (fields : List FieldValue) (here there : ℕ) → AreBytes this → AreBytes that
    → FieldsOf of direction this fields here → FieldsOf of direction that fields there
    → drop here this ≡ drop there that → this ≡ that
one_packet of direction this that fields here there a b f g e =
    let h : IsWithoutCoap of = without-coap of this f.is_packet in
    let size : ℕ = header_size of in
    let same : fields_in of direction this ≡ fields_in of direction that = sym f.its_fields
    ∙ g.its_fields in
    let bits : octets (take size this) ≡ octets (take size that) =
    headers of direction this h
    ∙ ap (λ (fs : List FieldValue). values_in direction fs (fields_of_stack of)) same
    ∙ sym (headers of direction that h)
    in
    let front : take size this ≡ take size that =
    octets-injective (take size this) (take size that) (take_bytes size this a)
    (take_bytes size that b) bits in
    let back : drop size this ≡ drop size that =
    ap (λ (n : ℕ). drop n this) (sym f.its_payload) ∙ e ∙ ap (λ (n : ℕ). drop n that) g.its_payload
    in
    sym (take-append-drop size this)
    ∙ ap (λ (bytes : List ℕ). bytes ++ drop size this) front
    ∙ ap (λ (bytes : List ℕ). take size that ++ bytes) back
    ∙ take-append-drop size that

-- a packet has one list of fields, and one place of its payload
pub one-split : (of : Stack) (direction : Direction) (packet : List ℕ)
    (these those : List FieldValue) (here there : ℕ) → FieldsOf of direction packet these here
    → FieldsOf of direction packet those there → (these ≡ those) × (here ≡ there)
one-split of direction packet these those here there f g =
    (f.its_fields ∙ sym g.its_fields, f.its_payload ∙ sym g.its_payload)

is_difference : (number front all : ℕ) → number + front ≡ all → number ≡ all - front
is_difference number front all e = omega arith

-- no condition of IPv6 holds of an IPv6 packet
pub none-ip : (packet : List ℕ) → IsIpv6 packet → first_held (ip_refusals packet) ≡ None
none-ip packet p =
    first_held-from_none (ip_refusals packet) (
      not_below (length packet) 40 p.header,
      (
        not_same (number_in 0 4 packet) 6 p.version,
        (
          not_same (number_in 32 16 packet) (length packet - 40)
              (is_difference (number_in 32 16 packet) 40 (length packet) p.payload_length),
          tt,
        ),
      ),
    )

none-udp : (packet : List ℕ) → IsUdp packet → first_held (udp_refusals packet) ≡ None
none-udp packet p =
    first_held-from_none (udp_refusals packet) (
      not_same (number_in 48 8 packet) 17 p.next_header,
      (
        not_below (length packet) 48 p.header,
        (
          not_same (number_in 352 16 packet) (length packet - 40)
              (is_difference (number_in 352 16 packet) 40 (length packet) p.udp_length),
          tt,
        ),
      ),
    )

not_refused : (of : Stack) (packet : List ℕ) → IsPacketOf of packet → refusal of packet ≡ None
unfolding refusal
not_refused stack.Ip packet p = none-ip packet p
not_refused stack.IpUdp packet p =
    first_held-append_none (ip_refusals packet) (udp_refusals packet) (none-ip packet p.ipv6)
    ∙ none-udp packet p
not_refused stack.IpUdpCoap packet p = absurd p

-- no condition refuses a packet exactly where it is one of the stack
pub refuses-exactly : (of : Stack) (packet : List ℕ) → IsWithoutCoap of
    → (refusal of packet ≡ None) ↔ IsPacketOf of packet
refuses-exactly of packet h = (refusal-is_packet of packet h, not_refused of packet)
