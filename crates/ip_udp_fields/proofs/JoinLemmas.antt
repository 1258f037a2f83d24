-- Fields that nothing refuses make a packet, and are its fields.
use Rattle.std.specs.Prelude.{ℕ, ◌≡◌, ◌+◌, ◌*◌, ◌%◌, ◌==◌, Bool, true, false, not, List, [], ◌∷◌}
use Rattle.std.specs.Prelude.{◌++◌, length, map, take, drop, Option, Some, None, unwrap_or}
use Rattle.std.specs.List.{AllByRecursion}
use Rattle.std.proofs.Common.{arith, ap, refl, sym, subst, ◌∙◌}
use Rattle.std.proofs.lemmas.Bool.{eqb-true, false≢true, and_parts, not-false}
use Rattle.std.proofs.lemmas.List.{length-append, drop_at}
use Rattle.schc_bits.specs.Bits.{octets, padded, bytes_of, bits_value, AreBytes}
use Rattle.schc_bits.proofs.Octets.{AreBytes-bytes_of, octets-append, octets-bytes_of-padded}
use Rattle.schc_bits.proofs.Octets.{padded-whole, length-bytes_of}
use Rattle.schc_ids.specs.declared.ends.Direction.{Direction}
use Rattle.schc_ids.specs.declared.ends.Direction.TheVariants.{Up, Down}
use Rattle.schc_ids.specs.declared.names.Stack.{Stack}
use Rattle.schc_ids.specs.declared.names.Stack.TheVariants as stack
use Rattle.schc_ids.specs.declared.names.FieldName.{FieldName}
use Rattle.schc_ids.specs.declared.names.FieldName.TheVariants.{IpVersion, IpPayloadLength}
use Rattle.schc_ids.specs.declared.names.FieldName.TheVariants.{IpNextHeader, UdpLength}
use Rattle.schc_ids.specs.Names.{fields_of_stack}
use Rattle.rule_model.specs.declared.value.FieldValue.{FieldValue}
use Rattle.rule_model.specs.First.{first_held}
use Rattle.ip_udp_fields.specs.Layout.{IsWithoutCoap, header_size, mirrored, fields_in_packet_order}
use Rattle.ip_udp_fields.specs.Layout.{place_of, bits_of, piece, number_in}
use Rattle.ip_udp_fields.specs.Fields.{at_name, field_in, fields_in, IsIpv6, IsUdp, IsPacketOf}
use Rattle.ip_udp_fields.specs.Fields.{FieldsOf}
use Rattle.ip_udp_fields.specs.Join.{value_in, value_of, presence, order, is_number, has_number}
use Rattle.ip_udp_fields.specs.Join.{value_refusals, join_refusal, values_in, header_bits}
use Rattle.rule_model.proofs.FirstLemmas.{first_held-none, first_held-front, first_held-append_none}
use Rattle.ip_udp_fields.proofs.OrderLemmas.{are_distinct, with_value, order-all, presence-all}
use Rattle.ip_udp_fields.proofs.SpanLemmas.{span-headers, HaveWidths, length-values_in}
use Rattle.ip_udp_fields.proofs.SpanLemmas.{pieces-values_in, unmirror, mirror, to-packet-order}
use Rattle.ip_udp_fields.proofs.SpanLemmas.{from-packet-order}

-- what the three groups of conditions say
pub record NoneHeld (of : Stack) (direction : Direction) (fields : List FieldValue)
    (size : ℕ) : Type 0 where
  pub present : first_held (presence fields (fields_in_packet_order of direction)) ≡ None
  pub ordered : first_held (order (fields_in_packet_order of direction) fields) ≡ None
  pub right : first_held (value_refusals of fields size) ≡ None

-- where fields are not refused, all are there with their widths, in order, and with right values
pub join_refusal-none : (of : Stack) (direction : Direction) (fields : List FieldValue) (size : ℕ)
    → join_refusal of direction fields size ≡ None → NoneHeld of direction fields size
unfolding join_refusal
join_refusal-none of direction fields size e =
    let first : first_held (presence fields (fields_in_packet_order of direction)) ≡ None =
    first_held-front (presence fields (fields_in_packet_order of direction))
    (order (fields_in_packet_order of direction) fields ++ value_refusals of fields size) e
    in
    let rest : first_held
    (order (fields_in_packet_order of direction) fields ++ value_refusals of fields
    size) ≡ None =
    sym (first_held-append_none (presence fields (fields_in_packet_order of direction))
    (order (fields_in_packet_order of direction) fields ++ value_refusals of fields size) first)
    ∙ e
    in
    let second : first_held (order (fields_in_packet_order of direction) fields) ≡ None =
    first_held-front (order (fields_in_packet_order of direction) fields)
    (value_refusals of fields size) rest in
    record {
      present = first;
      ordered = second;
      right = sym
          (first_held-append_none (order (fields_in_packet_order of direction) fields)
          (value_refusals of fields size) second) ∙ rest;
    }

distinct-fields : (of : Stack) (direction : Direction) → IsWithoutCoap of
    → are_distinct (fields_in_packet_order of direction) ≡ true
distinct-fields stack.Ip Up h = refl
distinct-fields stack.Ip Down h = refl
distinct-fields stack.IpUdp Up h = refl
distinct-fields stack.IpUdp Down h = refl
distinct-fields stack.IpUdpCoap direction h = absurd h

-- the two halves of what holds of each name
firsts : (P Q : FieldName → Type 0) (names : List FieldName) → AllByRecursion (λ n. P n × Q n) names
    → AllByRecursion P names
firsts P Q [] a = tt
firsts P Q (name ∷ names) a = (a.0.0, firsts P Q names a.1)

seconds : (P Q : FieldName → Type 0) (names : List FieldName)
    → AllByRecursion (λ n. P n × Q n) names → AllByRecursion Q names
seconds P Q [] a = tt
seconds P Q (name ∷ names) a = (a.0.1, seconds P Q names a.1)

-- the fields are those of the names, with their values
pub fields-are : (of : Stack) (direction : Direction) (fields : List FieldValue) (size : ℕ)
    → IsWithoutCoap of → NoneHeld of direction fields size
    → fields ≡ map (with_value (value_of fields)) (fields_in_packet_order of direction)
fields-are of direction fields size h none =
    order-all (fields_in_packet_order of direction) fields (value_of fields)
    (distinct-fields of direction h) none.ordered
    (firsts (λ n. value_in fields n ≡ Some (value_of fields n))
    (λ n. length (value_of fields n) ≡ bits_of n) (fields_in_packet_order of direction)
    (presence-all fields (fields_in_packet_order of direction) none.present))

pub widths-are : (of : Stack) (direction : Direction) (fields : List FieldValue) (size : ℕ)
    → IsWithoutCoap of → NoneHeld of direction fields size
    → HaveWidths direction fields (fields_of_stack of)
widths-are of direction fields size h none =
    mirror (λ n. length (value_of fields n) ≡ bits_of n) of direction h
    (from-packet-order (λ n. length (value_of fields n) ≡ bits_of n) of direction h
    (seconds (λ n. value_in fields n ≡ Some (value_of fields n))
    (λ n. length (value_of fields n) ≡ bits_of n) (fields_in_packet_order of direction)
    (presence-all fields (fields_in_packet_order of direction) none.present)))

same_fields : (direction : Direction) (packet : List ℕ) (fields : List FieldValue)
    (names : List FieldName)
    → AllByRecursion (λ n. piece (place_of direction n) (bits_of n) packet ≡ value_of fields n)
    names → map (with_value (value_of fields)) names ≡ map (field_in direction packet) names
same_fields direction packet fields [] a = refl
same_fields direction packet fields (name ∷ names) a =
    ap (λ (bits : List Bool).
    (let f : FieldValue = record { at = at_name name; value = bits } in f) ∷ map
    (with_value (value_of fields)) names) (sym a.0)
    ∙ ap (λ (fs : List FieldValue). field_in direction packet name ∷ fs)
    (same_fields direction packet fields names a.1)

-- a packet whose first bits are the values of the fields has these pieces
pub pieces-are : (of : Stack) (direction : Direction) (packet : List ℕ) (fields : List FieldValue)
    (rest : List Bool) (size : ℕ) → IsWithoutCoap of → NoneHeld of direction fields size
    → octets packet ≡ values_in direction fields (fields_of_stack of) ++ rest
    → AllByRecursion (λ n. piece (place_of direction n) (bits_of n) packet ≡ value_of fields n)
    (fields_of_stack of)
unfolding piece
pieces-are of direction packet fields rest size h none e =
    unmirror
    (λ n. take (bits_of n) (drop (place_of direction n) (octets packet)) ≡ value_of fields n) of
    direction h
    (subst (λ (bits : List Bool). AllByRecursion
    (λ n. take (bits_of (mirrored direction n))
    (drop (place_of direction (mirrored direction n)) bits) ≡ value_of fields
    (mirrored direction n)) (fields_of_stack of)) (sym e)
    (pieces-values_in direction fields (fields_of_stack of) 0 (8 * header_size of) [] rest
    (span-headers of direction h) (widths-are of direction fields size h none) refl))

is_number-value : (width number : ℕ) (o : Option (List Bool)) → is_number width number o ≡ true
    → bits_value (unwrap_or o []) ≡ number
is_number-value width number None e = absurd (false≢true e)
is_number-value width number (Some value) e =
    eqb-true (bits_value value) number
    (and_parts (length value == width) (bits_value value == number) e).1

has_number-value : (fields : List FieldValue) (name : FieldName) (number : ℕ)
    → not (has_number fields name number) ≡ false → bits_value (value_of fields name) ≡ number
has_number-value fields name number e =
    is_number-value (bits_of name) number (value_in fields name)
    (not-false (has_number fields name number) e)

-- a piece with this value has this number
piece-number : (place width number : ℕ) (packet : List ℕ) (value : List Bool)
    → piece place width packet ≡ value → bits_value value ≡ number
    → number_in place width packet ≡ number
unfolding number_in
piece-number place width number packet value e v = ap bits_value e ∙ v

joined-ip : (direction : Direction) (packet : List ℕ) (fields : List FieldValue) (size : ℕ)
    → NoneHeld stack.Ip direction fields size → length packet ≡ 40 + size
    → AllByRecursion (λ n. piece (place_of direction n) (bits_of n) packet ≡ value_of fields n)
    (fields_of_stack stack.Ip) → IsIpv6 packet
joined-ip direction packet fields size none l a =
    let right = first_held-none (value_refusals stack.Ip fields size) none.right in
    record {
      header = omega arith;
      version =
          piece-number 0 4 6 packet (value_of fields IpVersion) a.0
          (has_number-value fields IpVersion 6 right.0);
      payload_length =
          rw (piece-number 32 16 size packet (value_of fields IpPayloadLength) a.1.1.1.0
          (has_number-value fields IpPayloadLength size right.1.1.0))
          (omega arith);
    }

joined-udp : (direction : Direction) (packet : List ℕ) (fields : List FieldValue) (size : ℕ)
    → NoneHeld stack.IpUdp direction fields size → length packet ≡ 48 + size
    → AllByRecursion (λ n. piece (place_of direction n) (bits_of n) packet ≡ value_of fields n)
    (fields_of_stack stack.IpUdp) → IsUdp packet
joined-udp direction packet fields size none l a =
    let right = first_held-none (value_refusals stack.IpUdp fields size) none.right in
    record {
      ipv6 =
          record {
            header = omega arith;
            version =
                piece-number 0 4 6 packet (value_of fields IpVersion) a.0
                (has_number-value fields IpVersion 6 right.0);
            payload_length =
                rw (piece-number 32 16 (8 + size) packet (value_of fields IpPayloadLength) a.1.1.1.0
                (has_number-value fields IpPayloadLength (8 + size) right.1.1.1.0))
                (omega arith);
          };
      next_header =
          piece-number 48 8 17 packet (value_of fields IpNextHeader) a.1.1.1.1.0
          (has_number-value fields IpNextHeader 17 right.1.0);
      header = omega arith;
      udp_length =
          rw (piece-number 352 16 (8 + size) packet (value_of fields UdpLength)
          a.1.1.1.1.1.1.1.1.1.1.1.1.0
          (has_number-value fields UdpLength (8 + size) right.1.1.1.1.0))
          (omega arith);
    }

joined-packet : (of : Stack) (direction : Direction) (packet : List ℕ) (fields : List FieldValue)
    (size : ℕ) → IsWithoutCoap of → NoneHeld of direction fields size
    → length packet ≡ header_size of + size
    → AllByRecursion (λ n. piece (place_of direction n) (bits_of n) packet ≡ value_of fields n)
    (fields_of_stack of) → IsPacketOf of packet
joined-packet stack.Ip direction packet fields size h none l a =
    joined-ip direction packet fields size none l a
joined-packet stack.IpUdp direction packet fields size h none l a =
    joined-udp direction packet fields size none l a
joined-packet stack.IpUdpCoap direction packet fields size h none l a = absurd h

pub length-header_bits : (of : Stack) (direction : Direction) (fields : List FieldValue) (size : ℕ)
    → IsWithoutCoap of → NoneHeld of direction fields size
    → length (values_in direction fields (fields_of_stack of)) ≡ 8 * header_size of
length-header_bits of direction fields size h none =
    omega (
      arith,
      length-values_in direction fields (fields_of_stack of) 0 (8 * header_size of)
          (span-headers of direction h) (widths-are of direction fields size h none),
    )

length-header_bytes : (of : Stack) (bits : List Bool) → length bits ≡ 8 * header_size of
    → length (bytes_of (padded bits)) ≡ header_size of
length-header_bytes of bits l =
    let whole : length bits % 8 ≡ 0 = omega arith in
    rw (padded-whole bits whole, length-bytes_of bits, l) (omega arith)

-- the packet that is joined: its fields are those that were given
pub joined-fields : (of : Stack) (direction : Direction) (fields : List FieldValue)
    (payload : List ℕ) → IsWithoutCoap of → join_refusal of direction fields (length payload) ≡ None
    → FieldsOf of direction (bytes_of (padded (header_bits of direction fields)) ++ payload) fields
    (header_size of)
unfolding header_bits fields_in
joined-fields of direction fields payload h e =
    let none : NoneHeld of direction fields (length payload) =
    join_refusal-none of direction fields (length payload) e in
    let bits : List Bool = values_in direction fields (fields_of_stack of) in
    let long : length bits ≡ 8 * header_size of =
    length-header_bits of direction fields (length payload) h none in
    let whole : length bits % 8 ≡ 0 = omega arith in
    let written : octets (bytes_of (padded bits) ++ payload) ≡ bits ++ octets payload =
    octets-append (bytes_of (padded bits)) payload
    ∙ ap (λ (x : List Bool). x ++ octets payload)
    (octets-bytes_of-padded bits ∙ padded-whole bits whole)
    in
    let pieces =
    pieces-are of direction (bytes_of (padded bits) ++ payload) fields (octets payload)
    (length payload) h none written in
    let size : length (bytes_of (padded bits) ++ payload) ≡ header_size of + length payload =
    rw (length-append (bytes_of (padded bits)) payload, length-header_bytes of bits long)
    in
    record {
      is_packet =
          joined-packet of direction (bytes_of (padded bits) ++ payload) fields (length payload) h
          none size pieces;
      its_fields =
          fields-are of direction fields (length payload) h none
          ∙ same_fields direction (bytes_of (padded bits) ++ payload) fields
          (fields_in_packet_order of direction)
          (to-packet-order
          (λ n. piece (place_of direction n) (bits_of n)
          (bytes_of (padded bits) ++ payload) ≡ value_of fields n) of direction h pieces);
      its_payload = refl;
    }

-- and its payload is the one that was given
pub joined-payload : (of : Stack) (direction : Direction) (fields : List FieldValue)
    (payload : List ℕ) → IsWithoutCoap of → join_refusal of direction fields (length payload) ≡ None
    → drop (header_size of)
    (bytes_of (padded (header_bits of direction fields)) ++ payload) ≡ payload
unfolding header_bits
joined-payload of direction fields payload h e =
    let none : NoneHeld of direction fields (length payload) =
    join_refusal-none of direction fields (length payload) e in
    let bits : List Bool = values_in direction fields (fields_of_stack of) in
    drop_at (bytes_of (padded bits)) payload (header_size of)
    (length-header_bytes of bits
    (length-header_bits of direction fields (length payload) h none))

bytes_append : (front back : List ℕ) → AreBytes front → AreBytes back → AreBytes (front ++ back)
bytes_append [] back a b = b
bytes_append (byte ∷ front) back a b = (a.0, bytes_append front back a.1 b)

-- each item of the packet is a byte
pub joined-bytes : (bits : List Bool) (payload : List ℕ) → AreBytes payload
    → AreBytes (bytes_of bits ++ payload)
joined-bytes bits payload h = bytes_append (bytes_of bits) payload (AreBytes-bytes_of bits) h
