-- The other end restores one packet.
use Rattle.std.specs.Prelude.{ℕ, ◌≡◌, ◌≤◌, Bool, false, List, [], ◌∷◌, length, take, drop, map}
use Rattle.std.specs.Prelude.{None, Contains}
use Rattle.std.specs.List.{AllByRecursion}
use Rattle.std.proofs.Common.{arith, ap, refl, sym, ◌∙◌, subst, inl, inr}
use Rattle.std.proofs.lemmas.Bool.{cases_Bool}
use Rattle.std.proofs.lemmas.List.{length-drop}
use Rattle.schc_bits.specs.Bits.{octets, AreBytes}
use Rattle.schc_bits.proofs.Octets.{octets-injective}
use Rattle.schc_ids.specs.declared.ends.Direction.{Direction}
use Rattle.schc_ids.specs.declared.names.FieldAt.{FieldAt}
use Rattle.schc_ids.specs.declared.names.FieldName.{FieldName}
use Rattle.schc_ids.specs.declared.names.FieldName.TheVariants.{UdpChecksum}
use Rattle.schc_ids.specs.declared.names.Stack.{Stack}
use Rattle.schc_ids.specs.declared.names.Stack.TheVariants as stack
use Rattle.schc_ids.specs.Names.{same_name, fields_of_stack}
use Rattle.schc_ids.proofs.NamesLemmas.{same_name-true}
use Rattle.rule_model.specs.declared.value.FieldValue.{FieldValue}
use Rattle.rule_model.specs.Data.{EntryData, RuleData}
use Rattle.rule_model.specs.Cover.{field_of, stack_of}
use Rattle.rule_model.specs.First.{first_held}
use Rattle.rule_model.specs.Residue.{value_of}
use Rattle.decompress.proofs.LawLemmas.{all-from}
use Rattle.ip_udp_fields.specs.Layout.{IsWithoutCoap, header_size, fields_in_packet_order}
use Rattle.ip_udp_fields.specs.Fields.{at_name, fields_in, FieldsOf}
use Rattle.ip_udp_fields.specs.Checksum.{checksum_of}
use Rattle.ip_udp_fields.specs.Join.{value_refusals, values_in}
use Rattle.ip_udp_fields.proofs.OrderLemmas.{with_value}
use Rattle.ip_udp_fields.proofs.PlaceLemmas.{fields-within}
use Rattle.ip_udp_fields.proofs.RefusalLemmas.{header_size-is_packet}
use Rattle.ip_udp_fields.proofs.JoinLemmas.{join_refusal-none}
use Rattle.ip_udp_fields.proofs.SplitLemmas.{field_bits, lengths, joins-again, one_packet}
use Rattle.ip_udp_fields.proofs.SplitLemmas.{one-split, without-coap}
use Rattle.packer.specs.Schc.{is_computed_checksum, kept_value, IsRestored}
use Rattle.packer.specs.Unpacking.{headers_and_payload}
use Rattle.packer.proofs.PacketOrderLemmas.{from-order}
use Rattle.packer.proofs.CoverLemmas.{Covers}
use Rattle.packer.proofs.rebuilt.JoinedLemmas.{listed, AreWide, found-listed, joined-packet}
use Rattle.packer.proofs.rebuilt.JoinedLemmas.{joined-rest, AreBytes-joined}
use Rattle.packer.proofs.rebuilt.ChecksumLemmas.{summed, front_names, front-listed, front-same}
use Rattle.packer.proofs.rebuilt.ChecksumLemmas.{checksum-same, AreBytes-take, AreBytes-drop}
use Rattle.packer.proofs.rebuilt.RestoredHeadersLemmas.{udp-stack}
use Rattle.packer.proofs.rebuilt.MadeLemmas.{listed-value}
use Rattle.packer.proofs.PacketFieldsLemmas.{PacketOf-fields}

wide_bits : (of : Stack) (direction : Direction) (packet : List ℕ) (fields : List FieldValue)
    (from : ℕ) → FieldsOf of direction packet fields from → AreWide of (field_bits direction packet)
wide_bits of direction packet fields from p =
    lengths of direction packet (fields_of_stack of) (header_size-is_packet of packet p.is_packet)
    (fields-within of direction (without-coap of packet p.is_packet))

its_bits : (of : Stack) (direction : Direction) (packet : List ℕ) (fields : List FieldValue)
    (from : ℕ) → FieldsOf of direction packet fields from
    → fields ≡ listed of direction (field_bits direction packet)
unfolding fields_in
its_bits of direction packet fields from p = p.its_fields

-- a packet is joined of its values
as_joined : (of : Stack) (direction : Direction) (packet : List ℕ) (fields : List FieldValue)
    (from : ℕ) → FieldsOf of direction packet fields from → AreBytes packet
    → packet ≡ headers_and_payload of direction (listed of direction (field_bits direction packet))
    (drop from packet)
as_joined of direction packet fields from p bytes =
    let h : IsWithoutCoap of = without-coap of packet p.is_packet in
    let values : FieldName → List Bool = field_bits direction packet in
    let same : fields ≡ listed of direction values = its_bits of direction packet fields from p in
    let right : first_held
    (value_refusals of (listed of direction values) (length (drop from packet))) ≡ None =
    subst (λ (all : List FieldValue). first_held
    (value_refusals of all (length (drop from packet))) ≡ None) same
    (join_refusal-none of direction fields (length (drop from packet))
    (joins-again of direction packet fields from p)).right
    in
    let wide : AreWide of values = wide_bits of direction packet fields from p in
    let other =
    joined-packet of direction values (listed of direction values) (drop from packet) h
    (found-listed of direction values h) wide right in
    one_packet of direction packet
    (headers_and_payload of direction (listed of direction values) (drop from packet)) fields
    from (header_size of) bytes
    (AreBytes-joined of direction (listed of direction values) (drop from packet)
    (AreBytes-drop from packet bytes)) p
    (subst (λ (all : List FieldValue). FieldsOf of direction
    (headers_and_payload of direction (listed of direction values) (drop from packet)) all
    (header_size of)) (sym same) other)
    (sym (joined-rest of direction values (listed of direction values) (drop from packet) h
    (found-listed of direction values h) wide right))

listed-same : (v w : FieldName → List Bool) (names : List FieldName)
    → AllByRecursion (λ n. v n ≡ w n) names → map (with_value v) names ≡ map (with_value w) names
listed-same v w [] h = refl
listed-same v w (name ∷ names) h =
    ap (λ (bits : List Bool).
    (let f : FieldValue = record { at = at_name name; value = bits } in f) ∷ map (with_value v)
    names) h.0
    ∙ ap (λ (rest : List FieldValue). with_value w name ∷ rest) (listed-same v w names h.1)

-- values that differ in the checksum alone
summed-same : (v w : FieldName → List Bool) (n : FieldName)
    → (same_name n UdpChecksum ≡ false → v n ≡ w n) → summed 0 v n ≡ summed 0 w n
summed-same v w n h =
    elim (cases_Bool (same_name n UdpChecksum)) [
      | inl t ↦ rw t refl
      | inr f ↦ rw f (h f)
    ]

-- packets with UDP that differ in the checksum alone have one computed checksum
same_checksum : (direction : Direction) (v w : FieldName → List Bool) (payload : List ℕ)
    → AreWide stack.IpUdp v → AreWide stack.IpUdp w → AreBytes payload
    → ((n : FieldName) → Contains (fields_of_stack stack.IpUdp) n → same_name n UdpChecksum ≡ false
    → v n ≡ w n) → (this that : List ℕ) → AreBytes this → AreBytes that
    → this ≡ headers_and_payload stack.IpUdp direction (listed stack.IpUdp direction v) payload
    → that ≡ headers_and_payload stack.IpUdp direction (listed stack.IpUdp direction w) payload
    → 48 ≤ length this → 48 ≤ length that → drop 48 this ≡ drop 48 that
    → checksum_of this ≡ checksum_of that
same_checksum direction v w payload vw ww b h this that a c e f l m rest =
    let lists : listed stack.IpUdp direction (summed 0 v) ≡ listed stack.IpUdp direction
    (summed 0 w) =
    listed-same (summed 0 v) (summed 0 w) (fields_in_packet_order stack.IpUdp direction)
    (all-from (λ n. summed 0 v n ≡ summed 0 w n) (fields_in_packet_order stack.IpUdp direction)
    (λ n among. summed-same v w n (h n (from-order stack.IpUdp direction n tt among))))
    in
    let fronts : values_in direction (listed stack.IpUdp direction v) front_names ≡ values_in
    direction (listed stack.IpUdp direction w) front_names =
    sym (front-same direction 0 v)
    ∙ ap (λ (all : List FieldValue). values_in direction all front_names) lists
    ∙ front-same direction 0 w
    in
    let bits : octets (take 46 this) ≡ octets (take 46 that) =
    ap (λ (bytes : List ℕ). octets (take 46 bytes)) e ∙ front-listed direction v payload vw ∙ fronts
    ∙ sym (front-listed direction w payload ww)
    ∙ ap (λ (bytes : List ℕ). octets (take 46 bytes)) (sym f)
    in
    let front : take 46 this ≡ take 46 that =
    octets-injective (take 46 this) (take 46 that) (AreBytes-take 46 this a)
    (AreBytes-take 46 that c) bits in
    let size : length this ≡ length that =
    omega (
      arith,
      l,
      m,
      length-drop 48 this,
      length-drop 48 that,
      ap
          (λ (bytes : List ℕ). length bytes) rest,
    ) in
    checksum-same this that front rest size

-- but for a computed checksum, what is kept doesn't see it
pub kept-other : (this that : ℕ) (e : EntryData) (value : List Bool)
    → is_computed_checksum e ≡ false → kept_value this e value ≡ kept_value that e value
kept-other this that e value c = rw c refl

-- the value of a name in a restored packet
pub restored-name : (rule : RuleData) (direction : Direction) (packet restored : List ℕ)
    (fields : List FieldValue) (from : ℕ) (r : IsRestored rule direction packet restored)
    → Covers rule direction → FieldsOf (stack_of rule) direction packet fields from
    → (n : FieldName) → Contains (fields_of_stack (stack_of rule)) n → (e : EntryData)
    × (e.name ≡ n)
    × (field_bits direction restored n ≡ kept_value (checksum_of restored) e
    (value_of fields (field_of e)))
restored-name rule direction packet restored fields from r covers p n among =
    let of : Stack = stack_of rule in
    let e = covers.each_name n among in
    let own =
    PacketOf-fields of direction packet r.fields r.payload_from covers.without r.is_packet in
    let made =
    PacketOf-fields of direction restored r.restored_fields r.payload_from covers.without
    r.is_restored in
    let same : r.fields ≡ fields =
    (one-split of direction packet r.fields fields r.payload_from from own p).0 in
    let value : field_bits direction restored n ≡ value_of r.restored_fields (field_of e.0) =
    sym (listed-value of direction (field_bits direction restored) n covers.without among)
    ∙ ap (λ (all : List FieldValue). value_of all (at_name n))
    (sym (its_bits of direction restored r.restored_fields r.payload_from made))
    ∙ ap (value_of r.restored_fields) (sym e.2)
    in (
      e.0,
      ap (λ (at : FieldAt). at.name) e.2,
      value ∙ r.values e.0 e.1
          ∙ ap (λ (all : List FieldValue). kept_value (checksum_of restored) e.0
          (value_of all (field_of e.0))) same,
    )

-- what both packets have of a name
pub record Named (this that : List ℕ) (direction : Direction) (n : FieldName) : Type 0 where
  pub e : EntryData
  pub value : List Bool
  pub is_named : e.name ≡ n
  pub of_this : field_bits direction this n ≡ kept_value (checksum_of this) e value
  pub of_that : field_bits direction that n ≡ kept_value (checksum_of that) e value

others-same : (this that : List ℕ) (direction : Direction) (n : FieldName)
    → Named this that direction n → same_name n UdpChecksum ≡ false
    → field_bits direction this n ≡ field_bits direction that n
others-same this that direction n named f =
    let none : is_computed_checksum named.e ≡ false = rw (named.is_named, f) refl in
    named.of_this ∙ kept-other (checksum_of this) (checksum_of that) named.e named.value none
    ∙ sym named.of_that

sums-same : (of : Stack) (direction : Direction) (this that : List ℕ) (f g : List FieldValue)
    (here there : ℕ) → FieldsOf of direction this f here → FieldsOf of direction that g there
    → drop here this ≡ drop there that → AreBytes this → AreBytes that
    → ((n : FieldName) → Contains (fields_of_stack of) n → Named this that direction n)
    → Contains (fields_of_stack of) UdpChecksum → checksum_of this ≡ checksum_of that
sums-same stack.Ip direction this that f g here there p q rest a b named among =
    let wrong : stack.Ip ≡ stack.IpUdp = udp-stack stack.Ip tt among in absurd (cc)
sums-same stack.IpUdp direction this that f g here there p q rest a b named among =
    same_checksum direction (field_bits direction this) (field_bits direction that) (drop here this)
    (wide_bits stack.IpUdp direction this f here p)
    (wide_bits stack.IpUdp direction that g there q) (AreBytes-drop here this a)
    (λ n m. others-same this that direction n (named n m)) this that a b
    (as_joined stack.IpUdp direction this f here p a)
    (as_joined stack.IpUdp direction that g there q b
    ∙ ap (headers_and_payload stack.IpUdp direction
    (listed stack.IpUdp direction (field_bits direction that))) (sym rest))
    (header_size-is_packet stack.IpUdp this p.is_packet)
    (header_size-is_packet stack.IpUdp that q.is_packet)
    (ap (λ n. drop n this) (sym p.its_payload) ∙ rest ∙ ap (λ n. drop n that) q.its_payload)
sums-same stack.IpUdpCoap direction this that f g here there p q rest a b named among =
    absurd p.is_packet

name-same : (of : Stack) (direction : Direction) (this that : List ℕ) (n : FieldName)
    → Named this that direction n
    → (Contains (fields_of_stack of) UdpChecksum → checksum_of this ≡ checksum_of that)
    → Contains (fields_of_stack of) n → field_bits direction this n ≡ field_bits direction that n
name-same of direction this that n named sums among =
    elim (cases_Bool (same_name n UdpChecksum)) [
      | inl t ↦
          let sum : checksum_of this ≡ checksum_of that =
          sums (subst (Contains (fields_of_stack of)) (same_name-true n UdpChecksum t) among) in
          named.of_this ∙ ap (λ c. kept_value c named.e named.value) sum ∙ sym named.of_that
      | inr f ↦ others-same this that direction n named f
    ]

-- two packets of a stack without CoAP are one where their payloads are the same, and each field of
-- both is what the other end has for one value of one entry
pub one-of : (of : Stack) (direction : Direction) (this that : List ℕ) (f g : List FieldValue)
    (here there : ℕ) → FieldsOf of direction this f here → FieldsOf of direction that g there
    → drop here this ≡ drop there that → AreBytes this → AreBytes that
    → ((n : FieldName) → Contains (fields_of_stack of) n → Named this that direction n)
    → this ≡ that
one-of of direction this that f g here there p q rest a b named =
    let lists : listed of direction (field_bits direction this) ≡ listed of direction
    (field_bits direction that) =
    listed-same (field_bits direction this) (field_bits direction that)
    (fields_in_packet_order of direction)
    (all-from (λ n. field_bits direction this n ≡ field_bits direction that n)
    (fields_in_packet_order of direction)
    (λ n there_in.
    let among : Contains (fields_of_stack of) n =
    from-order of direction n (without-coap of this p.is_packet) there_in in
    name-same of direction this that n (named n among)
    (sums-same of direction this that f g here there p q rest a b named) among))
    in
    as_joined of direction this f here p a
    ∙ ap (λ (all : List FieldValue). headers_and_payload of direction all (drop here this)) lists
    ∙ ap (headers_and_payload of direction (listed of direction (field_bits direction that))) rest
    ∙ sym (as_joined of direction that g there q b)

-- the other end restores one packet
pub one-restored : (rule : RuleData) (direction : Direction) (packet this that : List ℕ)
    (fields : List FieldValue) (from : ℕ) → Covers rule direction
    → FieldsOf (stack_of rule) direction packet fields from → IsRestored rule direction packet this
    → IsRestored rule direction packet that → AreBytes this → AreBytes that → this ≡ that
unfolding restored-name
one-restored rule direction packet this that fields from covers p r s a b =
    let of : Stack = stack_of rule in
    let own =
    PacketOf-fields of direction packet r.fields r.payload_from covers.without r.is_packet in
    let own_too =
    PacketOf-fields of direction packet s.fields s.payload_from covers.without s.is_packet in
    let place : r.payload_from ≡ s.payload_from = own.its_payload ∙ sym own_too.its_payload in
    one-of of direction this that r.restored_fields s.restored_fields r.payload_from s.payload_from
    (PacketOf-fields of direction this r.restored_fields r.payload_from covers.without
    r.is_restored)
    (PacketOf-fields of direction that s.restored_fields s.payload_from covers.without
    s.is_restored)
    (r.same_payload ∙ ap (λ n. drop n packet) place ∙ sym s.same_payload) a b
    (λ n among.
    let first = restored-name rule direction packet this fields from r covers p n among in
    let second = restored-name rule direction packet that fields from s covers p n among in
    record {
      e = first.0;
      value = value_of fields (field_of first.0);
      is_named = first.1;
      of_this = first.2;
      of_that = second.2;
    })
