-- The packet that is made of restored fields and a payload.
use Rattle.std.specs.Prelude.{ℕ, ◌≡◌, ◌-◌, ◌≤◌, Bool, true, false, ◌&&◌, if◌then◌else◌, List, []}
use Rattle.std.specs.Prelude.{length, drop, Some, None, Contains, unwrap_or}
use Rattle.std.proofs.Common.{arith, ap, refl, sym, ◌∙◌, subst, inl, inr}
use Rattle.std.proofs.lemmas.Bool.{cases_Bool, and_parts, and_from, true≢false, false_from_ne_true}
use Rattle.std.proofs.lemmas.List.{length-drop}
use Rattle.schc_bits.specs.Bits.{number_bits, AreBytes}
use Rattle.schc_ids.specs.declared.ends.Direction.{Direction}
use Rattle.schc_ids.specs.declared.ends.Direction.TheVariants.{Up, Down}
use Rattle.schc_ids.specs.declared.ends.Iids.{Iids}
use Rattle.schc_ids.specs.declared.names.FieldAt.{FieldAt}
use Rattle.schc_ids.specs.declared.names.FieldName.{FieldName}
use Rattle.schc_ids.specs.declared.names.FieldName.TheVariants.{UdpChecksum}
use Rattle.schc_ids.specs.declared.names.Stack.{Stack}
use Rattle.schc_ids.specs.declared.names.Stack.TheVariants as stack
use Rattle.schc_ids.specs.Names.{same_name, fields_of_stack}
use Rattle.schc_ids.proofs.NamesLemmas.{same_name-true}
use Rattle.rule_model.specs.declared.value.FieldValue.{FieldValue}
use Rattle.rule_model.specs.Data.{EntryData, RuleData}
use Rattle.rule_model.specs.Cover.{covered, field_of, stack_of, is_compute, computes_checksum}
use Rattle.rule_model.specs.First.{first_held}
use Rattle.rule_model.specs.Residue.{value_of, restored_field, WidthHolds}
use Rattle.decompress.specs.Stands.{Stands}
use Rattle.decompress.proofs.LawLemmas.{all-at, value_of-there}
use Rattle.ip_udp_fields.specs.Layout.{IsWithoutCoap, header_size}
use Rattle.ip_udp_fields.specs.Fields.{at_name, FieldsOf}
use Rattle.ip_udp_fields.specs.Checksum.{checksum_of}
use Rattle.ip_udp_fields.specs.Join.{value_in, value_refusals}
use Rattle.ip_udp_fields.proofs.RefusalLemmas.{header_size-is_packet}
use Rattle.packer.specs.Schc.{is_computed_checksum}
use Rattle.packer.specs.Unpacking.{filled_value, size_after, filled_headers, with_checksum}
use Rattle.packer.specs.Unpacking.{headers_and_payload, packet_of, reads}
use Rattle.packer.specs.Rebuilding.{AreRestored}
use Rattle.packer.proofs.rebuilt.PlainLemmas.{packet_of-plain}
use Rattle.packer.proofs.CoverLemmas.{Contains-map, passes-some, some-passes, same_entry}
use Rattle.packer.proofs.CoverLemmas.{value_of-value_in, Covers}
use Rattle.packer.proofs.rebuilt.JoinedLemmas.{listed, AreFound, AreWide, found-listed}
use Rattle.packer.proofs.rebuilt.JoinedLemmas.{value_refusals-same, joined-listed, joined-packet}
use Rattle.packer.proofs.rebuilt.JoinedLemmas.{joined-rest, AreBytes-joined}
use Rattle.packer.proofs.rebuilt.ChecksumLemmas.{summed, summed-wide, with_checksum-listed}
use Rattle.packer.proofs.rebuilt.ChecksumLemmas.{checksum-with_checksum}
use Rattle.packer.proofs.rebuilt.RestoredHeadersLemmas.{header_values, headers-value, headers-found}
use Rattle.packer.proofs.rebuilt.RestoredHeadersLemmas.{headers-wide, computes-stack}

-- what stands in the bits can be made a packet
pub AreRestored-from_Stands : (rule : RuleData) (iids : Iids) (direction : Direction)
    (fields : List FieldValue) (bits rest : List Bool) → reads rule direction ≡ true
    → Stands rule iids direction fields bits rest → AreRestored rule direction fields
AreRestored-from_Stands rule iids direction fields bits rest r stands =
    record {
      reading = r;
      iids = iids;
      bits = bits;
      rest = rest;
      stands = stands;
      widths = λ e among.
          let own : Contains fields (restored_field iids fields e) =
          subst (λ (all : List FieldValue). Contains all (restored_field iids fields e))
          (sym stands.restored)
          (Contains-map (restored_field iids fields) (covered rule direction) e among)
          in
          let g = value_of-there fields (restored_field iids fields e) own in
          subst (WidthHolds e.name) (sym g.3)
          (subst (λ (at : FieldAt). WidthHolds at.name g.0.value) g.2
          (stands.sized.width_holds g.0 g.1));
    }

-- the values, with the checksum that is computed
abbrev pub final : Bool → ℕ → (FieldName → List Bool) → FieldName → List Bool
final computes checksum values name = if computes then summed checksum values name else values name

-- a packet with these values and this payload
pub record HasValues (of : Stack) (direction : Direction) (values : FieldName → List Bool)
    (payload packet : List ℕ) : Type 0 where
  pub is_packet : FieldsOf of direction packet (listed of direction values) (header_size of)
  pub its_payload : drop (header_size of) packet ≡ payload
  pub bytes : AreBytes packet

-- the packet, with its UDP checksum made anew where that is computed
abbrev pub summed_if : Bool → List ℕ → List ℕ
summed_if computes packet = if computes then with_checksum packet else packet

-- the checksum isn't asked of
value_refusals_summed : (direction : Direction) (checksum size : ℕ) (values : FieldName → List Bool)
    → value_refusals stack.IpUdp (listed stack.IpUdp direction values) size ≡ value_refusals
    stack.IpUdp (listed stack.IpUdp direction (summed checksum values)) size
value_refusals_summed Up checksum size values = refl
value_refusals_summed Down checksum size values = refl

-- the checksum made anew in a packet with UDP
made_summed : (direction : Direction) (values : FieldName → List Bool) (payload : List ℕ)
    → AreWide stack.IpUdp values
    → first_held
    (value_refusals stack.IpUdp (listed stack.IpUdp direction values) (length payload)) ≡ None
    → AreBytes payload
    → HasValues stack.IpUdp direction values payload
    (headers_and_payload stack.IpUdp direction (listed stack.IpUdp direction values) payload)
    → HasValues stack.IpUdp direction
    (summed (checksum_of
    (with_checksum
    (headers_and_payload stack.IpUdp direction (listed stack.IpUdp direction values) payload)))
    values) payload
    (with_checksum
    (headers_and_payload stack.IpUdp direction (listed stack.IpUdp direction values) payload))
made_summed direction values payload w right b h =
    let packet : List ℕ =
    headers_and_payload stack.IpUdp direction (listed stack.IpUdp direction values) payload in
    let checksum : ℕ = checksum_of packet in
    let new : FieldName → List Bool = summed checksum values in
    let wide : AreWide stack.IpUdp new = summed-wide checksum values w in
    let same : with_checksum packet ≡ headers_and_payload stack.IpUdp direction
    (listed stack.IpUdp direction new) payload =
    with_checksum-listed direction values payload w b h.its_payload in
    let own : checksum_of (with_checksum packet) ≡ checksum =
    checksum-with_checksum packet
    (header_size-is_packet stack.IpUdp packet h.is_packet.is_packet) in
    let new_right : first_held
    (value_refusals stack.IpUdp (listed stack.IpUdp direction new) (length payload)) ≡ None =
    ap first_held (sym (value_refusals_summed direction checksum (length payload) values)) ∙ right
    in
    let made : HasValues stack.IpUdp direction new payload
    (headers_and_payload stack.IpUdp direction (listed stack.IpUdp direction new) payload) =
    record {
      is_packet =
          joined-packet stack.IpUdp direction new (listed stack.IpUdp direction new) payload tt
          (found-listed stack.IpUdp direction new tt) wide new_right;
      its_payload =
          joined-rest stack.IpUdp direction new (listed stack.IpUdp direction new) payload tt
          (found-listed stack.IpUdp direction new tt) wide new_right;
      bytes = AreBytes-joined stack.IpUdp direction (listed stack.IpUdp direction new) payload b;
    }
    in
    subst (λ (c : ℕ). HasValues stack.IpUdp direction (summed c values) payload
    (with_checksum packet)) (sym own)
    (subst (HasValues stack.IpUdp direction new payload) (sym same) made)

made_plain : (of : Stack) (direction : Direction) (values : FieldName → List Bool)
    (payload : List ℕ) → IsWithoutCoap of → AreWide of values
    → first_held (value_refusals of (listed of direction values) (length payload)) ≡ None
    → AreBytes payload
    → HasValues of direction values payload
    (headers_and_payload of direction (listed of direction values) payload)
made_plain of direction values payload h w right b =
    record {
      is_packet =
          joined-packet of direction values (listed of direction values) payload h
          (found-listed of direction values h) w right;
      its_payload =
          joined-rest of direction values (listed of direction values) payload h
          (found-listed of direction values h) w right;
      bytes = AreBytes-joined of direction (listed of direction values) payload b;
    }

-- values of the right widths, of which none is wrong, make with the payload a packet that has them,
-- and the checksum of the packet where that is computed
pub made-values : (of : Stack) (direction : Direction) (computes : Bool)
    (values : FieldName → List Bool) (payload : List ℕ) → IsWithoutCoap of
    → (computes ≡ true → of ≡ stack.IpUdp) → AreWide of values
    → first_held (value_refusals of (listed of direction values) (length payload)) ≡ None
    → AreBytes payload
    → HasValues of direction
    (final computes
    (checksum_of
    (summed_if computes (headers_and_payload of direction (listed of direction values) payload)))
    values) payload
    (summed_if computes (headers_and_payload of direction (listed of direction values) payload))
made-values of direction false values payload h s w right b =
    made_plain of direction values payload h w right b
made-values stack.Ip direction true values payload h s w right b =
    let wrong : stack.Ip ≡ stack.IpUdp = s refl in absurd (cc)
made-values stack.IpUdp direction true values payload h s w right b =
    made_summed direction values payload w right b
    (made_plain stack.IpUdp direction values payload tt w right b)
made-values stack.IpUdpCoap direction true values payload h s w right b = absurd h

-- what stands in the packet for an entry
abbrev pub made_value : ℕ → ℕ → EntryData → List Bool → List Bool
made_value checksum size e value =
    if is_computed_checksum e then number_bits 16 checksum else filled_value size e value

-- the packet is made of the fields and the payload
pub record IsMade (rule : RuleData) (direction : Direction) (fields : List FieldValue)
    (payload packet : List ℕ) : Type 0 where
  pub its_fields : List FieldValue
  pub is_packet : FieldsOf (stack_of rule) direction packet its_fields (header_size (stack_of rule))
  pub its_payload : drop (header_size (stack_of rule)) packet ≡ payload
  pub bytes : AreBytes packet
  pub values :
      (e : EntryData) → Contains (covered rule direction) e →
      value_of its_fields (field_of e) ≡ made_value (checksum_of packet) (length packet - 40) e
      (value_of fields (field_of e))

-- nothing holds together with what doesn't
pub and-false : (a : Bool) → (a && false) ≡ false
and-false true = refl
and-false false = refl

-- what holds besides changes nothing
pub and-true : (a : Bool) → (a && true) ≡ a
and-true true = refl
and-true false = refl

-- the checksum is computed where its entry computes it
pub checksum-choice : (rule : RuleData) (direction : Direction) (e : EntryData)
    → Covers rule direction → Contains (covered rule direction) e
    → (computes_checksum rule direction && same_name e.name UdpChecksum) ≡ is_computed_checksum e
checksum-choice rule direction e covers among =
    elim (cases_Bool (same_name e.name UdpChecksum)) [
      | inl t ↦
          let name : e.name ≡ UdpChecksum = same_name-true e.name UdpChecksum t in
          let choice : computes_checksum rule direction ≡ is_compute e.action =
          elim (cases_Bool (is_compute e.action)) [
            | inl c ↦
                some-passes (λ d. same_name d.name UdpChecksum && is_compute d.action)
                (covered rule direction) e among
                (and_from (same_name e.name UdpChecksum) (is_compute e.action) t c) ∙ sym c
            | inr c ↦
                false_from_ne_true (computes_checksum rule direction)
                (λ computes.
                let d = passes-some (λ d. same_name d.name UdpChecksum && is_compute d.action)
                (covered rule direction) computes in
                let parts =
                and_parts (same_name d.0.name UdpChecksum) (is_compute d.0.action) d.2 in
                let same : field_of d.0 ≡ field_of e =
                (covers.each_entry d.0 d.1).1
                ∙ ap at_name (same_name-true d.0.name UdpChecksum parts.0 ∙ sym name)
                ∙ sym (covers.each_entry e among).1
                in
                let one : d.0 ≡ e =
                same_entry direction rule.entries d.0 e covers.apart d.1 among same in
                true≢false
                (sym (subst (λ (x : EntryData). is_compute x.action ≡ true) one parts.1) ∙ c))
                ∙ sym c
          ]
          in
          rw t (and-true (computes_checksum rule direction) ∙ choice)
      | inr f ↦ rw f (and-false (computes_checksum rule direction))
    ]

-- one choice within another, where both else are the same, is the choice of both together
pub chosen : (a b : Bool) (x y : List Bool)
    → (if a then (if b then x else y) else y) ≡ (if a && b then x else y)
chosen true b x y = refl
chosen false b x y = refl

-- without CoAP, as many bytes follow the IPv6 header as the payload has, and with UDP 8 more
pub size-of-payload : (of : Stack) (size all : ℕ) → IsWithoutCoap of → header_size of ≤ all
    → size ≡ all - header_size of → size_after of size ≡ all - 40
size-of-payload stack.Ip size all h l e = e
size-of-payload stack.IpUdp size all h l e = omega (arith, e, l)
size-of-payload stack.IpUdpCoap size all h l e = absurd h

-- the value of a listed name
pub listed-value : (of : Stack) (direction : Direction) (values : FieldName → List Bool)
    (name : FieldName) → IsWithoutCoap of → Contains (fields_of_stack of) name
    → value_of (listed of direction values) (at_name name) ≡ values name
listed-value of direction values name h among =
    value_of-value_in (listed of direction values) name
    ∙ ap (λ o. unwrap_or o [])
    (all-at (λ n. value_in (listed of direction values) n ≡ Some (values n)) (fields_of_stack of)
    (found-listed of direction values h) name among)

IsMade-from_values : (rule : RuleData) (direction : Direction) (fields : List FieldValue)
    (payload packet : List ℕ) → Covers rule direction
    → HasValues (stack_of rule) direction
    (final (computes_checksum rule direction) (checksum_of packet)
    (header_values rule direction fields (length payload))) payload packet
    → IsMade rule direction fields payload packet
IsMade-from_values rule direction fields payload packet covers h =
    let of : Stack = stack_of rule in
    let values : FieldName → List Bool = header_values rule direction fields (length payload) in
    let all : FieldName → List Bool =
    final (computes_checksum rule direction) (checksum_of packet) values in
    let size : size_after of (length payload) ≡ length packet - 40 =
    size-of-payload of (length payload) (length packet) covers.without
    (header_size-is_packet of packet h.is_packet.is_packet)
    (ap (λ (bytes : List ℕ). length bytes) (sym h.its_payload)
    ∙ length-drop (header_size of) packet)
    in
    record {
      its_fields = listed of direction all;
      is_packet = h.is_packet;
      its_payload = h.its_payload;
      bytes = h.bytes;
      values = λ e among.
          let place = covers.each_entry e among in
          let own : values e.name ≡ filled_value (length packet - 40) e
          (value_of fields (field_of e)) =
          ap (value_of (filled_headers rule direction fields (length payload))) (sym place.1)
          ∙ headers-value rule direction fields (length payload) e covers among
          ∙ ap (λ n. filled_value n e (value_of fields (field_of e))) size
          in
          ap (value_of (listed of direction all)) place.1
          ∙ listed-value of direction all e.name covers.without place.0
          ∙ chosen (computes_checksum rule direction) (same_name e.name UdpChecksum)
          (number_bits 16 (checksum_of packet)) (values e.name)
          ∙ ap (λ b. if b then number_bits 16 (checksum_of packet) else values e.name)
          (checksum-choice rule direction e covers among)
          ∙ ap (λ (bits : List Bool). if is_computed_checksum e then number_bits 16
          (checksum_of packet) else bits) own;
    }

-- restored fields whose headers are right make a packet
pub made-packet : (rule : RuleData) (direction : Direction) (fields : List FieldValue)
    (payload : List ℕ) → Covers rule direction → AreRestored rule direction fields
    → first_held
    (value_refusals (stack_of rule) (filled_headers rule direction fields (length payload))
    (length payload)) ≡ None → AreBytes payload
    → IsMade rule direction fields payload (packet_of rule direction fields payload)
made-packet rule direction fields payload covers restored right b =
    let of : Stack = stack_of rule in
    let headers : List FieldValue = filled_headers rule direction fields (length payload) in
    let values : FieldName → List Bool = header_values rule direction fields (length payload) in
    let found : AreFound of values headers =
    headers-found rule direction fields (length payload) covers in
    let right_listed : first_held
    (value_refusals of (listed of direction values) (length payload)) ≡ None =
    ap first_held
    (value_refusals-same of values (listed of direction values) headers (length payload)
    covers.without (found-listed of direction values covers.without) found) ∙ right
    in
    let has =
    made-values of direction (computes_checksum rule direction) values payload covers.without
    (computes-stack rule direction covers)
    (headers-wide rule direction fields (length payload) covers restored) right_listed b in
    subst (IsMade rule direction fields payload)
    (ap (λ (packet : List ℕ). summed_if (computes_checksum rule direction) packet)
    (sym (joined-listed of direction values headers payload covers.without found))
    ∙ sym (packet_of-plain rule direction fields payload covers.without))
    (IsMade-from_values rule direction fields payload
    (summed_if (computes_checksum rule direction)
    (headers_and_payload of direction (listed of direction values) payload)) covers has)
