-- A packet with CoAP that is made of restored fields.
use Rattle.std.specs.Prelude.{ℕ, ◌≡◌, ◌≢◌, ◌+◌, ◌-◌, Bool, true, false, ◌&&◌, ◌||◌, if◌then◌else◌}
use Rattle.std.specs.Prelude.{List, ◌++◌, length, drop, None, AllPairs, Contains}
use Rattle.std.proofs.Common.{arith, ap, refl, sym, ◌∙◌, subst, inl, inr}
use Rattle.std.proofs.lemmas.Bool.{cases_Bool, and_parts, and_from, true≢false, false≢true}
use Rattle.std.proofs.lemmas.Bool.{false_from_ne_true}
use Rattle.std.proofs.lemmas.List.{length-drop, drop-drop}
use Rattle.std.proofs.lemmas.List.Elements.{Contains-append_left, Contains-append_right}
use Rattle.std.proofs.lemmas.List.Elements.{Contains-append_cases}
use Rattle.schc_bits.specs.Bits.{number_bits, AreBytes}
use Rattle.schc_ids.specs.declared.ends.Direction.{Direction}
use Rattle.schc_ids.specs.declared.names.FieldAt.{FieldAt}
use Rattle.schc_ids.specs.declared.names.FieldName.{FieldName}
use Rattle.schc_ids.specs.declared.names.FieldName.TheVariants.{IpPayloadLength, UdpLength}
use Rattle.schc_ids.specs.declared.names.FieldName.TheVariants.{UdpChecksum, CoapVersion, CoapType}
use Rattle.schc_ids.specs.declared.names.FieldName.TheVariants.{CoapTkl, CoapCode, CoapMid}
use Rattle.schc_ids.specs.declared.names.FieldName.TheVariants.{CoapToken, CoapOption}
use Rattle.schc_ids.specs.declared.names.Layer.TheVariants as layer
use Rattle.schc_ids.specs.declared.names.Stack.{Stack}
use Rattle.schc_ids.specs.declared.names.Stack.TheVariants as stack
use Rattle.schc_ids.specs.Ends.{covers}
use Rattle.schc_ids.specs.Names.{layer_of, same_layer, same_name, fields_of_stack}
use Rattle.schc_ids.proofs.NamesLemmas.{same_name-true}
use Rattle.rule_model.specs.declared.rule.Action.TheVariants.{Compute}
use Rattle.rule_model.specs.declared.value.FieldValue.{FieldValue}
use Rattle.rule_model.specs.Data.{EntryData, RuleData}
use Rattle.rule_model.specs.Cover.{covered, field_of, stack_of, is_compute, computes_checksum}
use Rattle.rule_model.specs.Findings.{is_computed_by, IsAdmitted}
use Rattle.rule_model.specs.First.{first_held}
use Rattle.rule_model.specs.Matches.{IsSameSet}
use Rattle.rule_model.specs.Residue.{value_of}
use Rattle.rule_model.proofs.EntryRowsLemmas.{EntryHolds-from_IsAdmitted}
use Rattle.decompress.proofs.LawLemmas.{unfilter, value_of-own, passes-at}
use Rattle.ip_udp_fields.specs.Layout.{fields_in_packet_order}
use Rattle.ip_udp_fields.specs.Fields.{at_name, fields_in, FieldsOf}
use Rattle.ip_udp_fields.specs.Checksum.{checksum_of}
use Rattle.ip_udp_fields.specs.Join.{value_refusals}
use Rattle.ip_udp_fields.proofs.OrderLemmas.{with_value}
use Rattle.coap_fields.specs.Fields.{MessageOf}
use Rattle.coap_fields.specs.Join.{join_refusal, message_from}
use Rattle.coap_fields.proofs.MadeLemmas.{made-fields, made-payload, made-bytes}
use Rattle.packer.specs.Packets.{IsCoapPacket, PacketOf}
use Rattle.packer.specs.Schc.{is_computed_checksum}
use Rattle.packer.specs.Ordering.{is_of_coap, message_fields}
use Rattle.packer.specs.Unpacking.{filled_value, size_after, filled_headers, body_of}
use Rattle.packer.specs.Unpacking.{headers_and_payload, fixed_headers, packet_around, packet_of}
use Rattle.packer.specs.Rebuilding.{AreRestored}
use Rattle.packer.proofs.PacketOrderLemmas.{to-order, from-order}
use Rattle.packer.proofs.CoverLemmas.{Contains-map, passes-some, some-passes, same_entry}
use Rattle.packer.proofs.CoverLemmas.{udp-listed, no-option, first-position}
use Rattle.packer.proofs.rebuilt.JoinedLemmas.{listed, AreFound, AreWide, found-listed}
use Rattle.packer.proofs.rebuilt.JoinedLemmas.{value_refusals-same, joined-listed}
use Rattle.packer.proofs.rebuilt.RestoredHeadersLemmas.{header_values}
use Rattle.packer.proofs.rebuilt.HeadLemmas.{Heads, Heads-from_reads, heads-value, heads-found}
use Rattle.packer.proofs.rebuilt.HeadLemmas.{heads-wide}
use Rattle.packer.proofs.reading.KeptLemmas.{is_compute-true}
use Rattle.packer.proofs.rebuilt.MadeLemmas.{final, HasValues, summed_if, made-values, made_value}
use Rattle.packer.proofs.rebuilt.MadeLemmas.{and-true, and-false, chosen}
use Rattle.packer.proofs.PacketFieldsLemmas.{Contains-unmap}
use Rattle.packer.proofs.rebuilt.PutLemmas.{IsPut}
use Rattle.packer.proofs.coap.SizedCoapLemmas.{once-coap}
use Rattle.packer.proofs.coap.SortLemmas.{message-member, member-message}

-- what is computed isn't of CoAP
pub coap-uncomputed : (name : FieldName) → same_layer (layer_of name) layer.Coap ≡ true
    → (same_name name UdpChecksum ≡ false)
    × ((same_name name IpPayloadLength || same_name name UdpLength) ≡ false)
coap-uncomputed CoapVersion h = (refl, refl)
coap-uncomputed CoapType h = (refl, refl)
coap-uncomputed CoapTkl h = (refl, refl)
coap-uncomputed CoapCode h = (refl, refl)
coap-uncomputed CoapMid h = (refl, refl)
coap-uncomputed CoapToken h = (refl, refl)
coap-uncomputed (CoapOption number) h = (refl, refl)
coap-uncomputed _ h = absurd (false≢true h)

coap_made_value : (checksum size : ℕ) (e : EntryData) (value : List Bool)
    → same_layer (layer_of e.name) layer.Coap ≡ true → made_value checksum size e value ≡ value
coap_made_value checksum size e value h =
    let none = coap-uncomputed e.name h in
    rw (none.0, none.1, and-false (is_compute e.action)) refl

computed_among : (name : FieldName) → is_computed_by Compute name ≡ true
    → Contains (fields_of_stack stack.IpUdpCoap) name
computed_among IpPayloadLength h = (3, omega arith, refl)
computed_among UdpLength h = (12, omega arith, refl)
computed_among UdpChecksum h = (13, omega arith, refl)
computed_among _ h = absurd (false≢true h)

-- what is computed has its place in the headers
pub computed-coap : (rule : RuleData) (direction : Direction) (e : EntryData)
    → stack_of rule ≡ stack.IpUdpCoap → IsAdmitted rule → Contains (covered rule direction) e
    → is_compute e.action ≡ true → Contains (fields_of_stack (stack_of rule)) e.name
computed-coap rule direction e s admitted among c =
    subst (λ (of : Stack). Contains (fields_of_stack of) e.name) (sym s)
    (computed_among e.name
    (subst (λ a. is_computed_by a e.name ≡ true) (is_compute-true e.action c)
    (passes-at rule direction admitted e among).computed))

-- a packet that was made, and of what
pub record IsCoapPut (rule : RuleData) (direction : Direction) (fields : List FieldValue)
    (payload packet : List ℕ) : Type 0 where
  pub put : IsPut rule direction fields payload packet
  pub is_udp : FieldsOf stack.IpUdp direction packet (fields_in stack.IpUdp direction packet) 48
  pub body : drop 48 packet ≡ message_from (message_fields fields) payload
  pub fields_are : put.its_fields ≡ fields_in stack.IpUdp direction packet ++ message_fields fields
  pub from_is : put.from ≡ 48 + (length (message_from (message_fields fields) payload) - length
      payload)

module _ (rule : RuleData) (direction : Direction) (fields : List FieldValue) (payload : List ℕ)
    (s : stack_of rule ≡ stack.IpUdpCoap) (admitted : IsAdmitted rule)
    (restored : AreRestored rule direction fields) (same : IsSameSet rule direction fields)
    (once : AllPairs (λ f g. f.at ≢ g.at) fields)
    (none : join_refusal (message_fields fields) ≡ None) (bytes : AreBytes payload) where
  abbrev message : List FieldValue
  message = message_fields fields

  abbrev body : List ℕ
  body = message_from message payload

  abbrev headers : List FieldValue
  headers = filled_headers rule direction fields (length body)

  abbrev values : FieldName → List Bool
  values = header_values rule direction fields (length body)

  abbrev names : List FieldName
  names = fields_of_stack stack.IpUdp

  heads : Heads rule direction
  heads = Heads-from_reads rule direction admitted restored.reading

  fixed : fixed_headers (stack_of rule) ≡ stack.IpUdp
  fixed = ap fixed_headers s

  found : AreFound stack.IpUdp values headers
  found = subst (λ of. AreFound of values headers) fixed
      (heads-found rule direction fields (length body) heads)

  wide : AreWide stack.IpUdp values
  wide = subst (λ of. AreWide of values) fixed
      (heads-wide rule direction fields (length body) heads restored)

  head_entry : (n : FieldName) → Contains names n → (e : EntryData)
      × Contains (covered rule direction) e × (field_of e ≡ at_name n)
  head_entry n among =
      heads.each_name n (subst (λ (of : Stack). Contains (fields_of_stack of) n) (sym fixed) among)

  entry_head : (e : EntryData) → Contains (covered rule direction) e
      → same_layer (layer_of e.name) layer.Coap ≡ false → Contains names e.name
      × (field_of e ≡ at_name e.name)
  entry_head e among h =
      let some = passes-some (same_name e.name) names (udp-listed e.name h) in
      let holds =
      EntryHolds-from_IsAdmitted rule admitted e
      (unfilter (λ d. covers d.direction direction) rule.entries e among).0 in (
        subst (Contains names) (sym (same_name-true e.name some.0 some.2)) some.1,
        first-position e holds.shape (no-option e.name stack.IpUdp tt (udp-listed e.name h)),
      )

  checksum_choice : (e : EntryData) → Contains (covered rule direction) e
      → (computes_checksum rule direction && same_name e.name UdpChecksum) ≡ is_computed_checksum e
  checksum_choice e among =
      elim (cases_Bool (same_name e.name UdpChecksum)) [
        | inl t ↦
            let name : e.name ≡ UdpChecksum = same_name-true e.name UdpChecksum t in
            let choice : computes_checksum rule direction ≡ is_compute e.action =
            elim (cases_Bool (is_compute e.action)) [
              | inl c ↦
                  some-passes (λ d. same_name d.name UdpChecksum && is_compute d.action)
                  (covered rule direction) e among
                  (and_from (same_name e.name UdpChecksum) (is_compute e.action) t c) ∙ sym c
              | inr c ↦
                  false_from_ne_true (computes_checksum rule direction)
                  (λ computes.
                  let d = passes-some (λ d. same_name d.name UdpChecksum && is_compute d.action)
                  (covered rule direction) computes in
                  let parts =
                  and_parts (same_name d.0.name UdpChecksum) (is_compute d.0.action) d.2 in
                  let other : d.0.name ≡ UdpChecksum =
                  same_name-true d.0.name UdpChecksum parts.0 in
                  let place : field_of d.0 ≡ field_of e =
                  (entry_head d.0 d.1 (ap (λ n. same_layer (layer_of n) layer.Coap) other)).1
                  ∙ ap at_name (other ∙ sym name)
                  ∙ sym (entry_head e among (ap (λ n. same_layer (layer_of n) layer.Coap) name)).1
                  in
                  let one : d.0 ≡ e =
                  same_entry direction rule.entries d.0 e heads.apart d.1 among place in
                  true≢false
                  (sym (subst (λ (x : EntryData). is_compute x.action ≡ true) one parts.1) ∙ c))
                  ∙ sym c
            ]
            in
            rw t (and-true (computes_checksum rule direction) ∙ choice)
        | inr f ↦ rw f (and-false (computes_checksum rule direction))
      ]

  abbrev made : List ℕ
  made = summed_if (computes_checksum rule direction)
      (headers_and_payload stack.IpUdp direction (listed stack.IpUdp direction values) body)

  packet_is : packet_of rule direction fields payload ≡ made
  unfolding packet_around
  packet_is =
      ap (λ of. packet_around rule direction fields (body_of of fields payload)) s
      ∙ ap (λ of. summed_if (computes_checksum rule direction)
      (headers_and_payload of direction headers body)) fixed
      ∙ ap (λ (packet : List ℕ). summed_if (computes_checksum rule direction) packet)
      (joined-listed stack.IpUdp direction values headers body tt found)

  has : first_held (value_refusals (stack_of rule) headers (length body)) ≡ None
      → HasValues stack.IpUdp direction
      (final (computes_checksum rule direction) (checksum_of made) values) body made
  has right =
      let own : first_held (value_refusals stack.IpUdp headers (length body)) ≡ None =
      ap (λ of. first_held (value_refusals of headers (length body))) (sym s) ∙ right in
      made-values stack.IpUdp direction (computes_checksum rule direction) values body tt
      (λ c. refl) wide
      (ap first_held
      (value_refusals-same stack.IpUdp values (listed stack.IpUdp direction values) headers
      (length body) tt (found-listed stack.IpUdp direction values tt) found) ∙ own)
      (made-bytes message payload bytes none)

  module _ (packet : List ℕ)
      (h : HasValues stack.IpUdp direction
      (final (computes_checksum rule direction) (checksum_of packet) values) body packet) where
    abbrev all : FieldName → List Bool
    all = final (computes_checksum rule direction) (checksum_of packet) values

    abbrev its : List FieldValue
    its = listed stack.IpUdp direction all ++ message

    abbrev place : ℕ
    place = length body - length payload

    is_coap : IsCoapPacket direction packet its (48 + place)
    is_coap =
        record {
          message_fields = message;
          message_from = place;
          is_udp = h.is_packet.is_packet;
          its_message =
              subst (λ (b : List ℕ). MessageOf b message place) (sym h.its_payload)
              (made-fields message payload bytes none);
          its_fields = ap (λ (hs : List FieldValue). hs ++ message) h.is_packet.its_fields;
          its_payload = refl;
        }

    its_once : AllPairs (λ f g. f.at ≢ g.at) its
    its_once = once-coap direction packet its (48 + place) is_coap

    size : size_after (stack_of rule) (length body) ≡ length packet - 40
    size =
        let eight : size_after (stack_of rule) (length body) ≡ 8 + length body =
        ap (λ of. size_after of (length body)) s in
        let count : length packet - 48 ≡ length body = sym (length-drop 48 packet)
        ∙ ap (λ (b : List ℕ). length b) h.its_payload in
        omega (arith, eight, count, h.is_packet.is_packet.header)

    of_coap : (e : EntryData) (f : FieldValue) → field_of e ≡ f.at
        → same_layer (layer_of e.name) layer.Coap ≡ true → is_of_coap f ≡ true
    of_coap e f at c = ap (λ (x : FieldAt). same_layer (layer_of x.name) layer.Coap) (sym at) ∙ c

    its_value : (e : EntryData) → Contains (covered rule direction) e
        → value_of its (field_of e) ≡ made_value (checksum_of packet) (length packet - 40) e
        (value_of fields (field_of e))
    its_value e among =
        elim (cases_Bool (same_layer (layer_of e.name) layer.Coap)) [
          | inl c ↦
              let f = same.each_entry e among in
              let own : Contains its f.0 =
              Contains-append_right (listed stack.IpUdp direction all) message f.0
              (member-message fields f.0 f.1 (of_coap e f.0 f.2 c)) in
              ap (value_of its) f.2 ∙ value_of-own its f.0 its_once own
              ∙ sym (ap (value_of fields) f.2 ∙ value_of-own fields f.0 once f.1)
              ∙ sym (coap_made_value (checksum_of packet) (length packet - 40) e
              (value_of fields (field_of e)) c)
          | inr n ↦
              let head = entry_head e among n in
              let there : Contains its (with_value all e.name) =
              Contains-append_left (listed stack.IpUdp direction all) message
              (with_value all e.name)
              (Contains-map (with_value all) (fields_in_packet_order stack.IpUdp direction)
              e.name (to-order stack.IpUdp direction e.name tt head.0)) in
              let own : values e.name ≡ filled_value (length packet - 40) e
              (value_of fields (field_of e)) =
              ap (value_of headers) (sym head.1)
              ∙ heads-value rule direction fields (length body) e heads among
              ∙ ap (λ n. filled_value n e (value_of fields (field_of e))) size
              in
              ap (value_of its) head.1
              ∙ value_of-own its (with_value all e.name) its_once there
              ∙ chosen (computes_checksum rule direction) (same_name e.name UdpChecksum)
              (number_bits 16 (checksum_of packet)) (values e.name)
              ∙ ap (λ b. if b then number_bits 16 (checksum_of packet) else values e.name)
              (checksum_choice e among)
              ∙ ap (λ (bits : List Bool). if is_computed_checksum e then number_bits 16
              (checksum_of packet) else bits) own
        ]

    its_set : IsSameSet rule direction its
    its_set =
        record {
          each_field = λ f among.
              elim (Contains-append_cases (listed stack.IpUdp direction all) message f among) [
                | inl here ↦
                    let n = Contains-unmap (with_value all)
                    (fields_in_packet_order stack.IpUdp direction) f here in
                    let e = head_entry n.0 (from-order stack.IpUdp direction n.0 tt n.1) in
                    (e.0, e.1, e.2 ∙ ap (λ (g : FieldValue). g.at) n.2)
                | inr there ↦ same.each_field f (message-member fields f there).0
              ];
          each_entry = λ e among.
              elim (cases_Bool (same_layer (layer_of e.name) layer.Coap)) [
                | inl c ↦
                    let f = same.each_entry e among in (
                      f.0,
                      Contains-append_right (listed stack.IpUdp direction all) message f.0
                          (member-message fields f.0 f.1 (of_coap e f.0 f.2 c)),
                      f.2,
                    )
                | inr n ↦
                    let head = entry_head e among n in (
                      with_value all e.name,
                      Contains-append_left (listed stack.IpUdp direction all)
                          message (with_value all e.name)
                          (Contains-map (with_value all)
                          (fields_in_packet_order stack.IpUdp direction) e.name
                          (to-order stack.IpUdp direction e.name tt head.0)),
                      head.1,
                    )
              ];
        }

    coap-put_of : IsCoapPut rule direction fields payload packet
    coap-put_of =
        record {
          put = record {
            its_fields = its;
            from = 48 + place;
            is_packet =
                subst (λ (of : Stack). PacketOf of direction packet its (48 + place)) (sym s)
                is_coap;
            its_payload = sym (drop-drop place 48 packet)
                ∙ ap (λ (b : List ℕ). drop place b) h.its_payload ∙ made-payload message payload;
            bytes = h.bytes;
            same_set = its_set;
            once = its_once;
            values = its_value;
            computed = λ e among c. computed-coap rule direction e s admitted among c;
          };
          is_udp =
              record { is_packet = h.is_packet.is_packet; its_fields = refl; its_payload = refl };
          body = h.its_payload;
          fields_are = ap (λ (hs : List FieldValue). hs ++ message) h.is_packet.its_fields;
          from_is = refl;
        }

  -- where no value is refused, the headers and the message are put together as a packet with CoAP
  pub coap-put : first_held (value_refusals (stack_of rule) headers (length body)) ≡ None
      → IsCoapPut rule direction fields payload (packet_of rule direction fields payload)
  coap-put right =
      subst (IsCoapPut rule direction fields payload) (sym packet_is) (coap-put_of made (has right))
