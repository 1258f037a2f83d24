-- What was written of a packet with CoAP that an admitted rule matches is read back: as the packet
-- that the other end restores.
use Rattle.std.specs.Prelude.{ℕ, ◌≡◌, ◌≢◌, ◌+◌, ◌-◌, ◌≤◌, zero, suc, Bool, true, false, not, List}
use Rattle.std.specs.Prelude.{[], ◌∷◌, ◌++◌, length, drop, map, Option, Some, None, is_some, Ok}
use Rattle.std.specs.Prelude.{All, AllPairs, Contains, IfSome}
use Rattle.std.proofs.Common.{arith, ap, refl, sym, ◌∙◌, subst, inl, inr}
use Rattle.std.proofs.lemmas.Bool.{cases_Bool, true≢false, false≢true}
use Rattle.std.proofs.lemmas.List.{append-nil, length-drop, drop-drop, map-append}
use Rattle.std.proofs.lemmas.List.Elements.{Contains-append_left, Contains-append_right}
use Rattle.std.proofs.lemmas.List.Elements.{Contains-append_cases, All-contains}
use Rattle.schc_bits.specs.Bits.{number_bits, octets, bytes_of, AreBytes}
use Rattle.schc_bits.proofs.Octets.{bytes_of-octets-append, bytes_of-short}
use Rattle.schc_ids.specs.declared.ends.Direction.{Direction}
use Rattle.schc_ids.specs.declared.ends.Iids.{Iids}
use Rattle.schc_ids.specs.declared.names.FieldAt.{FieldAt}
use Rattle.schc_ids.specs.declared.names.FieldName.{FieldName}
use Rattle.schc_ids.specs.declared.names.FieldName.TheVariants.{IpVersion, IpPayloadLength}
use Rattle.schc_ids.specs.declared.names.FieldName.TheVariants.{IpNextHeader, UdpLength}
use Rattle.schc_ids.specs.declared.names.FieldName.TheVariants.{UdpChecksum, CoapVersion, CoapType}
use Rattle.schc_ids.specs.declared.names.FieldName.TheVariants.{CoapTkl, CoapCode, CoapMid}
use Rattle.schc_ids.specs.declared.names.FieldName.TheVariants.{CoapToken, CoapOption}
use Rattle.schc_ids.specs.declared.names.Layer.TheVariants as layer
use Rattle.schc_ids.specs.declared.names.Stack.{Stack}
use Rattle.schc_ids.specs.declared.names.Stack.TheVariants as stack
use Rattle.schc_ids.specs.Names.{layer_of, same_layer, same_name, width_of, ip_fields, udp_fields}
use Rattle.schc_ids.specs.Names.{coap_fields, fields_of_stack}
use Rattle.schc_ids.proofs.NamesLemmas.{same_name-itself}
use Rattle.rule_model.specs.declared.rule.Action.TheVariants.{Compute}
use Rattle.rule_model.specs.declared.value.FieldValue.{FieldValue}
use Rattle.rule_model.specs.declared.value.Computed.{Computed}
use Rattle.rule_model.specs.Data.{EntryData, RuleData}
use Rattle.rule_model.specs.Cover.{covered, field_of, has_field, stack_of, is_lossy, is_compute}
use Rattle.rule_model.specs.Findings.{is_needed, is_computed_by, IsAdmitted}
use Rattle.rule_model.specs.First.{first_held}
use Rattle.rule_model.specs.Matches.{Matches, IsSameSet}
use Rattle.rule_model.specs.Residue.{value_of, residue_of, restored_value, restored_fields}
use Rattle.rule_model.specs.Residue.{WidthHolds, IsSized}
use Rattle.rule_model.specs.Tests.{operator_holds}
use Rattle.rule_model.proofs.FirstLemmas.{first_held-append_none}
use Rattle.rule_model.proofs.EntryRowsLemmas.{AreApart, AreApart-from_IsAdmitted}
use Rattle.decompress.specs.Reading.{restore_at}
use Rattle.decompress.specs.Stands.{Stands}
use Rattle.decompress.proofs.LawLemmas.{all-at, passes-at, Stands-from_read, value_of-own}
use Rattle.decompress.proofs.MatchedLemmas.{reads_back, restored_value-agrees}
use Rattle.ip_udp_fields.specs.Layout.{fields_in_packet_order}
use Rattle.ip_udp_fields.specs.Fields.{at_name, field_in, fields_in, FieldsOf}
use Rattle.ip_udp_fields.specs.Checksum.{checksum_of}
use Rattle.ip_udp_fields.specs.Join.{value_in, other_number, too_many, value_refusals}
use Rattle.ip_udp_fields.proofs.JoinLemmas.{join_refusal-none}
use Rattle.ip_udp_fields.proofs.SplitLemmas.{joins-again}
use Rattle.coap_fields.specs.Message.{Message}
use Rattle.coap_fields.specs.Fields.{field, fields_of_message}
use Rattle.coap_fields.specs.Join.{join_refusal, message_from}
use Rattle.coap_fields.proofs.SizeLemmas.{none-wrong}
use Rattle.coap_fields.proofs.AgainLemmas.{joins-again as message-joins-again, makes-again}
use Rattle.packer.specs.Packets.{IsCoapPacket, PacketOf, computed_over}
use Rattle.packer.specs.Schc.{is_computed_checksum, IsRestored}
use Rattle.packer.specs.Ordering.{message_fields}
use Rattle.packer.specs.Unpacking.{operator_fault, wrong_field, value_faults, filled_value}
use Rattle.packer.specs.Unpacking.{size_after, filled_headers, body_of, packet_around, packet_of}
use Rattle.packer.specs.Unpacking.{packet_or, rebuilt, rebuilt_from, fixed_headers, reads}
use Rattle.packer.specs.Rebuilding.{AreRestored, packet_behind_headers, front_tests, header_tests}
use Rattle.packer.specs.Rebuilding.{message_tests, made_tests}
use Rattle.packer.proofs.FirstPartsLemmas.{append-none}
use Rattle.packer.proofs.coap.AscendLemmas.{AscendsAfter}
use Rattle.packer.proofs.coap.OrderedLemmas.{message-ascends}
use Rattle.packer.proofs.coap.SortLemmas.{message-member, member-message, message-ordered}
use Rattle.packer.proofs.coap.AlikeLemmas.{IsAlike, AreAlike, alike-from, alike-ats, refusals-alike}
use Rattle.packer.proofs.coap.AlikeLemmas.{length-alike}
use Rattle.packer.proofs.rebuilt.ListedLemmas.{coap-listed-none}
use Rattle.packer.proofs.rebuilt.FilledLemmas.{header_tests-none, message_tests-none, rebuilt-made}
use Rattle.packer.proofs.rebuilt.FilledLemmas.{coap-made}
use Rattle.packer.proofs.CoverLemmas.{each-passes, some-passes, mapped-value, value_in-there}
use Rattle.packer.proofs.HeaderFieldsLemmas.{is_below_coap, fields-below}
use Rattle.packer.proofs.HeadersLemmas.{from-within}
use Rattle.packer.proofs.coap.MessageFieldsLemmas.{message-above}
use Rattle.packer.proofs.rebuilt.RestoredHeadersLemmas.{header_values}
use Rattle.packer.proofs.rebuilt.HeadLemmas.{Heads, Heads-from_reads, heads-value, heads-found}
use Rattle.packer.proofs.rebuilt.MadeLemmas.{AreRestored-from_Stands, made_value}
use Rattle.packer.proofs.PacketFieldsLemmas.{field-named, once-fields}
use Rattle.packer.proofs.writing.SizedFieldsLemmas.{sized-packet}
use Rattle.packer.proofs.coap.SizedCoapLemmas.{once-coap}
use Rattle.packer.proofs.reading.KeptLemmas.{is_compute-true, filled-kept, holds-restored}
use Rattle.packer.proofs.reading.KeptLemmas.{agrees-at, needed-kept, none-held}
use Rattle.packer.proofs.rebuilt.PutLemmas.{same-restored}
use Rattle.packer.proofs.coap.CoapPutLemmas.{IsCoapPut, computed-coap, coap-put}
use Rattle.packer.proofs.reading.RestoredLemmas.{value_refusals-by, ats, made-kept, IsReadBack}

-- each message has these fields
coap_there : (m : Message) (name : FieldName) → Contains coap_fields name → (g : FieldValue)
    × Contains (fields_of_message m) g × (g.at.name ≡ name)
unfolding fields_of_message
coap_there m name (zero, b, e) = (field CoapVersion (number_bits 2 1), (0, omega arith, refl), e)
coap_there m name (suc zero, b, e) =
    (field CoapType (number_bits 2 m.kind), (1, omega arith, refl), e)
coap_there m name (suc (suc zero), b, e) =
    (field CoapTkl (number_bits 4 (length m.token)), (2, omega arith, refl), e)
coap_there m name (suc (suc (suc zero)), b, e) =
    (field CoapCode (number_bits 8 m.code), (3, omega arith, refl), e)
coap_there m name (suc (suc (suc (suc zero))), b, e) =
    (field CoapMid (number_bits 16 m.id), (4, omega arith, refl), e)
coap_there m name (suc (suc (suc (suc (suc k)))), b, e) = absurd (omega (arith, b))

-- a packet with a CoAP message is one of UDP too, whose payload begins at byte 48
pub udp-of : (direction : Direction) (packet : List ℕ) (fields : List FieldValue) (from : ℕ)
    → IsCoapPacket direction packet fields from
    → FieldsOf stack.IpUdp direction packet (fields_in stack.IpUdp direction packet) 48
udp-of direction packet fields from p =
    record { is_packet = p.is_udp; its_fields = refl; its_payload = refl }

-- a field of the headers
pub head-field : (direction : Direction) (packet : List ℕ) (fields : List FieldValue) (from : ℕ)
    (name : FieldName) → IsCoapPacket direction packet fields from
    → Contains (fields_of_stack stack.IpUdp) name → Contains fields (field_in direction packet name)
head-field direction packet fields from name p among =
    subst (λ (all : List FieldValue). Contains all (field_in direction packet name))
    (sym p.its_fields)
    (Contains-append_left (fields_in stack.IpUdp direction packet) p.message_fields
    (field_in direction packet name)
    (field-named stack.IpUdp direction packet (fields_in stack.IpUdp direction packet) 48 name
    (udp-of direction packet fields from p) among))

-- a field of the message
pub message-field : (direction : Direction) (packet : List ℕ) (fields : List FieldValue) (from : ℕ)
    (g : FieldValue) → (p : IsCoapPacket direction packet fields from) → Contains p.message_fields g
    → Contains fields g
message-field direction packet fields from g p among =
    subst (λ (all : List FieldValue). Contains all g) (sym p.its_fields)
    (Contains-append_right (fields_in stack.IpUdp direction packet) p.message_fields g among)

-- a name that isn't below CoAP
pub above-coap : (name : FieldName) → is_below_coap name ≡ false
    → same_layer (layer_of name) layer.Coap ≡ true
above-coap CoapVersion h = refl
above-coap CoapType h = refl
above-coap CoapTkl h = refl
above-coap CoapCode h = refl
above-coap CoapMid h = refl
above-coap CoapToken h = refl
above-coap (CoapOption number) h = refl
above-coap _ h = absurd (true≢false h)

-- which is one of CoAP
pub message-coap : (direction : Direction) (packet : List ℕ) (fields : List FieldValue) (from : ℕ)
    (g : FieldValue) → (p : IsCoapPacket direction packet fields from) → Contains p.message_fields g
    → same_layer (layer_of g.at.name) layer.Coap ≡ true
message-coap direction packet fields from g p among =
    above-coap g.at.name
    (All-contains (λ f. is_below_coap f.at.name ≡ false) p.message_fields g
    (subst (λ (all : List FieldValue). All (λ f. is_below_coap f.at.name ≡ false) all)
    (sym p.its_message.its_fields) (message-above p.its_message.message)) among)

has_name : (rule : RuleData) (iids : Iids) (direction : Direction) (fields : List FieldValue)
    (computed : Computed) (name : FieldName) (f : FieldValue)
    → Matches rule iids direction fields computed → Contains fields f → f.at.name ≡ name
    → has_field rule direction name ≡ true
has_name rule iids direction fields computed name f matches among is =
    let e = matches.same_set.each_field f among in
    some-passes (λ d. same_name d.name name) (covered rule direction) e.0 e.1
    (subst (λ n. same_name n name ≡ true) (sym (ap (λ (at : FieldAt). at.name) e.2 ∙ is))
    (same_name-itself name))

-- a rule that matches a packet with CoAP reads packets of its direction
pub reads-coap : (rule : RuleData) (iids : Iids) (direction : Direction) (packet : List ℕ)
    (fields : List FieldValue) (from : ℕ) (computed : Computed) → stack_of rule ≡ stack.IpUdpCoap
    → IsCoapPacket direction packet fields from → Matches rule iids direction fields computed
    → reads rule direction ≡ true
reads-coap rule iids direction packet fields from computed s p matches =
    each-passes (has_field rule direction) (fields_of_stack (stack_of rule))
    (λ name among.
    elim (Contains-append_cases (ip_fields ++ udp_fields) coap_fields name
    (subst (λ (of : Stack). Contains (fields_of_stack of) name) s among)) [
      | inl head ↦ has_name rule iids direction fields computed name
          (field_in direction packet name) matches
          (head-field direction packet fields from name p head) refl
      | inr coap ↦
          let g = coap_there p.its_message.message name coap in
          has_name rule iids direction fields computed name g.0 matches
          (message-field direction packet fields from g.0 p
          (subst (λ (all : List FieldValue). Contains all g.0) (sym p.its_message.its_fields)
          g.1)) g.2
    ])

-- the fields of the headers
heads_below : (direction : Direction) (packet : List ℕ)
    → All (λ f. is_below_coap f.at.name ≡ true) (fields_in stack.IpUdp direction packet)
unfolding fields_in
heads_below direction packet = fields-below stack.IpUdp direction packet tt

coap_not_computed : (name : FieldName) → same_layer (layer_of name) layer.Coap ≡ true
    → is_computed_by Compute name ≡ false
coap_not_computed CoapVersion h = refl
coap_not_computed CoapType h = refl
coap_not_computed CoapTkl h = refl
coap_not_computed CoapCode h = refl
coap_not_computed CoapMid h = refl
coap_not_computed CoapToken h = refl
coap_not_computed (CoapOption number) h = refl
coap_not_computed _ h = absurd (false≢true h)

below-coap : (name : FieldName) → is_below_coap name ≡ true
    → same_layer (layer_of name) layer.Coap ≡ true → ⊥
below-coap CoapVersion h c = false≢true h
below-coap CoapType h c = false≢true h
below-coap CoapTkl h c = false≢true h
below-coap CoapCode h c = false≢true h
below-coap CoapMid h c = false≢true h
below-coap CoapToken h c = false≢true h
below-coap (CoapOption number) h c = false≢true h
below-coap _ h c = false≢true c

-- a field that may be dropped has a width
unneeded_width : (name : FieldName) → is_needed name ≡ false
    → same_layer (layer_of name) layer.Coap ≡ true → is_some (width_of name) ≡ true
unneeded_width CoapVersion h c = absurd (true≢false h)
unneeded_width CoapType h c = refl
unneeded_width CoapTkl h c = absurd (true≢false h)
unneeded_width CoapCode h c = refl
unneeded_width CoapMid h c = refl
unneeded_width CoapToken h c = absurd (true≢false h)
unneeded_width (CoapOption number) h c = absurd (true≢false h)
unneeded_width _ h c = absurd (false≢true c)

width_one : (o : Option ℕ) (a b : List Bool) → is_some o ≡ true
    → IfSome o (λ width. length a ≡ width) → IfSome o (λ width. length b ≡ width)
    → length a ≡ length b
width_one None a b h x y = absurd (false≢true h)
width_one (Some width) a b h x y = x ∙ sym y

module _ (rule : RuleData) (iids : Iids) (direction : Direction) (packet : List ℕ)
    (fields : List FieldValue) (from : ℕ) (s : stack_of rule ≡ stack.IpUdpCoap)
    (admitted : IsAdmitted rule) (p : IsCoapPacket direction packet fields from)
    (matches : Matches rule iids direction fields (computed_over (stack_of rule) packet)) where
  abbrev computed : Computed
  computed = computed_over (stack_of rule) packet

  abbrev again : List FieldValue
  again = restored_fields rule iids direction fields

  abbrev payload : List ℕ
  payload = drop from packet

  abbrev mine : List FieldValue
  mine = message_fields again

  abbrev body : List ℕ
  body = message_from mine payload

  abbrev heads_of : List FieldValue
  heads_of = fields_in stack.IpUdp direction packet

  is_packet : PacketOf (stack_of rule) direction packet fields from
  is_packet = subst (λ (of : Stack). PacketOf of direction packet fields from) (sym s) p

  reading : reads rule direction ≡ true
  reading = reads-coap rule iids direction packet fields from computed s p matches

  apart : AreApart rule.entries
  apart = AreApart-from_IsAdmitted rule admitted

  own_once : AllPairs (λ f g. f.at ≢ g.at) fields
  own_once = once-coap direction packet fields from p

  sized : IsSized rule direction fields
  sized = sized-packet rule iids direction (stack_of rule) packet fields from computed admitted
      is_packet matches

  restored : (e : EntryData) → Contains (covered rule direction) e
      → value_of again (field_of e) ≡ restored_value iids e (value_of fields (field_of e))
  restored e among =
      mapped-value rule direction (λ d. restored_value iids d (value_of fields (field_of d))) e
      apart among

  no_operator : first_held (map (operator_fault again) (covered rule direction)) ≡ None
  no_operator =
      none-held (operator_fault again) (covered rule direction)
      (λ e among.
      ap not
      (ap (operator_holds e.operator e.targets) (restored e among)
      ∙ holds-restored iids (stack_of rule) computed e (value_of fields (field_of e))
      (passes-at rule direction admitted e among)
      (agrees-at rule iids direction fields computed e matches among)))

  reads_fields : (rest : List Bool)
      → restore_at rule iids direction (residue_of rule direction fields ++ rest) ≡ Ok (again, rest)
  reads_fields rest = reads_back rule iids direction fields computed rest admitted matches sized

  stands : Stands rule iids direction again (residue_of rule direction fields ++ []) []
  stands =
      Stands-from_read rule iids direction again (residue_of rule direction fields ++ []) []
      admitted (reads_fields [])

  can_be_made : AreRestored rule direction again
  can_be_made =
      AreRestored-from_Stands rule iids direction again (residue_of rule direction fields ++ []) []
      reading stands

  once : AllPairs (λ f g. f.at ≢ g.at) again
  once = stands.sized.each_once

  same : IsSameSet rule direction again
  same = same-restored rule iids direction again stands.restored

  uncomputed : (e : EntryData) → Contains (covered rule direction) e
      → is_computed_by Compute e.name ≡ false → is_compute e.action ≡ false
  uncomputed e among h =
      elim (cases_Bool (is_compute e.action)) [
        | inl c ↦
            absurd (true≢false
            (sym (subst (λ a. is_computed_by a e.name ≡ true) (is_compute-true e.action c)
            (passes-at rule direction admitted e among).computed) ∙ h))
        | inr n ↦ n
      ]

  -- a needed value that isn't computed is restored
  kept : (e : EntryData) → Contains (covered rule direction) e
      → is_computed_by Compute e.name ≡ false → is_needed e.name ≡ true
      → value_of again (field_of e) ≡ value_of fields (field_of e)
  kept e among c needed =
      restored e among
      ∙ restored_value-agrees iids computed e (value_of fields (field_of e))
      (passes-at rule direction admitted e among).pair
      (needed-kept rule direction e admitted among needed) (uncomputed e among c)
      (agrees-at rule iids direction fields computed e matches among)

  there : (f : FieldValue) → Contains mine f → (g : FieldValue) × Contains p.message_fields g
      × (f.at ≡ g.at)
  there f among =
      let member = message-member again f among in
      let e = same.each_field f member.0 in
      let g = matches.same_set.each_entry e.0 e.1 in
      let at : f.at ≡ g.0.at = sym e.2 ∙ g.2 in
      elim (Contains-append_cases heads_of p.message_fields g.0
      (subst (λ (all : List FieldValue). Contains all g.0) p.its_fields g.1)) [
        | inl head ↦
            absurd (below-coap g.0.at.name
            (All-contains (λ f. is_below_coap f.at.name ≡ true) heads_of g.0
            (heads_below direction packet) head)
            (ap (λ (x : FieldAt). same_layer (layer_of x.name) layer.Coap) (sym at) ∙ member.1))
        | inr mine ↦ (g.0, mine, at)
      ]

  back : (g : FieldValue) → Contains p.message_fields g → (f : FieldValue) × Contains mine f
      × (g.at ≡ f.at)
  back g among =
      let e = matches.same_set.each_field g (message-field direction packet fields from g p among)
      in
      let f = same.each_entry e.0 e.1 in
      let at : g.at ≡ f.0.at = sym e.2 ∙ f.2 in (
        f.0,
        member-message again f.0 f.1
            (ap (λ (x : FieldAt). same_layer (layer_of x.name) layer.Coap) (sym at)
            ∙ message-coap direction packet fields from g p among),
        at,
      )

  like : (f g : FieldValue) → Contains mine f → Contains p.message_fields g → f.at ≡ g.at
      → IsAlike f g
  like f g m n at =
      let member = message-member again f m in
      let among : Contains fields g = message-field direction packet fields from g p n in
      let e = matches.same_set.each_field g among in
      let name : e.0.name ≡ f.at.name = ap (λ (x : FieldAt). x.name) (e.2 ∙ sym at) in
      let coap : same_layer (layer_of e.0.name) layer.Coap ≡ true =
      ap (λ n. same_layer (layer_of n) layer.Coap) name ∙ member.1 in
      let of_f : value_of again (field_of e.0) ≡ f.value = ap (value_of again) (e.2 ∙ sym at)
      ∙ value_of-own again f once member.0 in
      let of_g : value_of fields (field_of e.0) ≡ g.value = ap (value_of fields) e.2
      ∙ value_of-own fields g own_once among in
      let value : is_needed f.at.name ≡ true → f.value ≡ g.value = λ needed. sym of_f
      ∙ kept e.0 e.1 (coap_not_computed e.0.name coap) (ap is_needed name ∙ needed) ∙ of_g in
      record {
        at = at;
        wide =
            elim (cases_Bool (is_needed f.at.name)) [
              | inl needed ↦ ap (λ (bits : List Bool). length bits) (value needed)
              | inr free ↦
                  width_one (width_of f.at.name) f.value g.value
                  (unneeded_width f.at.name free member.1) (stands.sized.width_holds f member.0)
                  (subst (λ (x : FieldAt). WidthHolds x.name g.value) (sym at)
                  (sized.width_holds g among))
            ];
        value = value;
      }

  alike : AreAlike mine p.message_fields
  alike =
      alike-from 0 0 mine p.message_fields (message-ordered again once)
      (subst (AscendsAfter 0 0) (sym p.its_message.its_fields)
      (message-ascends p.its_message.message p.its_message.is_message)) there back like

  joins : join_refusal mine ≡ None
  unfolding join_refusal
  joins = ap first_held (refusals-alike mine p.message_fields alike)
      ∙ message-joins-again (drop 48 packet) p.message_fields p.message_from p.its_message

  payload_is : payload ≡ drop p.message_from (drop 48 packet)
  payload_is = ap (λ n. drop n packet) p.its_payload ∙ sym (drop-drop p.message_from 48 packet)

  body_size : length body ≡ length (drop 48 packet)
  body_size =
      length-alike mine p.message_fields payload alike
      ∙ ap (λ (bytes : List ℕ). length (message_from p.message_fields bytes)) payload_is
      ∙ ap (λ (bytes : List ℕ). length bytes)
      (makes-again (drop 48 packet) p.message_fields p.message_from p.its_message)

  size : size_after (stack_of rule) (length body) ≡ length packet - 40
  size =
      let eight : size_after (stack_of rule) (length body) ≡ 8 + length body =
      ap (λ of. size_after of (length body)) s in
      omega (arith, eight, body_size, length-drop 48 packet, p.is_udp.header)

  heads : Heads rule direction
  heads = Heads-from_reads rule direction admitted reading

  abbrev names : List FieldName
  names = fields_of_stack stack.IpUdp

  head_entry : (n : FieldName) → Contains names n → (e : EntryData)
      × Contains (covered rule direction) e × (field_of e ≡ at_name n)
  head_entry n among =
      heads.each_name n
      (subst (λ (of : Stack). Contains (fields_of_stack of) n) (sym (ap fixed_headers s)) among)

  -- the value of a name in the packet's headers
  own_head : (n : FieldName) → Contains names n
      → value_in heads_of n ≡ Some (value_of fields (at_name n))
  own_head n among =
      let udp : FieldsOf stack.IpUdp direction packet heads_of 48 =
      udp-of direction packet fields from p in
      let f : Contains heads_of (field_in direction packet n) =
      field-named stack.IpUdp direction packet heads_of 48 n udp among in
      value_in-there heads_of n (field_in direction packet n) f refl
      ∙ ap Some
      (value_of-own heads_of (field_in direction packet n)
      (once-fields stack.IpUdp direction packet heads_of 48 udp) f
      ∙ sym (value_of-own fields (field_in direction packet n) own_once
      (head-field direction packet fields from n p among)))

  front_kept : (n : FieldName) → Contains names n → is_needed n ≡ true
      → is_computed_by Compute n ≡ false → value_in again n ≡ value_in heads_of n
  front_kept n among needed free =
      let e = head_entry n among in
      let name : e.0.name ≡ n = ap (λ (at : FieldAt). at.name) e.2 in
      let f = same.each_entry e.0 e.1 in
      value_in-there again n f.0 f.1 (sym f.2 ∙ e.2)
      ∙ ap Some
      (ap (value_of again) (sym e.2)
      ∙ kept e.0 e.1 (ap (is_computed_by Compute) name ∙ free) (ap is_needed name ∙ needed)
      ∙ ap (value_of fields) e.2)
      ∙ sym (own_head n among)

  own_right : first_held (value_refusals stack.IpUdp heads_of (length (drop 48 packet))) ≡ None
  own_right =
      (join_refusal-none stack.IpUdp direction heads_of (length (drop 48 packet))
      (joins-again stack.IpUdp direction packet heads_of 48
      (udp-of direction packet fields from p))).right

  front : first_held (front_tests again) ≡ None
  front =
      let n : ℕ = length (drop 48 packet) in
      rw (
        front_kept IpVersion (0, omega arith, refl) refl refl,
        front_kept IpNextHeader
            (4, omega arith, refl) refl refl,
      )
      (append-none (front_tests heads_of)
      (too_many (8 + n) ∷ other_number heads_of IpPayloadLength (8 + n) ∷ other_number heads_of
      UdpLength (8 + n) ∷ []) own_right).0

  abbrev headers : List FieldValue
  headers = filled_headers rule direction again (length body)

  header_kept : (n : FieldName) → Contains names n → is_needed n ≡ true
      → same_name n UdpChecksum ≡ false → value_in headers n ≡ value_in heads_of n
  header_kept n among needed other =
      let e = head_entry n among in
      let name : e.0.name ≡ n = ap (λ (at : FieldAt). at.name) e.2 in
      let lossy : is_lossy e.0.operator e.0.action ≡ false =
      needed-kept rule direction e.0 admitted e.1 (ap is_needed name ∙ needed) in
      let checksum : is_computed_checksum e.0 ≡ false = rw (name, other) refl in
      let value : header_values rule direction again (length body) n ≡ value_of fields (at_name n) =
      ap (value_of headers) (sym e.2)
      ∙ heads-value rule direction again (length body) e.0 heads e.1
      ∙ ap (λ m. filled_value m e.0 (value_of again (field_of e.0))) size
      ∙ ap (filled_value (length packet - 40) e.0) (restored e.0 e.1)
      ∙ filled-kept iids (stack_of rule) packet e.0 (value_of fields (field_of e.0))
      (passes-at rule direction admitted e.0 e.1)
      (λ c. computed-coap rule direction e.0 s admitted e.1 c)
      (agrees-at rule iids direction fields computed e.0 matches e.1) lossy checksum
      ∙ ap (value_of fields) e.2
      in
      all-at (λ m. value_in headers m ≡ Some (header_values rule direction again (length body) m))
      (fields_of_stack (fixed_headers (stack_of rule)))
      (heads-found rule direction again (length body) heads) n
      (subst (λ (of : Stack). Contains (fields_of_stack of) n) (sym (ap fixed_headers s)) among)
      ∙ ap Some value
      ∙ sym (own_head n among)

  right-coap : first_held (value_refusals stack.IpUdpCoap headers (length body)) ≡ None
  right-coap =
      ap first_held (value_refusals-by stack.IpUdp headers heads_of (length body) tt header_kept)
      ∙ ap (λ n. first_held (value_refusals stack.IpUdp heads_of n)) body_size
      ∙ own_right

  right : first_held (value_refusals (stack_of rule) headers (length body)) ≡ None
  right = ap (λ of. first_held (value_refusals of headers (length body))) s ∙ right-coap

  messaged : first_held (message_tests stack.IpUdpCoap again) ≡ None
  messaged = message_tests-none again front (none-wrong mine joins)

  -- nothing is wrong with what is tried, and nothing with what is listed
  as_listed : first_held
      (made_tests rule direction again (body_of (stack_of rule) again payload)) ≡ first_held
      (map (λ condition. (condition.0, wrong_field condition.1))
      (value_faults rule direction again (length (body_of (stack_of rule) again payload))))
  as_listed =
      ap (λ of. first_held (made_tests rule direction again (body_of of again payload))) s
      ∙ ap (λ of. first_held (message_tests of again ++ header_tests of headers (length body))) s
      ∙ first_held-append_none (message_tests stack.IpUdpCoap again)
      (header_tests stack.IpUdpCoap headers (length body)) messaged
      ∙ header_tests-none stack.IpUdpCoap headers (length body) right-coap
      ∙ sym (coap-listed-none rule direction again admitted can_be_made body s messaged right-coap)
      ∙ ap (λ of. first_held
      (map (λ condition. (condition.0, wrong_field condition.1))
      (value_faults rule direction again (length (body_of of again payload))))) (sym s)

  rebuilt-restored : rebuilt rule direction again payload ≡ Ok
      (packet_of rule direction again payload)
  unfolding packet_behind_headers
  rebuilt-restored =
      rebuilt-made rule direction again payload no_operator as_listed
      ∙ coap-made rule direction again payload body s messaged refl
      ∙ ap (λ found. packet_or found (packet_around rule direction again body))
      (header_tests-none (stack_of rule) headers (length body) right)
      ∙ ap (λ of. Ok (packet_around rule direction again (body_of of again payload))) (sym s)

  made : AreBytes payload
      → IsCoapPut rule direction again payload (packet_of rule direction again payload)
  made bytes =
      coap-put rule direction again payload s admitted can_be_made same once joins bytes right

  same-fields : (packet' : List ℕ)
      → map (λ (f : FieldValue). f.at) (fields_in stack.IpUdp direction packet' ++ mine) ≡ map
      (λ (f : FieldValue). f.at) fields
  unfolding fields_in
  same-fields packet' =
      map-append (λ (f : FieldValue). f.at) (fields_in stack.IpUdp direction packet') mine
      ∙ ap (λ (xs : List FieldAt). xs ++ map (λ (f : FieldValue). f.at) mine)
      (ats direction packet' (fields_in_packet_order stack.IpUdp direction)
      ∙ sym (ats direction packet (fields_in_packet_order stack.IpUdp direction)))
      ∙ ap (λ (xs : List FieldAt). map (λ (f : FieldValue). f.at) heads_of ++ xs)
      (alike-ats mine p.message_fields alike)
      ∙ sym (map-append (λ (f : FieldValue). f.at) heads_of p.message_fields)
      ∙ ap (map (λ (f : FieldValue). f.at)) (sym p.its_fields)

  IsRestored-from_put : (packet' : List ℕ) → IsCoapPut rule direction again payload packet'
      → IsRestored rule direction packet packet'
  IsRestored-from_put packet' m =
      let within : from ≤ length packet =
      from-within (stack_of rule) direction packet fields from is_packet in
      let place : m.put.from ≡ from =
      omega (
        arith,
        m.from_is,
        body_size,
        length-drop 48 packet,
        length-drop from packet,
        p.its_payload,
        within,
      )
      in
      let same_size : length packet' - 40 ≡ length packet - 40 =
      omega (
        arith,
        ap (λ (b : List ℕ). length b) m.body,
        length-drop 48 packet',
        body_size,
        length-drop 48 packet,
        p.is_udp.header,
        m.is_udp.is_packet.header,
      )
      in
      record {
        fields = fields;
        restored_fields = m.put.its_fields;
        payload_from = from;
        is_packet = is_packet;
        is_restored =
            subst (λ n. PacketOf (stack_of rule) direction packet' m.put.its_fields n) place
            m.put.is_packet;
        same_fields = ap (map (λ (f : FieldValue). f.at)) m.fields_are ∙ same-fields packet';
        same_payload = ap (λ n. drop n packet') (sym place) ∙ m.put.its_payload;
        values = λ e among.
            m.put.values e among
            ∙ ap (λ n. made_value (checksum_of packet') n e (value_of again (field_of e))) same_size
            ∙ ap (made_value (checksum_of packet') (length packet - 40) e) (restored e among)
            ∙ made-kept iids (stack_of rule) packet e (value_of fields (field_of e))
            (checksum_of packet') (passes-at rule direction admitted e among)
            (λ c. computed-coap rule direction e s admitted among c)
            (agrees-at rule iids direction fields computed e matches among);
      }

  read-restored : (padding : List Bool) → AreBytes payload → length padding ≤ 7
      → rebuilt_from rule direction
      (restore_at rule iids direction
      (residue_of rule direction fields ++ (octets payload ++ padding))) ≡ Ok
      (packet_of rule direction again payload)
  read-restored padding bytes short =
      let whole : bytes_of (octets payload ++ padding) ≡ payload =
      bytes_of-octets-append payload padding bytes
      ∙ ap (λ (rest : List ℕ). payload ++ rest) (bytes_of-short padding (omega (arith, short)))
      ∙ append-nil payload
      in
      ap (rebuilt_from rule direction) (reads_fields (octets payload ++ padding))
      ∙ ap (rebuilt rule direction again) whole ∙ rebuilt-restored

  -- what a rule over CoAP writes of a packet that it matches is read back, whatever the padding
  pub IsReadBack-coap : (padding : List Bool) → AreBytes payload → length padding ≤ 7
      → IsReadBack rule iids direction packet
      (residue_of rule direction fields ++ (octets payload ++ padding))
  IsReadBack-coap padding bytes short =
      let m = made bytes in
      record {
        restored = packet_of rule direction again payload;
        restores = IsRestored-from_put (packet_of rule direction again payload) m;
        are_bytes = m.put.bytes;
        reading = reading;
        is_read = read-restored padding bytes short;
      }
