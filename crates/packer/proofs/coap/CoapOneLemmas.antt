-- The other end restores one packet with CoAP.
use Rattle.std.specs.Prelude.{ℕ, ◌≡◌, Bool, true, false, List, [], ◌∷◌, ◌++◌, drop, map, Contains}
use Rattle.std.proofs.Common.{ap, refl, sym, ◌∙◌, subst}
use Rattle.std.proofs.lemmas.List.{drop-drop}
use Rattle.schc_bits.specs.Bits.{AreBytes}
use Rattle.schc_ids.specs.declared.ends.Direction.{Direction}
use Rattle.schc_ids.specs.declared.ends.Iids.{Iids}
use Rattle.schc_ids.specs.declared.names.FieldAt.{FieldAt}
use Rattle.schc_ids.specs.declared.names.FieldName.{FieldName}
use Rattle.schc_ids.specs.declared.names.Layer.TheVariants as layer
use Rattle.schc_ids.specs.declared.names.Stack.{Stack}
use Rattle.schc_ids.specs.declared.names.Stack.TheVariants as stack
use Rattle.schc_ids.specs.Names.{layer_of, same_layer, fields_of_stack}
use Rattle.rule_model.specs.declared.value.FieldValue.{FieldValue}
use Rattle.rule_model.specs.declared.value.Computed.{Computed}
use Rattle.rule_model.specs.Data.{EntryData, RuleData}
use Rattle.rule_model.specs.Cover.{covered, field_of, stack_of}
use Rattle.rule_model.specs.Matches.{Matches}
use Rattle.rule_model.specs.Residue.{value_of}
use Rattle.rule_model.proofs.SizedLemmas.{Contains-first, Contains-rest}
use Rattle.decompress.proofs.LawLemmas.{value_of-own}
use Rattle.ip_udp_fields.specs.Fields.{field_in, fields_in}
use Rattle.ip_udp_fields.specs.Checksum.{checksum_of}
use Rattle.coap_fields.specs.Fields.{MessageOf}
use Rattle.coap_fields.proofs.AgainLemmas.{one_packet as one_message}
use Rattle.packer.specs.Packets.{IsCoapPacket, PacketOf}
use Rattle.packer.specs.Schc.{is_computed_checksum, kept_value, IsRestored}
use Rattle.packer.proofs.CoverLemmas.{Contains-map}
use Rattle.packer.proofs.PacketFieldsLemmas.{Contains-unmap}
use Rattle.packer.proofs.coap.SizedCoapLemmas.{once-coap}
use Rattle.packer.proofs.SplitLemmas.{packet-both}
use Rattle.packer.proofs.coap.CoapPutLemmas.{coap-uncomputed}
use Rattle.packer.proofs.coap.CoapRestoredLemmas.{udp-of, head-field, message-field, message-coap}
use Rattle.packer.proofs.reading.OneRestoredLemmas.{kept-other, Named, one-of}

abbrev with_at : FieldAt → List Bool → FieldValue
with_at at value = record { at = at; value = value }

-- lists of the same fields with the same values
pub fields-one : (fs gs : List FieldValue)
    → map (λ (f : FieldValue). f.at) fs ≡ map (λ (f : FieldValue). f.at) gs
    → ((f g : FieldValue) → Contains fs f → Contains gs g → f.at ≡ g.at → f.value ≡ g.value)
    → fs ≡ gs
fields-one [] [] e h = refl
fields-one [] (g ∷ gs) e h = absurd (cc)
fields-one (f ∷ fs) [] e h = absurd (cc)
fields-one (f ∷ fs) (g ∷ gs) e h =
    let at : f.at ≡ g.at = cc in
    let rest : map (λ (f : FieldValue). f.at) fs ≡ map (λ (f : FieldValue). f.at) gs = cc in
    let value : f.value ≡ g.value = h f g (Contains-first f fs) (Contains-first g gs) at in
    ap (λ (a : FieldAt). with_at a f.value ∷ fs) at ∙ ap (λ v. with_at g.at v ∷ fs) value
    ∙ ap (λ (xs : List FieldValue). g ∷ xs)
    (fields-one fs gs rest (λ x y m n a. h x y (Contains-rest f fs x m) (Contains-rest g gs y n) a))

-- the fields of the message come after those of the headers
pub message-ats : (direction : Direction) (this that : List ℕ) (fs gs : List FieldValue)
    → map (λ (f : FieldValue). f.at) (fields_in stack.IpUdp direction this ++ fs) ≡ map
    (λ (f : FieldValue). f.at) (fields_in stack.IpUdp direction that ++ gs)
    → map (λ (f : FieldValue). f.at) fs ≡ map (λ (f : FieldValue). f.at) gs
unfolding fields_in
message-ats direction this that fs gs e = ap (λ (ats : List FieldAt). drop 14 ats) e

module _ (rule : RuleData) (iids : Iids) (direction : Direction) (packet this that : List ℕ)
    (fields : List FieldValue) (from : ℕ) (computed : Computed)
    (s : stack_of rule ≡ stack.IpUdpCoap) (p : IsCoapPacket direction packet fields from)
    (matches : Matches rule iids direction fields computed)
    (r : IsRestored rule direction packet this) (t : IsRestored rule direction packet that)
    (a : AreBytes this) (b : AreBytes that) where
  whole : PacketOf (stack_of rule) direction packet fields from
  whole = subst (λ (of : Stack). PacketOf of direction packet fields from) (sym s) p

  first : (r.fields ≡ fields) × (r.payload_from ≡ from)
  first = packet-both (stack_of rule) direction packet r.fields r.payload_from fields from
      r.is_packet whole

  second : (t.fields ≡ fields) × (t.payload_from ≡ from)
  second =
      packet-both (stack_of rule) direction packet t.fields t.payload_from fields from t.is_packet
      whole

  here : IsCoapPacket direction this r.restored_fields r.payload_from
  here = subst (λ (of : Stack). PacketOf of direction this r.restored_fields r.payload_from) s
      r.is_restored

  there : IsCoapPacket direction that t.restored_fields t.payload_from
  there = subst (λ (of : Stack). PacketOf of direction that t.restored_fields t.payload_from) s
      t.is_restored

  ats_this : map (λ (f : FieldValue). f.at) r.restored_fields ≡ map (λ (f : FieldValue). f.at)
      fields
  ats_this = r.same_fields ∙ ap (map (λ (f : FieldValue). f.at)) first.0

  ats_that : map (λ (f : FieldValue). f.at) t.restored_fields ≡ map (λ (f : FieldValue). f.at)
      fields
  ats_that = t.same_fields ∙ ap (map (λ (f : FieldValue). f.at)) second.0

  -- the entry of a field
  entry : (f : FieldValue) → Contains r.restored_fields f → (e : EntryData)
      × Contains (covered rule direction) e × (field_of e ≡ f.at)
  entry f among =
      let g = Contains-unmap (λ (f : FieldValue). f.at) fields f.at
      (subst (λ (all : List FieldAt). Contains all f.at) ats_this
      (Contains-map (λ (f : FieldValue). f.at) r.restored_fields f among)) in
      let e = matches.same_set.each_field g.0 g.1 in
      (e.0, e.1, e.2 ∙ g.2)

  of_this : (f : FieldValue) (e : EntryData) → Contains r.restored_fields f
      → Contains (covered rule direction) e → field_of e ≡ f.at
      → f.value ≡ kept_value (checksum_of this) e (value_of fields (field_of e))
  of_this f e among used at =
      sym (value_of-own r.restored_fields f
      (once-coap direction this r.restored_fields r.payload_from here) among)
      ∙ ap (value_of r.restored_fields) (sym at) ∙ r.values e used
      ∙ ap (λ (all : List FieldValue). kept_value (checksum_of this) e (value_of all (field_of e)))
      first.0

  of_that : (f : FieldValue) (e : EntryData) → Contains t.restored_fields f
      → Contains (covered rule direction) e → field_of e ≡ f.at
      → f.value ≡ kept_value (checksum_of that) e (value_of fields (field_of e))
  of_that f e among used at =
      sym (value_of-own t.restored_fields f
      (once-coap direction that t.restored_fields t.payload_from there) among)
      ∙ ap (value_of t.restored_fields) (sym at) ∙ t.values e used
      ∙ ap (λ (all : List FieldValue). kept_value (checksum_of that) e (value_of all (field_of e)))
      second.0

  messages : here.message_fields ≡ there.message_fields
  messages =
      fields-one here.message_fields there.message_fields
      (message-ats direction this that here.message_fields there.message_fields
      (ap (map (λ (f : FieldValue). f.at)) (sym here.its_fields) ∙ ats_this ∙ sym ats_that
      ∙ ap (map (λ (f : FieldValue). f.at)) there.its_fields))
      (λ f g m n at.
      let x : Contains r.restored_fields f =
      message-field direction this r.restored_fields r.payload_from f here m in
      let e = entry f x in
      let coap : same_layer (layer_of e.0.name) layer.Coap ≡ true =
      ap (λ (at : FieldAt). same_layer (layer_of at.name) layer.Coap) e.2
      ∙ message-coap direction this r.restored_fields r.payload_from f here m in
      let none : is_computed_checksum e.0 ≡ false = rw (coap-uncomputed e.0.name coap).0 refl in
      of_this f e.0 x e.1 e.2
      ∙ kept-other (checksum_of this) (checksum_of that) e.0 (value_of fields (field_of e.0))
      none
      ∙ sym (of_that g e.0 (message-field direction that t.restored_fields t.payload_from g there n)
      e.1 (e.2 ∙ at)))

  place : r.payload_from ≡ t.payload_from
  place = first.1 ∙ sym second.1

  payload : drop here.message_from (drop 48 this) ≡ drop there.message_from (drop 48 that)
  payload =
      drop-drop here.message_from 48 this ∙ ap (λ n. drop n this) (sym here.its_payload)
      ∙ r.same_payload ∙ ap (λ n. drop n packet) place ∙ sym t.same_payload
      ∙ ap (λ n. drop n that) there.its_payload ∙ sym (drop-drop there.message_from 48 that)

  bodies : drop 48 this ≡ drop 48 that
  bodies =
      one_message (drop 48 this) (drop 48 that) there.message_fields here.message_from
      there.message_from
      (subst (λ (fs : List FieldValue). MessageOf (drop 48 this) fs here.message_from) messages
      here.its_message) there.its_message payload

  named : (n : FieldName) → Contains (fields_of_stack stack.IpUdp) n → Named this that direction n
  named n among =
      let f : Contains r.restored_fields (field_in direction this n) =
      head-field direction this r.restored_fields r.payload_from n here among in
      let e = entry (field_in direction this n) f in
      record {
        e = e.0;
        value = value_of fields (field_of e.0);
        is_named = ap (λ (at : FieldAt). at.name) e.2;
        of_this = of_this (field_in direction this n) e.0 f e.1 e.2;
        of_that =
            of_that (field_in direction that n) e.0
            (head-field direction that t.restored_fields t.payload_from n there among) e.1 e.2;
      }

  -- two packets that a rule over CoAP restores from the same packet are one
  pub one-coap : this ≡ that
  one-coap =
      one-of stack.IpUdp direction this that (fields_in stack.IpUdp direction this)
      (fields_in stack.IpUdp direction that) 48 48
      (udp-of direction this r.restored_fields r.payload_from here)
      (udp-of direction that t.restored_fields t.payload_from there) bodies a b named
