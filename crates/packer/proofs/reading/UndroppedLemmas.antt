-- Where a rule drops nothing, a packet that it matches is its own restored packet.
use Rattle.std.specs.Prelude.{ℕ, ◌≡◌, Bool, true, false, ◌&&◌, if◌then◌else◌, List, [], ◌∷◌, ◌++◌}
use Rattle.std.specs.Prelude.{filter, Some, Contains}
use Rattle.std.specs.List.{list_any}
use Rattle.std.proofs.Common.{arith, ap, refl, sym, ◌∙◌, subst, inl, inr}
use Rattle.std.proofs.lemmas.Bool.{cases_Bool, and_parts}
use Rattle.schc_ids.specs.declared.ends.Direction.{Direction}
use Rattle.schc_ids.specs.declared.ends.Iids.{Iids}
use Rattle.schc_ids.specs.declared.names.FieldAt.{FieldAt}
use Rattle.schc_ids.specs.declared.names.FieldName.TheVariants.{UdpChecksum}
use Rattle.schc_ids.specs.declared.names.Stack.{Stack}
use Rattle.schc_ids.specs.declared.names.Stack.TheVariants as stack
use Rattle.schc_ids.specs.Ends.{covers}
use Rattle.schc_ids.specs.Names.{same_name, fields_of_stack}
use Rattle.schc_ids.proofs.NamesLemmas.{same_name-true}
use Rattle.rule_model.specs.declared.value.FieldValue.{FieldValue}
use Rattle.rule_model.specs.Data.{EntryData, RuleData}
use Rattle.rule_model.specs.Cover.{covered, field_of, stack_of, is_lossy, is_compute}
use Rattle.rule_model.specs.Cover.{is_in_checksum, computes_checksum, lossy_fields, dropped_fields}
use Rattle.rule_model.specs.Matches.{computed_value}
use Rattle.rule_model.specs.Residue.{value_of}
use Rattle.rule_model.proofs.SizedLemmas.{Contains-filter}
use Rattle.decompress.proofs.LawLemmas.{unfilter}
use Rattle.ip_udp_fields.specs.Checksum.{checksum_of}
use Rattle.packer.specs.Packets.{PacketOf, computed_over}
use Rattle.packer.specs.Schc.{is_computed_checksum, kept_value, MatchesPacket, IsRestored}
use Rattle.packer.specs.Laws.{KeepsWhereNothingIsDropped}
use Rattle.packer.proofs.CoverLemmas.{Contains-map}
use Rattle.packer.proofs.PacketFieldsLemmas.{named-field}
use Rattle.packer.proofs.reading.KeptLemmas.{compute-made, agrees-at}
use Rattle.packer.proofs.reading.SoundLemmas.{checksum-computed}
use Rattle.packer.proofs.reading.ReadBackLemmas.{restored-one}

none_without : {X : Type 0} (more : Bool) (xs : List X) (x : X)
    → (if more then xs ++ x ∷ [] else xs) ≡ [] → xs ≡ []
none_without true [] x e = refl
none_without true (y ∷ xs) x e = absurd (cc)
none_without false xs x e = e

-- an entry that is used, is ignored and sends nothing is among the lossy ones
pub lossy-listed : (rule : RuleData) (direction : Direction) (e : EntryData)
    → Contains (covered rule direction) e → is_lossy e.operator e.action ≡ true
    → Contains (lossy_fields rule direction) (field_of e)
lossy-listed rule direction e among l =
    let parts = unfilter (λ d. covers d.direction direction) rule.entries e among in
    Contains-map field_of
    (filter (λ d. covers d.direction direction && is_lossy d.operator d.action) rule.entries) e
    (Contains-filter (λ d. covers d.direction direction && is_lossy d.operator d.action)
    rule.entries e parts.0 (rw (parts.1, l) refl))

-- where nothing is dropped, no entry that is used is lossy
not_lossy : (rule : RuleData) (direction : Direction) (e : EntryData)
    → dropped_fields rule direction ≡ [] → Contains (covered rule direction) e
    → is_lossy e.operator e.action ≡ false
not_lossy rule direction e nothing among =
    elim (cases_Bool (is_lossy e.operator e.action)) [
      | inl l ↦
          let no : lossy_fields rule direction ≡ [] =
          none_without
          (computes_checksum rule direction && list_any (λ f. is_in_checksum f.name)
          (lossy_fields rule direction)) (lossy_fields rule direction)
          (record { name = UdpChecksum; position = 1 }) nothing
          in
          let there : Contains [] (field_of e) =
          subst (λ (fields : List FieldAt). Contains fields (field_of e)) no
          (lossy-listed rule direction e among l) in
          absurd (omega (arith, there.1))
      | inr f ↦ f
    ]

-- the checksum that is computed over a packet that has one
checksum_at : (of : Stack) (direction : Direction) (packet : List ℕ) (fields : List FieldValue)
    (from : ℕ) (f : FieldValue) → PacketOf of direction packet fields from → Contains fields f
    → f.at.name ≡ UdpChecksum
    → computed_value (computed_over of packet) UdpChecksum ≡ Some (checksum_of packet)
checksum_at stack.Ip direction packet fields from f p among e =
    let named = named-field stack.Ip direction packet fields from f p among in
    let name : named.0 ≡ UdpChecksum = ap (λ (g : FieldValue). g.at.name) named.2 ∙ e in
    checksum-computed stack.Ip packet (subst (Contains (fields_of_stack stack.Ip)) name named.1)
checksum_at stack.IpUdp direction packet fields from f p among e = refl
checksum_at stack.IpUdpCoap direction packet fields from f p among e = refl

-- a checksum that is computed is the one that a packet has which the rule matches
pub own-checksum : (rule : RuleData) (iids : Iids) (direction : Direction) (packet : List ℕ)
    (m : MatchesPacket rule iids direction packet) (e : EntryData)
    → Contains (covered rule direction) e → is_lossy e.operator e.action ≡ false
    → value_of m.fields (field_of e) ≡ kept_value (checksum_of packet) e
    (value_of m.fields (field_of e))
own-checksum rule iids direction packet m e among l =
    elim (cases_Bool (is_computed_checksum e)) [
      | inl c ↦
          let parts = and_parts (same_name e.name UdpChecksum) (is_compute e.action) c in
          let name : e.name ≡ UdpChecksum = same_name-true e.name UdpChecksum parts.0 in
          let there = m.matches.same_set.each_entry e among in
          let computed : computed_value (computed_over (stack_of rule) packet) e.name ≡ Some
          (checksum_of packet) =
          ap (computed_value (computed_over (stack_of rule) packet)) name
          ∙ checksum_at (stack_of rule) direction packet m.fields m.payload_from there.0 m.is_packet
          there.1 (ap (λ (at : FieldAt). at.name) (sym there.2) ∙ name)
          in
          rw (l, c)
          (compute-made iids (computed_over (stack_of rule) packet) e
          (value_of m.fields (field_of e)) (checksum_of packet) parts.1 computed
          (agrees-at rule iids direction m.fields (computed_over (stack_of rule) packet) e
          m.matches among).restored_holds)
      | inr c ↦ rw (l, c) refl
    ]

-- the packet is its own restored packet
own_restored : (rule : RuleData) (iids : Iids) (direction : Direction) (packet : List ℕ)
    → MatchesPacket rule iids direction packet → dropped_fields rule direction ≡ []
    → IsRestored rule direction packet packet
own_restored rule iids direction packet m nothing =
    record {
      fields = m.fields;
      restored_fields = m.fields;
      payload_from = m.payload_from;
      is_packet = m.is_packet;
      is_restored = m.is_packet;
      same_fields = refl;
      same_payload = refl;
      values =
          λ e among. own-checksum rule iids direction packet m e among
          (not_lossy rule direction e nothing among);
    }

-- where an admitted rule that matches a packet drops nothing in the direction, the other end
-- restores that packet
pub keeps_where_nothing_is_dropped : KeepsWhereNothingIsDropped
keeps_where_nothing_is_dropped rule iids direction packet restored admitted a b m nothing r =
    restored-one rule iids direction packet m.fields m.payload_from m.is_packet m.matches restored
    packet admitted r (own_restored rule iids direction packet m nothing) b a
