-- What holds of a packet that is made of restored fields, in each stack.
use Rattle.std.specs.Prelude.{ℕ, ◌≡◌, ◌≢◌, ◌-◌, true, List, length, drop, AllPairs, Contains}
use Rattle.std.proofs.Common.{ap, refl, sym, ◌∙◌, subst}
use Rattle.schc_bits.specs.Bits.{AreBytes}
use Rattle.schc_ids.specs.declared.ends.Direction.{Direction}
use Rattle.schc_ids.specs.declared.ends.Iids.{Iids}
use Rattle.schc_ids.specs.Names.{fields_of_stack}
use Rattle.rule_model.specs.declared.value.FieldValue.{FieldValue}
use Rattle.rule_model.specs.Data.{EntryData, RuleData}
use Rattle.rule_model.specs.Cover.{covered, field_of, stack_of, is_compute}
use Rattle.rule_model.specs.Matches.{IsSameSet}
use Rattle.rule_model.specs.Residue.{value_of, restored_field, restored_fields}
use Rattle.ip_udp_fields.specs.Layout.{header_size}
use Rattle.ip_udp_fields.specs.Fields.{field_in}
use Rattle.ip_udp_fields.specs.Checksum.{checksum_of}
use Rattle.packer.specs.Packets.{PacketOf}
use Rattle.packer.proofs.CoverLemmas.{Contains-map, Covers}
use Rattle.packer.proofs.rebuilt.MadeLemmas.{made_value, IsMade}
use Rattle.packer.proofs.PacketFieldsLemmas.{Contains-unmap, fields-PacketOf, named-field}
use Rattle.packer.proofs.PacketFieldsLemmas.{field-named, once-fields}

-- the packet is one of the rule's stack, with these fields and this payload, and a field for each
-- entry
pub record IsPut (rule : RuleData) (direction : Direction) (fields : List FieldValue)
    (payload packet : List ℕ) : Type 0 where
  pub its_fields : List FieldValue
  pub from : ℕ
  pub is_packet : PacketOf (stack_of rule) direction packet its_fields from
  pub its_payload : drop from packet ≡ payload
  pub bytes : AreBytes packet
  pub same_set : IsSameSet rule direction its_fields
  pub once : AllPairs (λ f g. f.at ≢ g.at) its_fields
  pub values :
      (e : EntryData) → Contains (covered rule direction) e →
      value_of its_fields (field_of e) ≡ made_value (checksum_of packet) (length packet - 40) e
      (value_of fields (field_of e))
  pub computed : (e : EntryData) → Contains (covered rule direction) e → is_compute e.action ≡ true
      → Contains (fields_of_stack (stack_of rule)) e.name

-- restored fields are those of the entries
pub same-restored : (rule : RuleData) (iids : Iids) (direction : Direction)
    (fields : List FieldValue) → fields ≡ restored_fields rule iids direction fields
    → IsSameSet rule direction fields
same-restored rule iids direction fields own =
    record {
      each_field = λ f among.
          let m = Contains-unmap (restored_field iids fields) (covered rule direction) f
          (subst (λ (all : List FieldValue). Contains all f) own among) in
          (m.0, m.1, ap (λ (g : FieldValue). g.at) m.2);
      each_entry = λ e among. (
        restored_field iids fields e,
        subst (λ (all : List FieldValue). Contains all (restored_field iids fields e)) (sym own)
            (Contains-map (restored_field iids fields) (covered rule direction) e among),
        refl,
      );
    }

-- a packet of a stack without CoAP
pub plain-put : (rule : RuleData) (direction : Direction) (fields : List FieldValue)
    (payload packet : List ℕ) → Covers rule direction → IsMade rule direction fields payload packet
    → IsPut rule direction fields payload packet
plain-put rule direction fields payload packet covers made =
    record {
      its_fields = made.its_fields;
      from = header_size (stack_of rule);
      is_packet =
          fields-PacketOf (stack_of rule) direction packet made.its_fields
          (header_size (stack_of rule)) covers.without made.is_packet;
      its_payload = made.its_payload;
      bytes = made.bytes;
      same_set = record {
        each_field = λ f among.
            let m = named-field (stack_of rule) direction packet made.its_fields
            (header_size (stack_of rule)) f made.is_packet among in
            let e = covers.each_name m.0 m.1 in
            (e.0, e.1, e.2 ∙ ap (λ (g : FieldValue). g.at) m.2);
        each_entry = λ e among.
            let place = covers.each_entry e among in (
              field_in direction packet e.name,
              field-named (stack_of rule) direction packet
                  made.its_fields (header_size (stack_of rule)) e.name made.is_packet place.0,
              place.1,
            );
      };
      once = once-fields (stack_of rule) direction packet made.its_fields
          (header_size (stack_of rule)) made.is_packet;
      values = made.values;
      computed = λ e among c. (covers.each_entry e among).0;
    }
