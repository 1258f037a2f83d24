-- The fields of UDP behind those of IPv6.
use Rattle.std.specs.Prelude.{ℕ, ◌≡◌, ◌+◌, ◌-◌, ◌*◌, ◌⊎◌, Bool, List, ◌++◌, map, take, drop, Some}
use Rattle.std.specs.Prelude.{None}
use Rattle.std.proofs.Common.{arith, ap, refl, sym, ◌∙◌, inr}
use Rattle.schc_bits.specs.Bits.{octets}
use Rattle.schc_ids.specs.declared.ends.Direction.{Direction}
use Rattle.schc_ids.specs.declared.ends.Direction.TheVariants.{Up, Down}
use Rattle.schc_ids.specs.declared.names.Stack.TheVariants as stack
use Rattle.schc_ids.specs.declared.names.FieldName.{FieldName}
use Rattle.schc_ids.specs.Names.{udp_fields}
use Rattle.rule_model.specs.declared.value.FieldValue.{FieldValue}
use Rattle.rule_model.specs.declared.parts.SplitFault.{SplitFault}
use Rattle.rule_model.specs.declared.parts.SplitFault.TheVariants.{Memory}
use Rattle.rule_model.specs.First.{first_held}
use Rattle.ip_udp_fields.specs.Layout.{mirrored, piece}
use Rattle.ip_udp_fields.specs.Fields.{at_name, field_in, fields_in, IsIpv6, FieldsOf}
use Rattle.ip_udp_fields.specs.Refusals.{udp_refusals, refusal}
use Rattle.ip_udp_fields.proofs.PieceLemmas.{piece-bytes}
use Rattle.ip_udp_fields.proofs.RefusalLemmas.{refusal-udp, refusal-is_packet}
use Rattle.ip_udp_fields.proofs.SplitLemmas.{none-ip}

-- two bytes as a field
pub two_bytes-field : (from : ℕ) (packet : List ℕ) (name : FieldName) (value : List Bool)
    → value ≡ octets (take (from + 2 - from) (drop from packet))
    → ◌≡◌ {A = FieldValue} (record { at = at_name name; value = value })
    (record { at = at_name name; value = piece (8 * from) 16 packet })
two_bytes-field from packet name value e =
    let two : from + 2 - from ≡ 2 = omega arith in
    let same : value ≡ piece (8 * from) 16 packet = e
    ∙ ap (λ (n : ℕ). octets (take n (drop from packet))) two
    ∙ sym (piece-bytes from 2 packet) in
    ap (λ (bits : List Bool). record { at = at_name name; value = bits }) same

-- the fields with UDP are those of IPv6 and then those of UDP
pub fields_in-udp : (direction : Direction) (packet : List ℕ)
    → fields_in stack.Ip direction packet ++ map (field_in direction packet)
    (map (mirrored direction) udp_fields) ≡ fields_in stack.IpUdp direction packet
unfolding fields_in
fields_in-udp Up packet = refl
fields_in-udp Down packet = refl

-- the first fault of UDP in an IPv6 packet is want of memory, or why it is refused with UDP
pub refused-udp : (packet : List ℕ) (fault : SplitFault) → IsIpv6 packet
    → first_held (udp_refusals packet) ≡ Some fault → (fault ≡ Memory)
    ⊎ (refusal stack.IpUdp packet ≡ Some fault)
refused-udp packet fault p e = inr (refusal-udp packet (none-ip packet p) ∙ e)

-- an IPv6 packet that nothing refuses with UDP, with these fields
pub extended : (direction : Direction) (packet : List ℕ) (before after : List FieldValue)
    → IsIpv6 packet → first_held (udp_refusals packet) ≡ None
    → before ≡ fields_in stack.Ip direction packet
    → after ≡ before ++ map (field_in direction packet) (map (mirrored direction) udp_fields)
    → FieldsOf stack.IpUdp direction packet after 48
extended direction packet before after p e b a =
    record {
      is_packet =
          refusal-is_packet stack.IpUdp packet tt (refusal-udp packet (none-ip packet p) ∙ e);
      its_fields = a
          ∙ ap (λ (fields : List FieldValue). fields ++ map (field_in direction packet)
          (map (mirrored direction) udp_fields)) b ∙ fields_in-udp direction packet;
      its_payload = refl;
    }
