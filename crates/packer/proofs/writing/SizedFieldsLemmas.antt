-- The fields of a packet are sized for a rule that matches them.
use Rattle.std.specs.Prelude.{ℕ, ◌≡◌, ◌≢◌, Bool, true, List, length, All, AllPairs}
use Rattle.std.specs.List.{AllByRecursion}
use Rattle.std.proofs.Common.{ap, sym, subst}
use Rattle.std.proofs.lemmas.List.Elements.{All-contains}
use Rattle.schc_ids.specs.declared.ends.Direction.{Direction}
use Rattle.schc_ids.specs.declared.ends.Iids.{Iids}
use Rattle.schc_ids.specs.declared.names.FieldAt.{FieldAt}
use Rattle.schc_ids.specs.declared.names.FieldName.{FieldName}
use Rattle.schc_ids.specs.declared.names.FieldName.TheVariants.{CoapToken, CoapOption}
use Rattle.schc_ids.specs.declared.names.Stack.{Stack}
use Rattle.schc_ids.specs.declared.names.Stack.TheVariants as stack
use Rattle.schc_ids.specs.Names.{fields_of_stack}
use Rattle.rule_model.specs.declared.rule.Length.{Length}
use Rattle.rule_model.specs.declared.rule.Length.TheVariants.{Fixed, Variable, TokenLength}
use Rattle.rule_model.specs.declared.rule.Operator.{Operator}
use Rattle.rule_model.specs.declared.rule.Action.{Action}
use Rattle.rule_model.specs.declared.value.Computed.{Computed}
use Rattle.rule_model.specs.declared.value.FieldValue.{FieldValue}
use Rattle.rule_model.specs.Data.{RuleData}
use Rattle.rule_model.specs.Findings.{is_length_of, IsAdmitted}
use Rattle.rule_model.specs.Matches.{Matches}
use Rattle.rule_model.specs.Residue.{WidthHolds, TokenHolds, SizeHolds, IsSized}
use Rattle.ip_udp_fields.specs.Layout.{IsWithoutCoap, fields_in_packet_order, bits_of}
use Rattle.ip_udp_fields.specs.Fields.{FieldsOf, fields_in}
use Rattle.ip_udp_fields.proofs.PlaceLemmas.{fields_in_packet_order-within}
use Rattle.ip_udp_fields.proofs.RefusalLemmas.{header_size-is_packet}
use Rattle.ip_udp_fields.proofs.SplitLemmas.{field_bits, lengths}
use Rattle.packer.specs.Packets.{PacketOf}
use Rattle.packer.proofs.HeaderFieldsLemmas.{names-apart, once-along, widths-along, is_below_coap}
use Rattle.packer.proofs.HeaderFieldsLemmas.{fields-below, kind-of, of-rule}
use Rattle.packer.proofs.coap.SizedCoapLemmas.{sized-coap}

token_free : (fields : List FieldValue) (name : FieldName) (action : Action) (value : List Bool)
    → is_below_coap name ≡ true → TokenHolds fields name action value
token_free fields CoapToken action value h = absurd (cc)
token_free fields _ action value h = tt

size_free : (name : FieldName) (kind : Length) (action : Action) (operator : Operator)
    (value : List Bool) → is_below_coap name ≡ true → is_length_of name kind ≡ true
    → SizeHolds kind action operator value
size_free name (Fixed bits) action operator value h k = tt
size_free name TokenLength action operator value h k = tt
size_free CoapToken Variable action operator value h k = absurd (cc)
size_free (CoapOption number) Variable action operator value h k = absurd (cc)
size_free _ Variable action operator value h k = absurd (cc)

-- a packet of a stack whose headers stand at fixed places
sized-headers : (rule : RuleData) (iids : Iids) (direction : Direction) (of : Stack)
    (packet : List ℕ) (fields : List FieldValue) (from : ℕ) (computed : Computed) → IsAdmitted rule
    → IsWithoutCoap of → FieldsOf of direction packet fields from
    → Matches rule iids direction fields computed → IsSized rule direction fields
unfolding fields_in
sized-headers rule iids direction of packet fields from computed admitted h p m =
    let within : AllByRecursion (λ n. length (field_bits direction packet n) ≡ bits_of n)
    (fields_in_packet_order of direction) =
    lengths of direction packet (fields_in_packet_order of direction)
    (header_size-is_packet of packet p.is_packet) (fields_in_packet_order-within of direction h)
    in
    record {
      each_once =
          subst (AllPairs (λ f g. f.at ≢ g.at)) (sym p.its_fields)
          (once-along direction packet (fields_in_packet_order of direction)
          (names-apart of direction h));
      width_holds = λ f c.
          All-contains (λ f. WidthHolds f.at.name f.value) fields f
          (subst (All (λ f. WidthHolds f.at.name f.value)) (sym p.its_fields)
          (widths-along direction packet (fields_in_packet_order of direction) within)) c;
      sendable = λ f e c d same.
          let named : e.name ≡ f.at.name = ap (λ (at : FieldAt). at.name) same in
          let below : is_below_coap e.name ≡ true =
          subst (λ n. is_below_coap n ≡ true) (sym named)
          (All-contains (λ f. is_below_coap f.at.name ≡ true) fields f
          (subst (All (λ f. is_below_coap f.at.name ≡ true)) (sym p.its_fields)
          (fields-below of direction packet h)) c)
          in
          record {
            length_holds = (m.agrees f e c d same).length_holds;
            token_holds = token_free fields e.name e.action f.value below;
            size_holds =
                size_free e.name e.length e.action e.operator f.value below
                (kind-of rule admitted e (of-rule rule direction e d));
          };
    }

-- the fields of a packet that an admitted rule matches are sized
pub sized-packet : (rule : RuleData) (iids : Iids) (direction : Direction) (of : Stack)
    (packet : List ℕ) (fields : List FieldValue) (from : ℕ) (computed : Computed) → IsAdmitted rule
    → PacketOf of direction packet fields from → Matches rule iids direction fields computed
    → IsSized rule direction fields
sized-packet rule iids direction stack.Ip packet fields from computed admitted p m =
    sized-headers rule iids direction stack.Ip packet fields from computed admitted tt p m
sized-packet rule iids direction stack.IpUdp packet fields from computed admitted p m =
    sized-headers rule iids direction stack.IpUdp packet fields from computed admitted tt p m
sized-packet rule iids direction stack.IpUdpCoap packet fields from computed admitted p m =
    sized-coap rule iids direction packet fields from computed admitted p m
