-- The fields of a packet with CoAP are sized for a rule that matches them.
use Rattle.std.specs.Prelude.{ℕ, ◌≡◌, ◌≢◌, ◌-◌, ◌*◌, ◌/◌, ◌%◌, ◌==◌, ◌≤◌, ◌&&◌, ◌||◌, Bool, true}
use Rattle.std.specs.Prelude.{false, not, nat_lt, List, [], ◌∷◌, ◌++◌, length, drop, map, All}
use Rattle.std.specs.Prelude.{AllPairs}
use Rattle.std.specs.List.{AllByRecursion, list_all, list_any}
use Rattle.std.proofs.Common.{arith, ap, refl, sym, ◌∙◌, subst}
use Rattle.std.proofs.lemmas.Bool.{and_parts, or_parts, not-false, eqb-true}
use Rattle.std.proofs.lemmas.List.{length-drop}
use Rattle.std.proofs.lemmas.List.Elements.{All-append, All-map, All-weaker, All-contains}
use Rattle.std.proofs.lemmas.List.Kept.{AllPairs-cons}
use Rattle.std.proofs.lemmas.List.Sums.{AllPass-from_list_all}
use Rattle.schc_ids.specs.declared.ends.Direction.{Direction}
use Rattle.schc_ids.specs.declared.ends.Iids.{Iids}
use Rattle.schc_ids.specs.declared.names.FieldAt.{FieldAt}
use Rattle.schc_ids.specs.declared.names.FieldName.{FieldName}
use Rattle.schc_ids.specs.declared.names.FieldName.TheVariants.{CoapToken, CoapOption}
use Rattle.schc_ids.specs.declared.names.Stack.TheVariants as stack
use Rattle.schc_ids.specs.Names.{same_name, is_option, fields_of_stack}
use Rattle.rule_model.specs.declared.rule.Length.{Length}
use Rattle.rule_model.specs.declared.rule.Length.TheVariants.{Fixed, Variable, TokenLength}
use Rattle.rule_model.specs.declared.rule.Operator.{Operator}
use Rattle.rule_model.specs.declared.rule.Operator.TheVariants.{Msb}
use Rattle.rule_model.specs.declared.rule.Action.{Action}
use Rattle.rule_model.specs.declared.rule.Action.TheVariants.{ValueSent, Lsb}
use Rattle.rule_model.specs.declared.value.Computed.{Computed}
use Rattle.rule_model.specs.declared.value.FieldValue.{FieldValue}
use Rattle.rule_model.specs.Data.{RuleData}
use Rattle.rule_model.specs.Findings.{is_length_of, is_msb_wrong, IsAdmitted}
use Rattle.rule_model.specs.Matches.{Matches}
use Rattle.rule_model.specs.Residue.{token_bits, msb_bits, WidthHolds, TokenHolds, HasSize}
use Rattle.rule_model.specs.Residue.{SizeHolds, IsSized}
use Rattle.rule_model.proofs.EntryRowsLemmas.{EntryHolds-from_IsAdmitted}
use Rattle.ip_udp_fields.specs.Layout.{fields_in_packet_order, bits_of}
use Rattle.ip_udp_fields.specs.Fields.{field_in, fields_in}
use Rattle.ip_udp_fields.proofs.PlaceLemmas.{fields_in_packet_order-within}
use Rattle.ip_udp_fields.proofs.RefusalLemmas.{header_size-is_packet}
use Rattle.ip_udp_fields.proofs.SplitLemmas.{field_bits, lengths}
use Rattle.coap_fields.specs.Message.{Message, spelled}
use Rattle.coap_fields.specs.Fields.{fields_of_message}
use Rattle.packer.specs.Packets.{IsCoapPacket}
use Rattle.packer.proofs.HeaderFieldsLemmas.{are_apart, names-apart, other-at, widths-along}
use Rattle.packer.proofs.HeaderFieldsLemmas.{is_below_coap, names-below, fields-below, kind-of}
use Rattle.packer.proofs.HeaderFieldsLemmas.{of-rule}
use Rattle.packer.proofs.HeadersLemmas.{size_after-below}
use Rattle.packer.proofs.coap.MessageFieldsLemmas.{RightSize, message-above, message-wide}
use Rattle.packer.proofs.coap.MessageFieldsLemmas.{message-right, message-token_bits}
use Rattle.packer.proofs.coap.OrderedLemmas.{message-once}

-- a field of another header is another one
above_other : (direction : Direction) (packet : List ℕ) (name : FieldName) (g : FieldValue)
    → is_below_coap name ≡ true → is_below_coap g.at.name ≡ false
    → (field_in direction packet name).at ≢ g.at
above_other direction packet name g h k e =
    let same : is_below_coap name ≡ is_below_coap g.at.name =
    ap (λ (at : FieldAt). is_below_coap at.name) e in
    absurd (cc)

once_with : (direction : Direction) (packet : List ℕ) (names : List FieldName)
    (message : List FieldValue) → are_apart names ≡ true → list_all is_below_coap names ≡ true
    → All (λ f. is_below_coap f.at.name ≡ false) message → AllPairs (λ f g. f.at ≢ g.at) message
    → AllPairs (λ f g. f.at ≢ g.at) (map (field_in direction packet) names ++ message)
once_with direction packet [] message h b above once = once
once_with direction packet (name ∷ names) message h b above once =
    let parts : (list_all (λ other. not (same_name name other)) names ≡ true)
    × (are_apart names ≡ true) =
    and_parts (list_all (λ other. not (same_name name other)) names) (are_apart names) h in
    let below : (is_below_coap name ≡ true) × (list_all is_below_coap names ≡ true) =
    and_parts (is_below_coap name) (list_all is_below_coap names) b in
    AllPairs-cons (λ f g. f.at ≢ g.at) (field_in direction packet name)
    (map (field_in direction packet) names ++ message)
    (All-append (λ g. (field_in direction packet name).at ≢ g.at)
    (map (field_in direction packet) names) message
    (All-map (λ g. (field_in direction packet name).at ≢ g.at) (field_in direction packet) names
    (All-weaker (λ other. not (same_name name other) ≡ true)
    (λ other. (field_in direction packet name).at ≢ (field_in direction packet other).at)
    (other-at direction packet name) names
    (AllPass-from_list_all (λ other. not (same_name name other)) names parts.0)))
    (All-weaker (λ g. is_below_coap g.at.name ≡ false)
    (λ g. (field_in direction packet name).at ≢ g.at)
    (λ g k. above_other direction packet name g below.0 k) message above))
    (once_with direction packet names message parts.1 below.1 above once)

token_right : (fields : List FieldValue) (count most : ℕ) (name : FieldName) (action : Action)
    (value : List Bool) → token_bits fields ≡ 8 * count → RightSize count most name value
    → TokenHolds fields name action value
token_right fields count most CoapToken ValueSent value t r = r ∙ sym t
token_right fields count most CoapToken _ value t r = tt
token_right fields count most _ action value t r = tt

-- whole bytes without whole bytes in front
lsb_size : (bits most : ℕ) (value : List Bool) → bits % 8 ≡ 0 → most ≤ 65535 → length value % 8 ≡ 0
    → length value / 8 ≤ most → HasSize (drop bits value)
lsb_size bits most value b m w s =
    let size : length (drop bits value) ≡ length value - bits = length-drop bits value in
    (omega (arith, size, b, w), omega (arith, size, b, w, s, m))

msb_whole : (operator : Operator) (number : ℕ) (targets : List (List Bool))
    → is_msb_wrong operator (CoapOption number) targets ≡ false → msb_bits operator % 8 ≡ 0
msb_whole (Msb bits) number targets h =
    let few : Bool = (bits == 0) || list_any (λ target. nat_lt (length target) bits) targets in
    let whole : Bool = is_option (CoapOption number) && not (bits % 8 == 0) in
    let first = or_parts (few || whole) (same_name (CoapOption number) CoapToken) h in
    let second = or_parts few whole first.0 in
    eqb-true (bits % 8) 0 (not-false (bits % 8 == 0) second.1)
msb_whole _ number targets h = refl

size_right : (count most : ℕ) (name : FieldName) (kind : Length) (action : Action)
    (operator : Operator) (targets : List (List Bool)) (value : List Bool) → most ≤ 65535
    → RightSize count most name value → is_length_of name kind ≡ true
    → is_msb_wrong operator name targets ≡ false → SizeHolds kind action operator value
size_right count most name (Fixed bits) action operator targets value m r k w = tt
size_right count most name TokenLength action operator targets value m r k w = tt
size_right count most (CoapOption number) Variable ValueSent operator targets value m r k w =
    (r.0, omega (arith, r.1, m))
size_right count most (CoapOption number) Variable Lsb operator targets value m r k w =
    lsb_size (msb_bits operator) most value (msb_whole operator number targets w) m r.0 r.1
size_right count most (CoapOption number) Variable _ operator targets value m r k w = tt
size_right count most CoapToken Variable action operator targets value m r k w = absurd (cc)
size_right count most _ Variable action operator targets value m r k w = absurd (cc)

below_right : (count most : ℕ) (name : FieldName) (value : List Bool) → is_below_coap name ≡ true
    → RightSize count most name value
below_right count most CoapToken value h = absurd (cc)
below_right count most (CoapOption number) value h = absurd (cc)
below_right count most _ value h = tt

-- no field stands twice
pub once-coap : (direction : Direction) (packet : List ℕ) (fields : List FieldValue) (from : ℕ)
    → IsCoapPacket direction packet fields from → AllPairs (λ f g. f.at ≢ g.at) fields
unfolding fields_in
once-coap direction packet fields from p =
    let m : Message = p.its_message.message in
    let are : fields ≡ map (field_in direction packet)
    (fields_in_packet_order stack.IpUdp direction) ++ fields_of_message m = p.its_fields
    ∙ ap (λ (fs : List FieldValue). map (field_in direction packet)
    (fields_in_packet_order stack.IpUdp direction) ++ fs) p.its_message.its_fields in
    subst (AllPairs (λ f g. f.at ≢ g.at)) (sym are)
    (once_with direction packet (fields_in_packet_order stack.IpUdp direction) (fields_of_message m)
    (names-apart stack.IpUdp direction tt) (names-below stack.IpUdp direction tt)
    (message-above m) (message-once m p.its_message.is_message))

-- a packet with CoAP
pub sized-coap : (rule : RuleData) (iids : Iids) (direction : Direction) (packet : List ℕ)
    (fields : List FieldValue) (from : ℕ) (computed : Computed) → IsAdmitted rule
    → IsCoapPacket direction packet fields from → Matches rule iids direction fields computed
    → IsSized rule direction fields
unfolding fields_in
sized-coap rule iids direction packet fields from computed admitted p match =
    let m : Message = p.its_message.message in
    let names : List FieldName = fields_in_packet_order stack.IpUdp direction in
    let heads : List FieldValue = map (field_in direction packet) names in
    let message : List FieldValue = fields_of_message m in
    let are : fields ≡ heads ++ message = p.its_fields
    ∙ ap (λ (fs : List FieldValue). heads ++ fs) p.its_message.its_fields in
    let within : AllByRecursion (λ n. length (field_bits direction packet n) ≡ bits_of n) names =
    lengths stack.IpUdp direction packet names
    (header_size-is_packet stack.IpUdp packet p.is_udp)
    (fields_in_packet_order-within stack.IpUdp direction tt) in
    let most : ℕ = length (drop 48 packet) in
    let small : most ≤ 65535 =
    omega (arith, length-drop 48 packet, size_after-below packet p.is_udp.ipv6) in
    let spelling : length (spelled m) ≤ most =
    omega (arith, ap (λ (bytes : List ℕ). length bytes) p.its_message.its_spelling) in
    let right : All (λ f. RightSize (length m.token) most f.at.name f.value) fields =
    subst (All (λ f. RightSize (length m.token) most f.at.name f.value)) (sym are)
    (All-append (λ f. RightSize (length m.token) most f.at.name f.value) heads message
    (All-weaker (λ f. is_below_coap f.at.name ≡ true)
    (λ f. RightSize (length m.token) most f.at.name f.value)
    (λ f h. below_right (length m.token) most f.at.name f.value h) heads
    (fields-below stack.IpUdp direction packet tt))
    (message-right m most spelling))
    in
    let bits : token_bits fields ≡ 8 * length m.token = ap token_bits are
    ∙ message-token_bits direction packet m p.its_message.is_message in
    record {
      each_once = once-coap direction packet fields from p;
      width_holds = λ f c.
          All-contains (λ f. WidthHolds f.at.name f.value) fields f
          (subst (All (λ f. WidthHolds f.at.name f.value)) (sym are)
          (All-append (λ f. WidthHolds f.at.name f.value) heads message
          (widths-along direction packet names within) (message-wide m))) c;
      sendable = λ f e c d same.
          let named : e.name ≡ f.at.name = ap (λ (at : FieldAt). at.name) same in
          let own : RightSize (length m.token) most e.name f.value =
          subst (λ n. RightSize (length m.token) most n f.value) (sym named)
          (All-contains (λ f. RightSize (length m.token) most f.at.name f.value) fields f right
          c)
          in
          record {
            length_holds = (match.agrees f e c d same).length_holds;
            token_holds = token_right fields (length m.token) most e.name e.action f.value bits own;
            size_holds =
                size_right (length m.token) most e.name e.length e.action e.operator e.targets
                f.value small own (kind-of rule admitted e (of-rule rule direction e d))
                (EntryHolds-from_IsAdmitted rule admitted e (of-rule rule direction e d)).msb;
          };
    }
