-- A rule that is tried: what it doesn't compute may be any number, and its SCHC packet has so many
-- bits.
use Rattle.std.specs.Prelude.{ℕ, ◌≡◌, ◌+◌, ◌-◌, ◌*◌, ◌^◌, ◌<◌, ◌≤◌, ◌&&◌, ◌||◌, Bool, true, false}
use Rattle.std.specs.Prelude.{not, if◌then◌else◌, List, [], ◌∷◌, ◌++◌, length, drop, Option, Some}
use Rattle.std.specs.Prelude.{None, Contains}
use Rattle.std.specs.List.{list_all}
use Rattle.std.specs.Option.{option_map}
use Rattle.std.proofs.Common.{arith, ap, refl, sym, ◌∙◌, subst}
use Rattle.std.proofs.lemmas.List.{length-append, length-drop}
use Rattle.schc_bits.specs.Bits.{number_bits, octets, AreBytes}
use Rattle.schc_bits.proofs.NumberBits.{length-number_bits}
use Rattle.schc_bits.proofs.Octets.{length-octets}
use Rattle.schc_ids.specs.declared.ends.Direction.{Direction}
use Rattle.schc_ids.specs.declared.ends.Iids.{Iids}
use Rattle.schc_ids.specs.declared.names.FieldName.{FieldName}
use Rattle.schc_ids.specs.declared.names.FieldName.TheVariants.{IpPayloadLength, UdpLength}
use Rattle.schc_ids.specs.declared.names.FieldName.TheVariants.{UdpChecksum}
use Rattle.schc_ids.specs.declared.names.Stack.{Stack}
use Rattle.schc_ids.specs.declared.names.Stack.TheVariants as stack
use Rattle.schc_ids.specs.Names.{same_name}
use Rattle.rule_model.specs.declared.rule.Action.{Action}
use Rattle.rule_model.specs.declared.rule.Action.TheVariants.{Compute, DevIid, AppIid}
use Rattle.rule_model.specs.declared.value.Computed.{Computed}
use Rattle.rule_model.specs.declared.value.FieldValue.{FieldValue}
use Rattle.rule_model.specs.SplitData.{SplitData}
use Rattle.rule_model.specs.Data.{EntryData, RuleData}
use Rattle.rule_model.specs.Cover.{computes_checksum, covered, field_of, is_compute, stack_of}
use Rattle.rule_model.specs.Findings.{IsAdmitted}
use Rattle.rule_model.specs.Residue.{residue_of, same_field}
use Rattle.rule_model.specs.Tests.{length_holds, operator_holds, restored_holds, agrees, has_entry}
use Rattle.rule_model.specs.Tests.{has_value, entries_agree, does_match}
use Rattle.rule_model.proofs.SizedLemmas.{Contains-first, Contains-rest}
use Rattle.rule_model.proofs.TestLemmas.{does_match-true}
use Rattle.ip_udp_fields.specs.Fields.{IsIpv6}
use Rattle.editions.specs.declared.listed.Listed.{Listed}
use Rattle.editions.specs.Data.{lookup}
use Rattle.packer.specs.declared.choosing.Candidate.{Candidate}
use Rattle.packer.specs.Packets.{PacketOf, split_of, computed_over}
use Rattle.packer.specs.Packing.{SchcPacketData, schc_packet_under, matching_schc_packet}
use Rattle.packer.specs.Packing.{schc_packet_by, candidate_of, candidate_by, candidate_under}
use Rattle.packer.specs.Searching.{IsComputedFor, CanBeTried}
use Rattle.packer.proofs.writing.BoundLemmas.{IsShort, residue-short}
use Rattle.packer.proofs.CoverLemmas.{some-passes}
use Rattle.packer.proofs.HeadersLemmas.{size_after-below, from-within}
use Rattle.packer.proofs.SplitLemmas.{split_of-packet}
use Rattle.packer.proofs.reading.UnpackedLemmas.{found-listed}

restored_same : (iids : Iids) (a b : Computed) (name : FieldName) (action : Action)
    (value : List Bool) → a.payload_length ≡ b.payload_length → a.udp_length ≡ b.udp_length
    → ((same_name name UdpChecksum && is_compute action) ≡ true → a.checksum ≡ b.checksum)
    → restored_holds iids a name action value ≡ restored_holds iids b name action value
restored_same iids a b IpPayloadLength Compute value p u c = rw p refl
restored_same iids a b UdpLength Compute value p u c = rw u refl
restored_same iids a b UdpChecksum Compute value p u c = rw (c refl) refl
restored_same iids a b _ Compute value p u c = refl
restored_same iids a b name DevIid value p u c = refl
restored_same iids a b name AppIid value p u c = refl
restored_same iids a b name _ value p u c = refl

all_same : {X : Type 0} (f g : X → Bool) (xs : List X) → ((x : X) → Contains xs x → f x ≡ g x)
    → list_all f xs ≡ list_all g xs
all_same f g [] h = refl
all_same f g (x ∷ xs) h =
    ap (λ b. b && list_all f xs) (h x (Contains-first x xs))
    ∙ ap (λ b. g x && b) (all_same f g xs (λ y among. h y (Contains-rest x xs y among)))

entries_same : (rule : RuleData) (iids : Iids) (direction : Direction) (a b : Computed)
    (f : FieldValue) → a.payload_length ≡ b.payload_length → a.udp_length ≡ b.udp_length
    → (computes_checksum rule direction ≡ true → a.checksum ≡ b.checksum)
    → entries_agree iids a (covered rule direction) f ≡ entries_agree iids b
    (covered rule direction) f
entries_same rule iids direction a b f p u c =
    all_same (λ e. not (same_field (field_of e) f.at) || agrees iids a e f.value)
    (λ e. not (same_field (field_of e) f.at) || agrees iids b e f.value)
    (covered rule direction)
    (λ e among.
    ap (λ r. not
    (same_field (field_of e) f.at) || (length_holds e.name e.length f.value && operator_holds
    e.operator e.targets f.value && r))
    (restored_same iids a b e.name e.action f.value p u
    (λ t. c (some-passes (λ d. same_name d.name UdpChecksum && is_compute d.action)
    (covered rule direction) e among t))))

-- the rule matches with what is computed for it where it matches with all that is computed
pub match-same : (rule : RuleData) (iids : Iids) (direction : Direction) (fields : List FieldValue)
    (packet : List ℕ) (computed : Computed) → IsComputedFor rule direction packet computed
    → does_match rule iids direction fields computed ≡ does_match rule iids direction fields
    (computed_over (stack_of rule) packet)
match-same rule iids direction fields packet computed h =
    let all : Computed = computed_over (stack_of rule) packet in
    ap (λ agree. list_all (λ f. has_entry (covered rule direction) f.at) fields && list_all
    (has_value fields) (covered rule direction) && agree)
    (all_same (entries_agree iids computed (covered rule direction))
    (entries_agree iids all (covered rule direction)) fields
    (λ f among. entries_same rule iids direction computed all f h.payload_length h.udp_length
    h.checksum))

-- a packet of any stack is one of IPv6
pub ipv6-of : (of : Stack) (direction : Direction) (packet : List ℕ) (fields : List FieldValue)
    (from : ℕ) → PacketOf of direction packet fields from → IsIpv6 packet
ipv6-of stack.Ip direction packet fields from p = p.is_packet
ipv6-of stack.IpUdp direction packet fields from p = p.is_packet.ipv6
ipv6-of stack.IpUdpCoap direction packet fields from p = p.is_udp.ipv6

-- the bits of the SCHC packet under a rule that matches
pub record HasBits (rule : RuleData) (direction : Direction) (packet : List ℕ)
    (split : SplitData) : Type 0 where
  pub within : split.payload_from ≤ length packet
  pub residue : length (residue_of rule direction split.fields) < 2 ^ 62
  pub size : length packet < 2 ^ 17
  pub bits : length (schc_packet_under rule direction packet split).bits ≡ 8 + length
      (residue_of rule direction split.fields) + 8 * (length packet - split.payload_from)
  pub short : length packet ≤ 1500
      → length (schc_packet_under rule direction packet split).bits ≤ 12068

two_sixty : 1000000 < 2 ^ 62
two_sixty = omega arith

-- where an admitted rule matches, the SCHC packet has 8 bits, the residue and the payload,
-- and at most 12,068 bits of a packet of at most 1,500 bytes
pub has-bits : (rule : RuleData) (iids : Iids) (direction : Direction) (packet : List ℕ)
    (split : SplitData) → IsAdmitted rule → AreBytes packet
    → split_of (stack_of rule) direction packet ≡ Some split
    → does_match rule iids direction split.fields (computed_over (stack_of rule) packet) ≡ true
    → HasBits rule direction packet split
has-bits rule iids direction packet split admitted bytes e t =
    let p : PacketOf (stack_of rule) direction packet split.fields split.payload_from =
    split_of-packet (stack_of rule) direction packet split bytes e in
    let s : IsShort packet
    (length (residue_of rule direction split.fields) + 8 * length
    (drop split.payload_from packet)) =
    residue-short rule iids direction packet split.fields split.payload_from
    (computed_over (stack_of rule) packet) admitted p
    (does_match-true rule iids direction split.fields (computed_over (stack_of rule) packet) t)
    in
    let small =
    size_after-below packet
    (ipv6-of (stack_of rule) direction packet split.fields split.payload_from p) in
    let within : split.payload_from ≤ length packet =
    from-within (stack_of rule) direction packet split.fields split.payload_from p in
    let rest : length (drop split.payload_from packet) ≡ length packet - split.payload_from =
    length-drop split.payload_from packet in
    let bits : length (schc_packet_under rule direction packet split).bits ≡ 8 + length
    (residue_of rule direction split.fields) + 8 * (length packet - split.payload_from) =
    omega (
      arith,
      length-append (number_bits 8 rule.id)
          (residue_of rule direction split.fields ++ octets (drop split.payload_from packet)),
      length-number_bits 8 rule.id,
      length-append (residue_of rule direction split.fields)
          (octets (drop split.payload_from packet)),
      length-octets (drop split.payload_from packet),
      rest,
    )
    in
    record {
      within = within;
      residue = omega (arith, s.bound, s.few, small, two_sixty);
      size = omega (arith, small);
      bits = bits;
      short = λ few. omega (arith, s.bound, s.few, few, bits, rest);
    }

-- what is listed under the RuleID, where its rule matches
abbrev with : ℕ → ℕ → Candidate
with id bits = record { rule_id = id; bits = bits }

-- a rule that is tried and doesn't match the packet is no candidate under its RuleID
pub tried-none : (rules : List Listed) (iids : Iids) (direction : Direction) (packet : List ℕ)
    (split : SplitData) (computed : Computed) (id : ℕ) (listed : Listed)
    → lookup rules id ≡ Some listed → CanBeTried direction packet split computed listed
    → does_match listed.rule iids direction split.fields computed ≡ false
    → candidate_under rules iids direction packet id ≡ None
unfolding schc_packet_by
tried-none rules iids direction packet split computed id listed found can f =
    let no : does_match listed.rule iids direction split.fields
    (computed_over (stack_of listed.rule) packet) ≡ false =
    sym (match-same listed.rule iids direction split.fields packet computed can.its_computed)
    ∙ f in
    let schc_packet : schc_packet_by iids direction packet listed ≡ None =
    rw (can.is_live, can.its_split, no) refl in
    ap (candidate_by iids direction packet) found ∙ ap (option_map candidate_of) schc_packet

-- a rule that is tried and matches is a candidate with as many bits as its SCHC packet has
pub tried-some : (rules : List Listed) (iids : Iids) (direction : Direction) (packet : List ℕ)
    (split : SplitData) (computed : Computed) (id bits : ℕ) (listed : Listed)
    → lookup rules id ≡ Some listed → CanBeTried direction packet split computed listed
    → does_match listed.rule iids direction split.fields computed ≡ true
    → bits ≡ length (schc_packet_under listed.rule direction packet split).bits
    → candidate_under rules iids direction packet id ≡ Some (with id bits)
unfolding schc_packet_by
tried-some rules iids direction packet split computed id bits listed found can t b =
    let yes : does_match listed.rule iids direction split.fields
    (computed_over (stack_of listed.rule) packet) ≡ true =
    sym (match-same listed.rule iids direction split.fields packet computed can.its_computed)
    ∙ t in
    let schc_packet : schc_packet_by iids direction packet listed ≡ Some
    (schc_packet_under listed.rule direction packet split) =
    rw (can.is_live, can.its_split, yes) refl in
    let own : listed.rule.id ≡ id = (found-listed rules id listed found).1 in
    ap (candidate_by iids direction packet) found ∙ ap (option_map candidate_of) schc_packet
    ∙ ap (λ i. Some (with i (length (schc_packet_under listed.rule direction packet split).bits)))
    own ∙ ap (λ n. Some (with id n)) (sym b)
