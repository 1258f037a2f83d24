-- The rules that are tried: each of them is of its stack, and no rule with an SCHC packet is left
-- out.
use Rattle.std.specs.Prelude.{ℕ, ◌≡◌, ◌≤◌, ◌==◌, ◌||◌, ◌&&◌, Bool, true, false, List, [], ◌∷◌, ◌++◌}
use Rattle.std.specs.Prelude.{length, drop, filter, map, Option, Some, None, Contains}
use Rattle.std.specs.List.{list_any}
use Rattle.std.specs.Option.{option_map, option_map_or}
use Rattle.std.proofs.Common.{arith, ap, refl, sym, ◌∙◌, subst}
use Rattle.std.proofs.lemmas.Bool.{and_parts, or_left, or_right, eqb-true}
use Rattle.std.proofs.lemmas.List.{length-append}
use Rattle.std.proofs.lemmas.List.Elements.{Contains-append_left, Contains-append_right}
use Rattle.std.proofs.lemmas.List.Elements.{All-contains}
use Rattle.schc_bits.specs.Bits.{bits_value, number_bits, octets, AreBytes}
use Rattle.schc_bits.proofs.NumberBits.{length-number_bits}
use Rattle.schc_bits.proofs.Octets.{length-octets}
use Rattle.schc_ids.specs.declared.ends.Direction.{Direction}
use Rattle.schc_ids.specs.declared.ends.Iids.{Iids}
use Rattle.schc_ids.specs.declared.names.FieldName.TheVariants.{UdpAppPort}
use Rattle.schc_ids.specs.declared.names.Stack.{Stack}
use Rattle.schc_ids.specs.declared.names.Stack.TheVariants as stack
use Rattle.rule_model.specs.declared.value.Computed.{Computed}
use Rattle.rule_model.specs.declared.value.FieldValue.{FieldValue}
use Rattle.rule_model.specs.SplitData.{SplitData}
use Rattle.rule_model.specs.Cover.{computes_checksum, serves, stack_of}
use Rattle.rule_model.specs.Findings.{IsAdmitted}
use Rattle.rule_model.specs.Matches.{Matches}
use Rattle.rule_model.specs.Residue.{value_of}
use Rattle.rule_model.specs.Tests.{does_match}
use Rattle.rule_model.proofs.SizedLemmas.{Contains-filter}
use Rattle.rule_model.proofs.TestLemmas.{does_match-true}
use Rattle.decompress.proofs.LawLemmas.{unfilter}
use Rattle.ip_udp_fields.specs.Fields.{at_name}
use Rattle.coap_fields.specs.Reading.{message_in}
use Rattle.editions.specs.declared.listed.Listed.{Listed}
use Rattle.editions.specs.Data.{EditionData, IsAscending, IsSound, lookup}
use Rattle.editions.specs.Suspects.{same_stack, key_entry, key_field, takes_key, is_suspect}
use Rattle.editions.specs.Suspects.{suspects, key_value}
use Rattle.editions.proofs.SuspectLemmas.{is_suspect-from_Matches}
use Rattle.packer.specs.Packets.{PacketOf, with_message, split_of, computed_over}
use Rattle.packer.specs.declared.choosing.Candidate.{Candidate}
use Rattle.schc_ids.specs.Limits.{uncompressed_port}
use Rattle.packer.specs.Packing.{SchcPacketData, candidate_of, candidate_under, schc_packet_by}
use Rattle.packer.specs.Packing.{schc_packet_or_whole, shortest, smaller, smallest_of}
use Rattle.packer.specs.Packing.{schc_packet_under}
use Rattle.packer.specs.Searching.{suspects_in, suspects_of, IsComputedFor, IsComputedForAll}
use Rattle.packer.specs.Searching.{CanAllBeTried, computes_listed, computes_under, computed_with}
use Rattle.packer.specs.Searching.{IsFirstSchcPacket, IsSplitFarEnough, cut_to}
use Rattle.packer.proofs.writing.CandidateLemmas.{LeavesNoneOut, none-candidate, smallest-shortest}
use Rattle.packer.proofs.ChosenLemmas.{IsUnderRule, IsShortest, schc_packet-parts, shortest-least}
use Rattle.packer.proofs.coap.CoapHeadersLemmas.{headers-there}
use Rattle.packer.proofs.CoverLemmas.{Contains-map, some-passes}
use Rattle.packer.proofs.writing.FirstLemmas.{smallest-append}
use Rattle.packer.proofs.PacketFieldsLemmas.{Contains-unmap}
use Rattle.packer.proofs.reading.ReadBackLemmas.{reads-packet}
use Rattle.packer.proofs.SplitLemmas.{split_of-packet}
use Rattle.packer.proofs.writing.SplitsLemmas.{coap-parts, coap-cut, ip-cut, no-coap, no-udp}
use Rattle.packer.proofs.writing.SplitsLemmas.{port-same, split-fields, udp-cut}
use Rattle.packer.proofs.TriedLemmas.{has-bits}
use Rattle.packer.proofs.reading.UnpackedLemmas.{listed-found}

same_stack-true : (these those : Stack) → same_stack these those ≡ true → these ≡ those
same_stack-true stack.Ip stack.Ip h = refl
same_stack-true stack.IpUdp stack.IpUdp h = refl
same_stack-true stack.IpUdpCoap stack.IpUdpCoap h = refl
same_stack-true stack.Ip stack.IpUdp h = absurd (cc)
same_stack-true stack.Ip stack.IpUdpCoap h = absurd (cc)
same_stack-true stack.IpUdp stack.Ip h = absurd (cc)
same_stack-true stack.IpUdp stack.IpUdpCoap h = absurd (cc)
same_stack-true stack.IpUdpCoap stack.Ip h = absurd (cc)
same_stack-true stack.IpUdpCoap stack.IpUdp h = absurd (cc)

abbrev id_of : Listed → ℕ
id_of listed = listed.rule.id

-- a suspect is live, and of the stack
pub suspect-stack : (rules : List Listed) (direction : Direction) (of : Stack) (key id : ℕ)
    (listed : Listed) → IsAscending rules → Contains (suspects rules direction of key) id
    → lookup rules id ≡ Some listed → (listed.live ≡ true) × (stack_of listed.rule ≡ of)
unfolding suspects is_suspect
suspect-stack rules direction of key id listed rising among found =
    let m = Contains-unmap id_of (filter (is_suspect direction of key) rules) id among in
    let is = unfilter (is_suspect direction of key) rules m.0 m.1 in
    let other : lookup rules id ≡ Some m.0 = ap (lookup rules) (sym m.2)
    ∙ listed-found rules m.0 rising is.0 in
    let both : Some m.0 ≡ Some listed = sym other ∙ found in
    let one : m.0 ≡ listed = cc in
    let takes : Bool =
    option_map_or (λ e. takes_key key e.operator e.targets) (key_entry of m.0.rule direction)
    false in
    let first =
    and_parts (m.0.live && same_stack (stack_of m.0.rule) of && serves m.0.rule direction) takes
    is.1 in
    let second =
    and_parts (m.0.live && same_stack (stack_of m.0.rule) of) (serves m.0.rule direction)
    first.0 in
    let third = and_parts m.0.live (same_stack (stack_of m.0.rule) of) second.0 in (
      subst (λ (l : Listed). l.live ≡ true) one third.0,
      subst (λ (l : Listed). stack_of l.rule ≡ of) one
          (same_stack-true (stack_of m.0.rule) of third.1),
    )

-- a rule with an SCHC packet is a suspect
pub suspect-schc_packet : (edition : EditionData) (iids : Iids) (direction : Direction)
    (packet : List ℕ) (listed : Listed) (schc_packet : SchcPacketData) → IsSound edition
    → AreBytes packet → Contains edition.rules listed
    → schc_packet_by iids direction packet listed ≡ Some schc_packet
    → Contains (suspects_of edition.rules direction packet (stack_of listed.rule)) listed.rule.id
unfolding suspects
suspect-schc_packet edition iids direction packet listed schc_packet sound bytes among e =
    let of : Stack = stack_of listed.rule in
    let own : IsUnderRule iids direction packet listed schc_packet =
    schc_packet-parts iids direction packet listed schc_packet e in
    let m : Matches listed.rule iids direction own.split.fields (computed_over of packet) =
    does_match-true listed.rule iids direction own.split.fields (computed_over of packet)
    own.passes in
    let p : PacketOf of direction packet own.split.fields own.split.payload_from =
    split_of-packet of direction packet own.split bytes own.is_split in
    let suspect : is_suspect direction of (key_value of own.split.fields) listed ≡ true =
    is_suspect-from_Matches listed iids direction own.split.fields (computed_over of packet)
    (All-contains (λ l. IsAdmitted l.rule) edition.rules listed sound.admitted among) own.live
    (reads-packet listed.rule iids direction packet own.split.fields own.split.payload_from p m) m
    in
    subst (λ (o : Option SplitData). Contains (suspects_in edition.rules direction of o)
    listed.rule.id) (sym own.is_split)
    (Contains-map id_of
    (filter (is_suspect direction of (key_value of own.split.fields)) edition.rules) listed
    (Contains-filter (is_suspect direction of (key_value of own.split.fields)) edition.rules listed
    among suspect))

-- the rules of all stacks
abbrev pub all_suspects : List Listed → Direction → List ℕ → List ℕ
all_suspects rules direction packet =
    suspects_of rules direction packet
    stack.Ip ++ (suspects_of rules direction packet stack.IpUdp ++ suspects_of rules direction
    packet stack.IpUdpCoap)

in_all : (rules : List Listed) (direction : Direction) (packet : List ℕ) (of : Stack) (id : ℕ)
    → Contains (suspects_of rules direction packet of) id
    → Contains (all_suspects rules direction packet) id
in_all rules direction packet stack.Ip id h =
    Contains-append_left (suspects_of rules direction packet stack.Ip)
    (suspects_of rules direction packet stack.IpUdp ++ suspects_of rules direction packet
    stack.IpUdpCoap) id h
in_all rules direction packet stack.IpUdp id h =
    Contains-append_right (suspects_of rules direction packet stack.Ip)
    (suspects_of rules direction packet stack.IpUdp ++ suspects_of rules direction packet
    stack.IpUdpCoap) id
    (Contains-append_left (suspects_of rules direction packet stack.IpUdp)
    (suspects_of rules direction packet stack.IpUdpCoap) id h)
in_all rules direction packet stack.IpUdpCoap id h =
    Contains-append_right (suspects_of rules direction packet stack.Ip)
    (suspects_of rules direction packet stack.IpUdp ++ suspects_of rules direction packet
    stack.IpUdpCoap) id
    (Contains-append_right (suspects_of rules direction packet stack.IpUdp)
    (suspects_of rules direction packet stack.IpUdpCoap) id h)

pub none-left_out : (edition : EditionData) (iids : Iids) (direction : Direction) (packet : List ℕ)
    → IsSound edition → AreBytes packet
    → LeavesNoneOut edition.rules iids direction packet
    (all_suspects edition.rules direction packet)
none-left_out edition iids direction packet sound bytes listed schc_packet among e =
    in_all edition.rules direction packet (stack_of listed.rule) listed.rule.id
    (suspect-schc_packet edition iids direction packet listed schc_packet sound bytes among e)

-- suspects of a stack that the packet splits as can be tried
pub can-be-tried : (rules : List Listed) (direction : Direction) (packet : List ℕ) (of : Stack)
    (key : ℕ) (split : SplitData) (computed : Computed) (ids : List ℕ) → IsAscending rules
    → ids ≡ suspects rules direction of key → split_of of direction packet ≡ Some split
    → IsComputedForAll rules direction packet computed ids
    → CanAllBeTried rules direction packet split computed ids
can-be-tried rules direction packet of key split computed ids rising are e computes id listed among
    found =
    let is =
    suspect-stack rules direction of key id listed rising
    (subst (λ (xs : List ℕ). Contains xs id) are among) found in
    record {
      is_live = is.0;
      its_split = ap (λ of. split_of of direction packet) is.1 ∙ e;
      its_computed = computes id listed among found;
    }

-- over an IPv6 packet
pub computed-ip : (rules : List Listed) (direction : Direction) (packet : List ℕ) (key : ℕ)
    (computed : Computed) (ids : List ℕ) → IsAscending rules
    → ids ≡ suspects rules direction stack.Ip key → computed ≡ computed_over stack.Ip packet
    → IsComputedForAll rules direction packet computed ids
computed-ip rules direction packet key computed ids rising are e id listed among found =
    let is =
    suspect-stack rules direction stack.Ip key id listed rising
    (subst (λ (xs : List ℕ). Contains xs id) are among) found in
    let same : computed ≡ computed_over (stack_of listed.rule) packet = e
    ∙ ap (λ of. computed_over of packet) (sym is.1) in
    record {
      payload_length = ap (λ (c : Computed). c.payload_length) same;
      udp_length = ap (λ (c : Computed). c.udp_length) same;
      checksum = λ h. ap (λ (c : Computed). c.checksum) same;
    }

over_stack : (of : Stack) (packet : List ℕ) → (of ≡ stack.Ip → ⊥)
    → computed_over of packet ≡ computed_with true packet
over_stack stack.Ip packet h = absurd (h refl)
over_stack stack.IpUdp packet h = refl
over_stack stack.IpUdpCoap packet h = refl

with_sum : (sums : Bool) (packet : List ℕ) → sums ≡ true
    → (computed_with sums packet).checksum ≡ (computed_with true packet).checksum
with_sum sums packet e = rw e refl

-- over a packet with UDP, with its checksum where some suspect computes it
pub computed-udp : (rules : List Listed) (direction : Direction) (packet : List ℕ) (of : Stack)
    (key : ℕ) (sums : Bool) (computed : Computed) (ids : List ℕ) → IsAscending rules
    → (of ≡ stack.Ip → ⊥) → ids ≡ suspects rules direction of key
    → computed ≡ computed_with sums packet
    → (list_any (computes_under rules direction) ids ≡ true → sums ≡ true)
    → IsComputedForAll rules direction packet computed ids
computed-udp rules direction packet of key sums computed ids rising other are e h id listed among
    found =
    let is =
    suspect-stack rules direction of key id listed rising
    (subst (λ (xs : List ℕ). Contains xs id) are among) found in
    let over : computed_over (stack_of listed.rule) packet ≡ computed_with true packet =
    over_stack (stack_of listed.rule) packet (λ ip. other (sym is.1 ∙ ip)) in
    record {
      payload_length = ap (λ (c : Computed). c.payload_length) e
          ∙ ap (λ (c : Computed). c.payload_length) (sym over);
      udp_length = ap (λ (c : Computed). c.udp_length) e
          ∙ ap (λ (c : Computed). c.udp_length) (sym over);
      checksum = λ c.
          let own : computes_under rules direction id ≡ true = ap (computes_listed direction) found
          ∙ c in
          ap (λ (c : Computed). c.checksum) e
          ∙ with_sum sums packet
          (h (some-passes (computes_under rules direction) ids id among own))
          ∙ ap (λ (c : Computed). c.checksum) (sym over);
    }

-- the key of a packet with CoAP is that of the packet with UDP
coap_key : (direction : Direction) (packet : List ℕ) (headers split : SplitData)
    → split_of stack.IpUdp direction packet ≡ Some headers
    → with_message headers (message_in (drop 48 packet)) ≡ Some split
    → key_value stack.IpUdpCoap split.fields ≡ key_value stack.IpUdp headers.fields
coap_key direction packet headers split e w =
    let m = coap-parts headers split (message_in (drop 48 packet)) w in
    ap (λ (fields : List FieldValue). bits_value (value_of fields (at_name UdpAppPort))) m.1
    ∙ ap bits_value (port-same direction packet headers m.0.fields e)

-- the suspects of the stack with CoAP
pub coap-suspects : (rules : List Listed) (direction : Direction) (packet : List ℕ)
    (headers split : SplitData) → split_of stack.IpUdp direction packet ≡ Some headers
    → with_message headers (message_in (drop 48 packet)) ≡ Some split
    → split_of stack.IpUdpCoap direction packet ≡ Some split
    → suspects_of rules direction packet stack.IpUdpCoap ≡ suspects rules direction stack.IpUdpCoap
    (key_value stack.IpUdp headers.fields)
coap-suspects rules direction packet headers split e w c =
    ap (suspects_in rules direction stack.IpUdpCoap) c
    ∙ ap (suspects rules direction stack.IpUdpCoap)
    (coap_key direction packet headers split e w)

-- a packet that isn't split as one of the stack may match none of the stack's rules
pub no-suspects : (rules : List Listed) (direction : Direction) (packet : List ℕ) (of : Stack)
    → split_of of direction packet ≡ None → suspects_of rules direction packet of ≡ []
no-suspects rules direction packet of e = ap (suspects_in rules direction of) e

-- the rules of a stack that a packet may match are those found by the number in its key field
pub some-suspects : (rules : List Listed) (direction : Direction) (packet : List ℕ) (of : Stack)
    (split : SplitData) → split_of of direction packet ≡ Some split
    → suspects_of rules direction packet of ≡ suspects rules direction of
    (key_value of split.fields)
some-suspects rules direction packet of split e = ap (suspects_in rules direction of) e

-- split as far as is needed
pub far-ip : (rules : List Listed) (direction : Direction) (packet : List ℕ) (s : SplitData)
    → split_of stack.Ip direction packet ≡ Some s → split_of stack.IpUdp direction packet ≡ None
    → IsSplitFarEnough rules direction packet s
far-ip rules direction packet s e n stack.Ip id own among f = ip-cut direction packet s own e f
far-ip rules direction packet s e n stack.IpUdp id own among f = let both : None ≡ Some own = sym n
    ∙ f in absurd (cc)
far-ip rules direction packet s e n stack.IpUdpCoap id own among f = let both : None ≡ Some own =
    sym (no-coap direction packet n) ∙ f in absurd (cc)

-- a split as one of UDP goes far enough where the packet may match no rule with CoAP
pub far-udp : (rules : List Listed) (direction : Direction) (packet : List ℕ) (s : SplitData)
    → split_of stack.IpUdp direction packet ≡ Some s
    → suspects_of rules direction packet stack.IpUdpCoap ≡ []
    → IsSplitFarEnough rules direction packet s
far-udp rules direction packet s e n stack.Ip id own among f =
    udp-cut stack.Ip direction packet s own tt e f
far-udp rules direction packet s e n stack.IpUdp id own among f =
    udp-cut stack.IpUdp direction packet s own tt e f
far-udp rules direction packet s e n stack.IpUdpCoap id own among f =
    let none : Contains [] id = subst (λ (xs : List ℕ). Contains xs id) n among in
    absurd (omega (arith, none.1))

-- a split with the CoAP message goes far enough for every rule
pub far-coap : (rules : List Listed) (direction : Direction) (packet : List ℕ)
    (headers s : SplitData) → split_of stack.IpUdp direction packet ≡ Some headers
    → with_message headers (message_in (drop 48 packet)) ≡ Some s
    → split_of stack.IpUdpCoap direction packet ≡ Some s → IsSplitFarEnough rules direction packet s
far-coap rules direction packet headers s e w c of id own among f =
    coap-cut of direction packet headers s own e w c f

-- the candidate of all stacks is that of the shortest SCHC packet
pub tried-shortest : (edition : EditionData) (iids : Iids) (direction : Direction) (packet : List ℕ)
    (a b : Option Candidate) → IsSound edition → AreBytes packet
    → a ≡ smallest_of (candidate_under edition.rules iids direction packet)
    (suspects_of edition.rules direction packet stack.Ip)
    → b ≡ smallest_of (candidate_under edition.rules iids direction packet)
    (suspects_of edition.rules direction packet stack.IpUdp ++ suspects_of edition.rules direction
    packet stack.IpUdpCoap)
    → smaller a b ≡ option_map candidate_of (shortest iids direction packet edition.rules)
tried-shortest edition iids direction packet a b sound bytes e f =
    let rules : List Listed = edition.rules in
    let one : ℕ → Option Candidate = candidate_under rules iids direction packet in
    let udp : List ℕ =
    suspects_of rules direction packet stack.IpUdp ++ suspects_of rules direction packet
    stack.IpUdpCoap in
    ap (λ o. smaller o b) e
    ∙ ap (smaller (smallest_of one (suspects_of rules direction packet stack.Ip))) f
    ∙ sym (smallest-append one (suspects_of rules direction packet stack.Ip) udp)
    ∙ smallest-shortest rules iids direction packet (all_suspects rules direction packet)
    sound.ascending (none-left_out edition iids direction packet sound bytes)

-- a packet that isn't split as one of UDP may match no rule with UDP, and none with CoAP
pub no-udp-suspects : (rules : List Listed) (direction : Direction) (packet : List ℕ)
    → split_of stack.IpUdp direction packet ≡ None
    → (suspects_of rules direction packet stack.IpUdp ++ suspects_of rules direction packet
    stack.IpUdpCoap) ≡ []
no-udp-suspects rules direction packet u =
    ap (λ (ids : List ℕ). ids ++ suspects_of rules direction packet stack.IpUdpCoap)
    (no-suspects rules direction packet stack.IpUdp u)
    ∙ no-suspects rules direction packet stack.IpUdpCoap (no-coap direction packet u)

-- no packet of IPv6
pub none-shortest : (edition : EditionData) (iids : Iids) (direction : Direction) (packet : List ℕ)
    → IsSound edition → AreBytes packet → split_of stack.Ip direction packet ≡ None
    → shortest iids direction packet edition.rules ≡ None
none-shortest edition iids direction packet sound bytes e =
    let rules : List Listed = edition.rules in
    let one : ℕ → Option Candidate = candidate_under rules iids direction packet in
    let u : split_of stack.IpUdp direction packet ≡ None = no-udp direction packet e in
    let none : (suspects_of rules direction packet stack.IpUdp ++ suspects_of rules direction packet
    stack.IpUdpCoap) ≡ [] =
    no-udp-suspects rules direction packet u
    in
    none-candidate (shortest iids direction packet rules)
    (sym (tried-shortest edition iids direction packet None None sound bytes
    (ap (smallest_of one) (sym (no-suspects rules direction packet stack.Ip e)))
    (ap (smallest_of one) (sym none))))

empty_by : (rules : List Listed) (direction : Direction) (packet : List ℕ) (headers : SplitData)
    (o : Option SplitData) → split_of stack.IpUdp direction packet ≡ Some headers
    → with_message headers (message_in (drop 48 packet)) ≡ o
    → suspects rules direction stack.IpUdpCoap (key_value stack.IpUdp headers.fields) ≡ []
    → suspects_of rules direction packet stack.IpUdpCoap ≡ []
empty_by rules direction packet headers None e w n =
    no-suspects rules direction packet stack.IpUdpCoap
    (headers-there direction packet headers (split-fields stack.IpUdp direction packet headers tt e)
    ∙ w)
empty_by rules direction packet headers (Some s) e w n =
    coap-suspects rules direction packet headers s e w
    (headers-there direction packet headers
    (split-fields stack.IpUdp direction packet headers tt e) ∙ w) ∙ n

-- where no rule may match the application's port
pub coap-empty : (rules : List Listed) (direction : Direction) (packet : List ℕ)
    (headers : SplitData) (ids : List ℕ) → split_of stack.IpUdp direction packet ≡ Some headers
    → ids ≡ suspects rules direction stack.IpUdpCoap (key_value stack.IpUdp headers.fields)
    → (length ids == 0) ≡ true → suspects_of rules direction packet stack.IpUdpCoap ≡ []
coap-empty rules direction packet headers [] e is n =
    empty_by rules direction packet headers (with_message headers (message_in (drop 48 packet))) e
    refl (sym is)
coap-empty rules direction packet headers (id ∷ ids) e is n =
    absurd (omega (arith, eqb-true (length (id ∷ ids)) 0 n))

-- the SCHC packet of the rule that is chosen
pub record IsOwnSchcPacket (iids : Iids) (direction : Direction) (packet : List ℕ) (listed : Listed)
    (split : SplitData) (schc_packet : SchcPacketData) : Type 0 where
  pub is_split : split_of (stack_of listed.rule) direction packet ≡ Some split
  pub passes : does_match listed.rule iids direction split.fields
      (computed_over (stack_of listed.rule) packet) ≡ true
  pub is : schc_packet ≡ schc_packet_under listed.rule direction packet split

-- of a packet split far enough, the rule that is chosen matches the split cut to its stack, and
-- makes of it the SCHC packet that comes first
pub own-schc_packet : (edition : EditionData) (iids : Iids) (direction : Direction)
    (packet : List ℕ) (id : ℕ) (split : SplitData) (listed : Listed) → IsSound edition
    → AreBytes packet → IsSplitFarEnough edition.rules direction packet split
    → lookup edition.rules id ≡ Some listed
    → (first : IsFirstSchcPacket edition.rules iids direction packet id)
    → IsOwnSchcPacket iids direction packet listed (cut_to (stack_of listed.rule) split)
    first.schc_packet
own-schc_packet edition iids direction packet id split listed sound bytes far found first =
    let both : Some first.listed ≡ Some listed = sym first.found ∙ found in
    let one : first.listed ≡ listed = cc in
    let schc_packet : schc_packet_by iids direction packet listed ≡ Some first.schc_packet =
    subst (λ (l : Listed). schc_packet_by iids direction packet l ≡ Some first.schc_packet) one
    first.has_schc_packet in
    let own : IsUnderRule iids direction packet listed first.schc_packet =
    schc_packet-parts iids direction packet listed first.schc_packet schc_packet in
    let among : Contains edition.rules listed = subst (Contains edition.rules) one first.among in
    let cut : cut_to (stack_of listed.rule) split ≡ own.split =
    far (stack_of listed.rule) listed.rule.id own.split
    (suspect-schc_packet edition iids direction packet listed first.schc_packet sound bytes
    among schc_packet) own.is_split
    in
    subst (λ (s : SplitData). IsOwnSchcPacket iids direction packet listed s first.schc_packet)
    (sym cut)
    (record { is_split = own.is_split; passes = own.passes; is = own.is })

-- an SCHC packet of a packet of at most 1,500 bytes
pub schc_packet-short : (edition : EditionData) (iids : Iids) (direction : Direction)
    (packet : List ℕ) (o : Option SchcPacketData) → IsSound edition → AreBytes packet
    → length packet ≤ 1500 → shortest iids direction packet edition.rules ≡ o
    → length (schc_packet_or_whole packet o).bits ≤ 12068
schc_packet-short edition iids direction packet None sound bytes few e =
    omega (
      arith,
      few,
      length-append (number_bits 8 uncompressed_port) (octets packet),
      length-number_bits 8 uncompressed_port,
      length-octets packet,
    )
schc_packet-short edition iids direction packet (Some schc_packet) sound bytes few e =
    let least : IsShortest iids direction packet edition.rules schc_packet =
    shortest-least iids direction packet edition.rules schc_packet e in
    let own : IsUnderRule iids direction packet least.listed schc_packet =
    schc_packet-parts iids direction packet least.listed schc_packet least.schc_packet in
    let admitted : IsAdmitted least.listed.rule =
    All-contains (λ l. IsAdmitted l.rule) edition.rules least.listed sound.admitted least.among
    in
    let h = has-bits least.listed.rule iids direction packet own.split admitted bytes own.is_split
    own.passes in
    subst (λ (f : SchcPacketData). length f.bits ≤ 12068) (sym own.is) (h.short few)
