-- The SCHC packet that is written is the one that is chosen.
use Rattle.std.specs.Prelude.{ℕ, ◌≡◌, ◌<◌, ◌≤◌, ◌⊎◌, zero, suc, Bool, true, List, [], ◌∷◌, ◌++◌}
use Rattle.std.specs.Prelude.{length, drop, Option, Some, None, Contains}
use Rattle.std.proofs.Common.{arith, ap, refl, sym, ◌∙◌, subst, inl, inr}
use Rattle.std.proofs.lemmas.Bool.{cases_Bool}
use Rattle.schc_bits.specs.Bits.{number_bits, octets, AreBytes}
use Rattle.schc_ids.specs.declared.ends.Direction.{Direction}
use Rattle.schc_ids.specs.declared.ends.Iids.{Iids}
use Rattle.rule_model.specs.Data.{RuleData}
use Rattle.rule_model.specs.SplitData.{SplitData}
use Rattle.rule_model.specs.Cover.{stack_of}
use Rattle.rule_model.specs.Residue.{residue_of}
use Rattle.rule_model.specs.Tests.{does_match}
use Rattle.rule_model.proofs.TestLemmas.{does_match-true, does_match-from}
use Rattle.rule_model.proofs.SizedLemmas.{Contains-first, Contains-rest}
use Rattle.editions.specs.declared.listed.Listed.{Listed}
use Rattle.editions.specs.Data.{EditionData}
use Rattle.packer.specs.Packets.{split_of, computed_over}
use Rattle.packer.specs.Schc.{IsCandidate, IsNoLonger, IsChosen}
use Rattle.packer.specs.Schc.IsChosen.{by_rule, by_none}
use Rattle.packer.specs.Packing.{SchcPacketData, schc_packet_under, matching_schc_packet}
use Rattle.packer.specs.Packing.{schc_packet_by, candidate_of, is_preferred, shorter, shortest}
use Rattle.packer.specs.Packing.{schc_packet_or_whole, packed}
use Rattle.packer.specs.Laws.{PacksChosen}
use Rattle.packer.proofs.SplitLemmas.{split_of-packet, packet-split_of, packet-one}
use Rattle.packer.proofs.writing.FirstLemmas.{ComesFirst, preferred-true, preferred-false}
use Rattle.packer.proofs.writing.FirstLemmas.{first-trans}
use Rattle.packer.proofs.writing.ShorterLemmas.{shorter-first, shorter-later, shorter-both}

-- the SCHC packet of a split packet that the rule matches
matching_schc_packet-some : (rule : RuleData) (iids : Iids) (direction : Direction)
    (packet : List ℕ) (o : Option SplitData) (f : SchcPacketData)
    → matching_schc_packet rule iids direction packet o ≡ Some f → (split : SplitData)
    × (o ≡ Some split)
    × (does_match rule iids direction split.fields (computed_over (stack_of rule) packet) ≡ true)
    × (f ≡ schc_packet_under rule direction packet split)
matching_schc_packet-some rule iids direction packet None f e = absurd (cc)
matching_schc_packet-some rule iids direction packet (Some split) f e =
    elim (cases_Bool
    (does_match rule iids direction split.fields (computed_over (stack_of rule) packet))) [
      | inl t ↦
          let some : matching_schc_packet rule iids direction packet (Some split) ≡ Some
          (schc_packet_under rule direction packet split) = rw t refl in
          let same : Some (schc_packet_under rule direction packet split) ≡ Some f = sym some ∙ e in
          (split, refl, t, cc)
      | inr n ↦
          let none : matching_schc_packet rule iids direction packet (Some split) ≡ None =
          rw n refl in
          absurd (cc)
    ]

-- an SCHC packet under a listed rule is of a live rule that matches
pub record IsUnderRule (iids : Iids) (direction : Direction) (packet : List ℕ) (listed : Listed)
    (f : SchcPacketData) : Type 0 where
  pub split : SplitData
  pub live : listed.live ≡ true
  pub is_split : split_of (stack_of listed.rule) direction packet ≡ Some split
  pub passes : does_match listed.rule iids direction split.fields
      (computed_over (stack_of listed.rule) packet) ≡ true
  pub is : f ≡ schc_packet_under listed.rule direction packet split

-- a listed rule that has an SCHC packet of the packet is live and matches it, as it is split
pub schc_packet-parts : (iids : Iids) (direction : Direction) (packet : List ℕ) (listed : Listed)
    (f : SchcPacketData) → schc_packet_by iids direction packet listed ≡ Some f
    → IsUnderRule iids direction packet listed f
unfolding schc_packet_by
schc_packet-parts iids direction packet listed f e =
    elim (cases_Bool listed.live) [
      | inl t ↦
          let schc_packet : schc_packet_by iids direction packet listed ≡ matching_schc_packet
          listed.rule iids direction packet (split_of (stack_of listed.rule) direction packet) =
          rw t refl in
          let some : (split : SplitData)
          × (split_of (stack_of listed.rule) direction packet ≡ Some split)
          × (does_match listed.rule iids direction split.fields
          (computed_over (stack_of listed.rule) packet) ≡ true)
          × (f ≡ schc_packet_under listed.rule direction packet split) =
          matching_schc_packet-some listed.rule iids direction packet
          (split_of (stack_of listed.rule) direction packet) f (sym schc_packet ∙ e) in
          record { split = some.0; live = t; is_split = some.1; passes = some.2; is = some.3 }
      | inr n ↦
          let none : schc_packet_by iids direction packet listed ≡ None = rw n refl in
          absurd (cc)
    ]

-- and is the packet's
pub schc_packet-candidate : (edition : EditionData) (iids : Iids) (direction : Direction)
    (packet : List ℕ) (listed : Listed) (f : SchcPacketData) → AreBytes packet
    → Contains edition.rules listed → schc_packet_by iids direction packet listed ≡ Some f
    → IsCandidate edition iids direction packet listed f.bits
schc_packet-candidate edition iids direction packet listed f bytes among e =
    let schc_packet : IsUnderRule iids direction packet listed f =
    schc_packet-parts iids direction packet listed f e in
    record {
      listing = among;
      is_live = schc_packet.live;
      matching = record {
        fields = schc_packet.split.fields;
        payload_from = schc_packet.split.payload_from;
        is_packet =
            split_of-packet (stack_of listed.rule) direction packet schc_packet.split bytes
            schc_packet.is_split;
        matches =
            does_match-true listed.rule iids direction schc_packet.split.fields
            (computed_over (stack_of listed.rule) packet) schc_packet.passes;
      };
      its_schc_packet = record {
        fields = schc_packet.split.fields;
        payload_from = schc_packet.split.payload_from;
        is_packet =
            split_of-packet (stack_of listed.rule) direction packet schc_packet.split bytes
            schc_packet.is_split;
        bits_are = ap (λ (f : SchcPacketData). f.bits) schc_packet.is;
      };
    }

-- a rule that is a candidate gives its SCHC packet
pub candidate-schc_packet : (edition : EditionData) (iids : Iids) (direction : Direction)
    (packet : List ℕ) (listed : Listed) (bits : List Bool)
    → IsCandidate edition iids direction packet listed bits
    → schc_packet_by iids direction packet listed ≡ Some
    (record { rule_id = listed.rule.id; bits = bits })
unfolding schc_packet_by
candidate-schc_packet edition iids direction packet listed bits c =
    let split : split_of (stack_of listed.rule) direction packet ≡ Some
    (record { fields = c.matching.fields; payload_from = c.matching.payload_from }) =
    packet-split_of (stack_of listed.rule) direction packet c.matching.fields
    c.matching.payload_from c.matching.is_packet in
    let test : does_match listed.rule iids direction c.matching.fields
    (computed_over (stack_of listed.rule) packet) ≡ true =
    does_match-from listed.rule iids direction c.matching.fields
    (computed_over (stack_of listed.rule) packet) c.matching.matches in
    let one : (c.its_schc_packet.fields ≡ c.matching.fields)
    × (c.its_schc_packet.payload_from ≡ c.matching.payload_from) =
    packet-one (stack_of listed.rule) direction packet c.its_schc_packet.fields
    c.its_schc_packet.payload_from
    (record { fields = c.matching.fields; payload_from = c.matching.payload_from })
    c.its_schc_packet.is_packet split in
    let schc_packet : schc_packet_by iids direction packet listed ≡ Some
    (schc_packet_under listed.rule direction packet
    (record { fields = c.matching.fields; payload_from = c.matching.payload_from })) =
    rw (c.is_live, split, test) refl in
    let written : number_bits 8
    listed.rule.id ++ (residue_of listed.rule direction c.matching.fields ++ octets
    (drop c.matching.payload_from packet)) ≡ bits =
    subst (λ fields. number_bits 8
    listed.rule.id ++ (residue_of listed.rule direction fields ++ octets
    (drop c.matching.payload_from packet)) ≡ bits) one.0
    (subst (λ from. number_bits 8
    listed.rule.id ++ (residue_of listed.rule direction c.its_schc_packet.fields ++ octets
    (drop from packet)) ≡ bits) one.1 (sym c.its_schc_packet.bits_are))
    in
    schc_packet
    ∙ ap (λ (bits : List Bool). Some (record { rule_id = listed.rule.id; bits = bits })) written

-- an element is the first one, or one of the rest
first_or_rest : {X : Type 0} → (x : X) (xs : List X) (y : X) → Contains (x ∷ xs) y → (x ≡ y)
    ⊎ Contains xs y
first_or_rest x xs y (zero, bound, same) = inl same
first_or_rest x xs y (suc k, bound, same) = inr (k, omega arith, same)

-- where there is no shortest SCHC packet, there is none
pub shortest-none : (iids : Iids) (direction : Direction) (packet : List ℕ) (rules : List Listed)
    → shortest iids direction packet rules ≡ None → (other : Listed) → Contains rules other
    → schc_packet_by iids direction packet other ≡ None
shortest-none iids direction packet [] e other (k, bound, same) = absurd (omega arith)
shortest-none iids direction packet (listed ∷ rules) e other among =
    let both : (schc_packet_by iids direction packet listed ≡ None)
    × (shortest iids direction packet rules ≡ None) =
    shorter-both (schc_packet_by iids direction packet listed)
    (shortest iids direction packet rules) e in
    elim (first_or_rest listed rules other among) [
      | inl same ↦ subst (λ other. schc_packet_by iids direction packet other ≡ None) same both.0
      | inr rest ↦ shortest-none iids direction packet rules both.1 other rest
    ]

-- the SCHC packet is of one of the rules, and no other SCHC packet is shorter, or as short with a
-- lower RuleID
pub record IsShortest (iids : Iids) (direction : Direction) (packet : List ℕ) (rules : List Listed)
    (f : SchcPacketData) : Type 0 where
  pub listed : Listed
  pub among : Contains rules listed
  pub schc_packet : schc_packet_by iids direction packet listed ≡ Some f
  pub least : (other : Listed) (g : SchcPacketData) → Contains rules other
      → schc_packet_by iids direction packet other ≡ Some g
      → IsNoLonger f.rule_id f.bits g.rule_id g.bits

is_same : (iids : Iids) (direction : Direction) (packet : List ℕ) (listed : Listed)
    (f g : SchcPacketData) → schc_packet_by iids direction packet listed ≡ Some f
    → schc_packet_by iids direction packet listed ≡ Some g → f ≡ g
is_same iids direction packet listed f g a b = let both : Some f ≡ Some g = sym a ∙ b in cc

itself : (f g : SchcPacketData) → f ≡ g → IsNoLonger f.rule_id f.bits g.rule_id g.bits
itself f g e =
    subst (λ (g : SchcPacketData). IsNoLonger f.rule_id f.bits g.rule_id g.bits) e
    (inr (refl, omega arith))

-- the RuleID of an SCHC packet is its rule's
pub schc_packet-id : (iids : Iids) (direction : Direction) (packet : List ℕ) (listed : Listed)
    (f : SchcPacketData) → schc_packet_by iids direction packet listed ≡ Some f
    → f.rule_id ≡ listed.rule.id
schc_packet-id iids direction packet listed f e =
    ap (λ (f : SchcPacketData). f.rule_id) (schc_packet-parts iids direction packet listed f e).is

-- the first SCHC packet comes before the shortest of the rest
first-least : (iids : Iids) (direction : Direction) (packet : List ℕ) (listed : Listed)
    (rules : List Listed) (f g : SchcPacketData)
    → schc_packet_by iids direction packet listed ≡ Some f
    → IsShortest iids direction packet rules g → ComesFirst (candidate_of f) (candidate_of g)
    → IsShortest iids direction packet (listed ∷ rules) f
first-least iids direction packet listed rules f g e rest first =
    record {
      listed = listed;
      among = Contains-first listed rules;
      schc_packet = e;
      least = λ other h among schc_packet.
          elim (first_or_rest listed rules other among) [
            | inl same ↦
                itself f h
                (is_same iids direction packet listed f h e
                (subst (λ other. schc_packet_by iids direction packet other ≡ Some h) (sym same)
                schc_packet))
            | inr later ↦ first-trans (candidate_of f) (candidate_of g) (candidate_of h) first
                (rest.least other h later schc_packet)
          ];
    }

-- the shortest of the rest comes before the first SCHC packet
later-least : (iids : Iids) (direction : Direction) (packet : List ℕ) (listed : Listed)
    (rules : List Listed) (f g : SchcPacketData)
    → schc_packet_by iids direction packet listed ≡ Some f
    → IsShortest iids direction packet rules g → ComesFirst (candidate_of g) (candidate_of f)
    → IsShortest iids direction packet (listed ∷ rules) g
later-least iids direction packet listed rules f g e rest first =
    record {
      listed = rest.listed;
      among = Contains-rest listed rules rest.listed rest.among;
      schc_packet = rest.schc_packet;
      least = λ other h among schc_packet.
          elim (first_or_rest listed rules other among) [
            | inl same ↦
                let one : f ≡ h =
                is_same iids direction packet listed f h e
                (subst (λ other. schc_packet_by iids direction packet other ≡ Some h) (sym same)
                schc_packet) in
                subst (λ (h : SchcPacketData). ComesFirst (candidate_of g) (candidate_of h)) one
                first
            | inr later ↦ rest.least other h later schc_packet
          ];
    }

-- no SCHC packet of the first rule
rest-least : (iids : Iids) (direction : Direction) (packet : List ℕ) (listed : Listed)
    (rules : List Listed) (g : SchcPacketData) → schc_packet_by iids direction packet listed ≡ None
    → IsShortest iids direction packet rules g → IsShortest iids direction packet (listed ∷ rules) g
rest-least iids direction packet listed rules g e rest =
    record {
      listed = rest.listed;
      among = Contains-rest listed rules rest.listed rest.among;
      schc_packet = rest.schc_packet;
      least = λ other h among schc_packet.
          elim (first_or_rest listed rules other among) [
            | inl same ↦
                let none : schc_packet_by iids direction packet other ≡ None =
                subst (λ other. schc_packet_by iids direction packet other ≡ None) same e in
                let both : None ≡ Some h = sym none ∙ schc_packet in
                absurd (cc)
            | inr later ↦ rest.least other h later schc_packet
          ];
    }

-- no SCHC packet of the rest
only-least : (iids : Iids) (direction : Direction) (packet : List ℕ) (listed : Listed)
    (rules : List Listed) (f : SchcPacketData)
    → schc_packet_by iids direction packet listed ≡ Some f
    → shortest iids direction packet rules ≡ None
    → IsShortest iids direction packet (listed ∷ rules) f
only-least iids direction packet listed rules f e none =
    record {
      listed = listed;
      among = Contains-first listed rules;
      schc_packet = e;
      least = λ other h among schc_packet.
          elim (first_or_rest listed rules other among) [
            | inl same ↦
                itself f h
                (is_same iids direction packet listed f h e
                (subst (λ other. schc_packet_by iids direction packet other ≡ Some h) (sym same)
                schc_packet))
            | inr later ↦
                let both : None ≡ Some h =
                sym (shortest-none iids direction packet rules none other later)
                ∙ schc_packet in
                absurd (cc)
          ];
    }

next-least : (iids : Iids) (direction : Direction) (packet : List ℕ) (listed : Listed)
    (rules : List Listed) (a b : Option SchcPacketData) (f : SchcPacketData)
    → schc_packet_by iids direction packet listed ≡ a → shortest iids direction packet rules ≡ b
    → ((g : SchcPacketData) → b ≡ Some g → IsShortest iids direction packet rules g)
    → shorter a b ≡ Some f → IsShortest iids direction packet (listed ∷ rules) f
next-least iids direction packet listed rules None None f e r rest s = absurd (cc)
next-least iids direction packet listed rules None (Some g) f e r rest s =
    rest-least iids direction packet listed rules f e (rest f s)
next-least iids direction packet listed rules (Some h) None f e r rest s =
    only-least iids direction packet listed rules f (e ∙ s) r
next-least iids direction packet listed rules (Some h) (Some g) f e r rest s =
    elim (cases_Bool (is_preferred (candidate_of h) (candidate_of g))) [
      | inl t ↦
          let one : Some h ≡ Some f = sym (shorter-first h g t) ∙ s in
          let same : h ≡ f = cc in
          subst (IsShortest iids direction packet (listed ∷ rules)) same
          (first-least iids direction packet listed rules h g e (rest g refl)
          (preferred-true (candidate_of h) (candidate_of g) t))
      | inr n ↦
          let one : Some g ≡ Some f = sym (shorter-later h g n) ∙ s in
          let same : g ≡ f = cc in
          subst (IsShortest iids direction packet (listed ∷ rules)) same
          (later-least iids direction packet listed rules h g e (rest g refl)
          (preferred-false (candidate_of h) (candidate_of g) n))
    ]

-- of the SCHC packets under these rules the one that is taken is no longer than any other:
-- it has fewer bits, or as many under a RuleID that isn't higher
pub shortest-least : (iids : Iids) (direction : Direction) (packet : List ℕ) (rules : List Listed)
    (f : SchcPacketData) → shortest iids direction packet rules ≡ Some f
    → IsShortest iids direction packet rules f
shortest-least iids direction packet [] f e = absurd (cc)
shortest-least iids direction packet (listed ∷ rules) f e =
    next-least iids direction packet listed rules (schc_packet_by iids direction packet listed)
    (shortest iids direction packet rules) f refl refl
    (λ g s. shortest-least iids direction packet rules g s) e

-- the shortest SCHC packet is chosen, and the packet as it is where there is none
pub chosen-by : (edition : EditionData) (iids : Iids) (direction : Direction) (packet : List ℕ)
    (o : Option SchcPacketData) → AreBytes packet → shortest iids direction packet edition.rules ≡ o
    → IsChosen edition iids direction packet (schc_packet_or_whole packet o).rule_id
    (schc_packet_or_whole packet o).bits
chosen-by edition iids direction packet None bytes e =
    by_none (λ other bits c.
    let both : None ≡ Some (record { rule_id = other.rule.id; bits = bits }) =
    sym (shortest-none iids direction packet edition.rules e other c.listing)
    ∙ candidate-schc_packet edition iids direction packet other bits c in
    absurd (cc))
chosen-by edition iids direction packet (Some f) bytes e =
    let least : IsShortest iids direction packet edition.rules f =
    shortest-least iids direction packet edition.rules f e in
    let found : IsCandidate edition iids direction packet least.listed f.bits =
    schc_packet-candidate edition iids direction packet least.listed f bytes least.among
    least.schc_packet in
    let id : f.rule_id ≡ least.listed.rule.id =
    schc_packet-id iids direction packet least.listed f least.schc_packet in
    subst (λ id. IsChosen edition iids direction packet id f.bits) (sym id)
    (by_rule least.listed f.bits found (λ other bits c.
    subst (λ id. IsNoLonger id f.bits other.rule.id bits) id
    (least.least other (record { rule_id = other.rule.id; bits = bits }) c.listing
    (candidate-schc_packet edition iids direction packet other bits c))))

-- a packet is written under the rule that is chosen
pub packed-chosen : PacksChosen
unfolding packed
packed-chosen edition iids direction packet sound bytes =
    chosen-by edition iids direction packet (shortest iids direction packet edition.rules) bytes
    refl
