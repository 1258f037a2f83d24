-- The candidate that comes first among some RuleIDs is that of the shortest SCHC packet, where no
-- rule with an SCHC packet is left out.
use Rattle.std.specs.Prelude.{ℕ, ◌≡◌, List, [], ◌∷◌, map, Option, Some, None, Contains}
use Rattle.std.specs.Option.{option_map}
use Rattle.std.proofs.Common.{ap, refl, sym, ◌∙◌, subst}
use Rattle.schc_ids.specs.declared.ends.Direction.{Direction}
use Rattle.schc_ids.specs.declared.ends.Iids.{Iids}
use Rattle.rule_model.proofs.SizedLemmas.{Contains-first, Contains-rest}
use Rattle.editions.specs.declared.listed.Listed.{Listed}
use Rattle.editions.specs.Data.{IsAscending, lookup}
use Rattle.packer.specs.declared.choosing.Candidate.{Candidate}
use Rattle.packer.specs.Packing.{SchcPacketData, schc_packet_by, candidate_of, smaller, smallest_of}
use Rattle.packer.specs.Packing.{candidate_by, candidate_under, shortest}
use Rattle.packer.specs.Searching.{IsFirstSchcPacket}
use Rattle.packer.proofs.CoverLemmas.{Contains-map}
use Rattle.packer.proofs.PacketFieldsLemmas.{Contains-unmap}
use Rattle.packer.proofs.writing.FirstLemmas.{smallest-is, smallest-one}
use Rattle.packer.proofs.writing.ShorterLemmas.{shorter-candidate}
use Rattle.packer.proofs.ChosenLemmas.{IsShortest, shortest-least, schc_packet-id}
use Rattle.packer.proofs.reading.UnpackedLemmas.{found-listed, listed-found}

abbrev id_of : Listed → ℕ
id_of listed = listed.rule.id

-- each of the rules is found under its RuleID
abbrev AreFound : List Listed → List Listed → Type 0
AreFound rules part = (listed : Listed) → Contains part listed
    → lookup rules listed.rule.id ≡ Some listed

shortest-candidate : (rules : List Listed) (iids : Iids) (direction : Direction) (packet : List ℕ)
    (part : List Listed) → AreFound rules part
    → option_map candidate_of (shortest iids direction packet part) ≡ smallest_of
    (candidate_under rules iids direction packet) (map id_of part)
shortest-candidate rules iids direction packet [] found = refl
shortest-candidate rules iids direction packet (listed ∷ part) found =
    shorter-candidate (schc_packet_by iids direction packet listed)
    (shortest iids direction packet part)
    ∙ ap (λ rest. smaller (option_map candidate_of (schc_packet_by iids direction packet listed))
    rest)
    (shortest-candidate rules iids direction packet part
    (λ other among. found other (Contains-rest listed part other among)))
    ∙ ap (λ o. smaller (candidate_by iids direction packet o)
    (smallest_of (candidate_under rules iids direction packet) (map id_of part)))
    (sym (found listed (Contains-first listed part)))

-- a candidate is of a listed rule that has an SCHC packet
record IsListed (rules : List Listed) (iids : Iids) (direction : Direction) (packet : List ℕ)
    (id : ℕ) (c : Candidate) : Type 0 where
  listed : Listed
  found : lookup rules id ≡ Some listed
  schc_packet : SchcPacketData
  has_schc_packet : schc_packet_by iids direction packet listed ≡ Some schc_packet
  is : candidate_of schc_packet ≡ c

schc_packet_at : (iids : Iids) (direction : Direction) (packet : List ℕ) (rules : List Listed)
    (id : ℕ) (c : Candidate) (listed : Listed) (o : Option SchcPacketData)
    → lookup rules id ≡ Some listed → schc_packet_by iids direction packet listed ≡ o
    → option_map candidate_of o ≡ Some c → IsListed rules iids direction packet id c
schc_packet_at iids direction packet rules id c listed None found e is = absurd (cc)
schc_packet_at iids direction packet rules id c listed (Some schc_packet) found e is =
    record {
      listed = listed;
      found = found;
      schc_packet = schc_packet;
      has_schc_packet = e;
      is =
          cc;
    }

listed_at : (iids : Iids) (direction : Direction) (packet : List ℕ) (rules : List Listed) (id : ℕ)
    (c : Candidate) (o : Option Listed) → lookup rules id ≡ o
    → candidate_by iids direction packet o ≡ Some c → IsListed rules iids direction packet id c
listed_at iids direction packet rules id c None found is = absurd (cc)
listed_at iids direction packet rules id c (Some listed) found is =
    schc_packet_at iids direction packet rules id c listed
    (schc_packet_by iids direction packet listed) found refl is

-- no rule with an SCHC packet is left out
abbrev pub LeavesNoneOut : List Listed → Iids → Direction → List ℕ → List ℕ → Type 0
LeavesNoneOut rules iids direction packet ids =
    (listed : Listed) (schc_packet : SchcPacketData) → Contains rules listed
    → schc_packet_by iids direction packet listed ≡ Some schc_packet
    → Contains ids listed.rule.id

-- the first candidate of RuleIDs that leave out no rule with an SCHC packet is that of the SCHC
-- packet which comes first under all rules
pub smallest-shortest : (rules : List Listed) (iids : Iids) (direction : Direction)
    (packet : List ℕ) (ids : List ℕ) → IsAscending rules
    → LeavesNoneOut rules iids direction packet ids
    → smallest_of (candidate_under rules iids direction packet) ids ≡ option_map candidate_of
    (shortest iids direction packet rules)
smallest-shortest rules iids direction packet ids rising none =
    let f : ℕ → Option Candidate = candidate_under rules iids direction packet in
    smallest-one f ids (map id_of rules) (smallest_of f ids) (smallest_of f (map id_of rules))
    (λ id c among is.
    let own = listed_at iids direction packet rules id c (lookup rules id) refl is in
    let there = found-listed rules id own.listed own.found in
    subst (Contains (map id_of rules)) there.1 (Contains-map id_of rules own.listed there.0))
    (λ id c among is.
    let own = listed_at iids direction packet rules id c (lookup rules id) refl is in
    let there = found-listed rules id own.listed own.found in
    subst (Contains ids) there.1 (none own.listed own.schc_packet there.0 own.has_schc_packet))
    (smallest-is f ids) (smallest-is f (map id_of rules))
    ∙ sym (shortest-candidate rules iids direction packet rules
    (λ listed among. listed-found rules listed rising among))

-- the rule of the candidate that comes first, and its SCHC packet
first_of : (rules : List Listed) (iids : Iids) (direction : Direction) (packet : List ℕ)
    (c : Candidate) (o : Option SchcPacketData) → IsAscending rules
    → shortest iids direction packet rules ≡ o → option_map candidate_of o ≡ Some c
    → IsFirstSchcPacket rules iids direction packet c.rule_id
first_of rules iids direction packet c None rising e is = absurd (cc)
first_of rules iids direction packet c (Some schc_packet) rising e is =
    let least : IsShortest iids direction packet rules schc_packet =
    shortest-least iids direction packet rules schc_packet e in
    let same : candidate_of schc_packet ≡ c = cc in
    let id : least.listed.rule.id ≡ c.rule_id =
    sym (schc_packet-id iids direction packet least.listed schc_packet least.schc_packet)
    ∙ ap (λ (d : Candidate). d.rule_id) same in
    record {
      listed = least.listed;
      among = least.among;
      found = ap (lookup rules) (sym id) ∙ listed-found rules least.listed rising least.among;
      schc_packet = schc_packet;
      has_schc_packet = least.schc_packet;
      is_shortest = e;
    }

-- the candidate of the SCHC packet that comes first has the RuleID of the rule that is chosen
pub first-schc_packet : (rules : List Listed) (iids : Iids) (direction : Direction)
    (packet : List ℕ) (c : Candidate) → IsAscending rules
    → option_map candidate_of (shortest iids direction packet rules) ≡ Some c
    → IsFirstSchcPacket rules iids direction packet c.rule_id
first-schc_packet rules iids direction packet c rising is =
    first_of rules iids direction packet c (shortest iids direction packet rules) rising refl is

-- and where there is none, there is no SCHC packet
pub none-candidate : (o : Option SchcPacketData) → option_map candidate_of o ≡ None → o ≡ None
none-candidate None e = refl
none-candidate (Some schc_packet) e = absurd (cc)
