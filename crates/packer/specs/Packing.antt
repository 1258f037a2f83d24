-- How a packet is written, as a function that computes: of the SCHC packets under the live rules
-- that match the one with the fewest bits, and of several such the one with the lowest RuleID.
use Rattle.std.specs.Prelude.{ℕ, ◌==◌, Bool, ◌&&◌, ◌||◌, if◌then◌else◌, List, [], ◌∷◌, ◌++◌, length}
use Rattle.std.specs.Prelude.{drop, nat_lt, nat_le, Option, Some, None}
use Rattle.std.specs.Option.{option_map}
use Rattle.schc_bits.specs.Bits.{number_bits, octets}
use Rattle.schc_ids.specs.declared.ends.Direction.{Direction}
use Rattle.schc_ids.specs.declared.ends.Iids.{Iids}
use Rattle.rule_model.specs.SplitData.{SplitData}
use Rattle.rule_model.specs.Data.{RuleData}
use Rattle.rule_model.specs.Cover.{stack_of}
use Rattle.rule_model.specs.Residue.{residue_of}
use Rattle.rule_model.specs.Tests.{does_match}
use Rattle.editions.specs.declared.listed.Listed.{Listed}
use Rattle.editions.specs.Data.{EditionData, lookup}
use Rattle.packer.specs.declared.choosing.Candidate.{Candidate}
use Rattle.packer.specs.declared.packing.Packed.{Packed}
use Rattle.packer.specs.Packets.{split_of, computed_over}
use Rattle.schc_ids.specs.Limits.{uncompressed_port}
use Rattle.packer.specs.Schc.{uncompressed_packet}

-- a RuleID and an SCHC packet under it
pub record SchcPacketData : Type 0 where
  pub rule_id : ℕ
  pub bits : List Bool

-- the SCHC packet under the rule, of a packet that was split so
abbrev pub schc_packet_under : RuleData → Direction → List ℕ → SplitData → SchcPacketData
schc_packet_under rule direction packet split = record {
  rule_id = rule.id;
  bits = number_bits 8
      rule.id ++ (residue_of rule direction split.fields ++ octets
      (drop split.payload_from packet));
}

-- the SCHC packet under the rule, where the packet is one of the rule's stack and the rule matches
-- it
abbrev pub matching_schc_packet : RuleData → Iids → Direction → List ℕ → Option SplitData
    → Option SchcPacketData
matching_schc_packet rule iids direction packet None = None
matching_schc_packet rule iids direction packet (Some split) =
    if does_match rule iids direction split.fields (computed_over (stack_of rule) packet)
    then Some (schc_packet_under rule direction packet split) else None

-- the SCHC packet under a listed rule: a retired rule isn't written with
unfoldable pub schc_packet_by : Iids → Direction → List ℕ → Listed → Option SchcPacketData
schc_packet_by iids direction packet listed =
    if listed.live then matching_schc_packet listed.rule iids direction packet
    (split_of (stack_of listed.rule) direction packet) else None

-- an SCHC packet's RuleID, and how many bits it has
abbrev pub candidate_of : SchcPacketData → Candidate
candidate_of schc_packet = record { rule_id = schc_packet.rule_id; bits = length schc_packet.bits }

-- the first comes before the other: it has fewer bits, or as many under a RuleID that isn't higher
abbrev pub is_preferred : Candidate → Candidate → Bool
is_preferred candidate other =
    nat_lt candidate.bits
    other.bits || ((candidate.bits == other.bits) && nat_le candidate.rule_id other.rule_id)

-- of two, the one with fewer bits, and of two with as many the one with the lower RuleID
abbrev pub shorter : Option SchcPacketData → Option SchcPacketData → Option SchcPacketData
shorter None later = later
shorter (Some schc_packet) None = Some schc_packet
shorter (Some schc_packet) (Some later) =
    if is_preferred (candidate_of schc_packet) (candidate_of later) then Some schc_packet else Some
    later

-- the same of two candidates
abbrev pub smaller : Option Candidate → Option Candidate → Option Candidate
smaller None other = other
smaller (Some candidate) None = Some candidate
smaller (Some candidate) (Some other) =
    if is_preferred candidate other then Some candidate else Some other

-- the first of the candidates of these RuleIDs
abbrev pub smallest_of : (ℕ → Option Candidate) → List ℕ → Option Candidate
smallest_of candidate [] = None
smallest_of candidate (id ∷ ids) = smaller (candidate id) (smallest_of candidate ids)

-- the candidate that is listed under a RuleID, where it is live and matches
abbrev pub candidate_by : Iids → Direction → List ℕ → Option Listed → Option Candidate
candidate_by iids direction packet None = None
candidate_by iids direction packet (Some listed) =
    option_map candidate_of (schc_packet_by iids direction packet listed)

abbrev pub candidate_under : List Listed → Iids → Direction → List ℕ → ℕ → Option Candidate
candidate_under rules iids direction packet id =
    candidate_by iids direction packet (lookup rules id)

-- the one that comes first, under these rules
abbrev pub shortest : Iids → Direction → List ℕ → List Listed → Option SchcPacketData
shortest iids direction packet [] = None
shortest iids direction packet (listed ∷ later) =
    shorter (schc_packet_by iids direction packet listed) (shortest iids direction packet later)

-- the SCHC packet, or the packet as it is where there is none
abbrev pub schc_packet_or_whole : List ℕ → Option SchcPacketData → SchcPacketData
schc_packet_or_whole packet None =
    record { rule_id = uncompressed_port; bits = uncompressed_packet packet }
schc_packet_or_whole packet (Some schc_packet) = schc_packet

-- how the packet is written with the edition
abbrev pub packed_as : ℕ → SchcPacketData → Packed
packed_as number schc_packet =
    record { edition = number; rule_id = schc_packet.rule_id; bits = schc_packet.bits }

unfoldable pub packed : EditionData → Iids → Direction → List ℕ → Packed
packed edition iids direction packet =
    packed_as edition.number
    (schc_packet_or_whole packet (shortest iids direction packet edition.rules))
