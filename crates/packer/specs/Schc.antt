-- SCHC packets (RFC 8724, section 7), what the other end restores, and which rule is chosen.
use Rattle.std.specs.Prelude.{ℕ, ◌≡◌, ◌≢◌, ◌<◌, ◌≤◌, ◌⊎◌, Bool, true, ◌&&◌, if◌then◌else◌, List}
use Rattle.std.specs.Prelude.{◌++◌, length, drop, map, Some, Contains}
use Rattle.schc_bits.specs.Bits.{number_bits, octets, AreBytes}
use Rattle.schc_ids.specs.declared.ends.Direction.{Direction}
use Rattle.schc_ids.specs.declared.ends.Iids.{Iids}
use Rattle.schc_ids.specs.declared.names.FieldName.TheVariants.{UdpChecksum}
use Rattle.schc_ids.specs.Limits.{uncompressed_port}
use Rattle.schc_ids.specs.Names.{same_name}
use Rattle.rule_model.specs.declared.value.FieldValue.{FieldValue}
use Rattle.rule_model.specs.Data.{EntryData, RuleData}
use Rattle.rule_model.specs.Cover.{covered, field_of, stack_of, serves, is_lossy, is_compute}
use Rattle.rule_model.specs.Matches.{Matches}
use Rattle.rule_model.specs.Residue.{residue_of, value_of, first_target}
use Rattle.editions.specs.declared.listed.Listed.{Listed}
use Rattle.editions.specs.Data.{EditionData, lookup}
use Rattle.ip_udp_fields.specs.Checksum.{checksum_of}
use Rattle.packer.specs.Packets.{PacketOf, computed_over}
use Rattle.ip_udp_fields.specs.Fields.{has_ipv6_header}

-- the rule matches the packet, which is one of the rule's stack
pub record MatchesPacket (rule : RuleData) (iids : Iids) (direction : Direction)
    (packet : List ℕ) : Type 0 where
  pub fields : List FieldValue
  pub payload_from : ℕ
  pub is_packet : PacketOf (stack_of rule) direction packet fields payload_from
  pub matches : Matches rule iids direction fields (computed_over (stack_of rule) packet)

-- the SCHC packet of a packet under a rule: the RuleID in 8 bits, the residue of its fields, and
-- its payload (RFC 8724, section 7.1)
pub record IsSchcPacket (rule : RuleData) (direction : Direction) (packet : List ℕ)
    (bits : List Bool) : Type 0 where
  pub fields : List FieldValue
  pub payload_from : ℕ
  pub is_packet : PacketOf (stack_of rule) direction packet fields payload_from
  pub bits_are : bits ≡ number_bits 8
      rule.id ++ (residue_of rule direction fields ++ octets (drop payload_from packet))

-- the same where no rule compresses it: the RuleID and the whole packet
abbrev pub uncompressed_packet : List ℕ → List Bool
uncompressed_packet packet = number_bits 8 uncompressed_port ++ octets packet

-- the entry computes the UDP checksum
abbrev pub is_computed_checksum : EntryData → Bool
is_computed_checksum e = same_name e.name UdpChecksum && is_compute e.action

-- the value that the other end has for an entry's field: the target, where the entry ignores the
-- value and sends nothing of it; a computed checksum, as it is for the restored packet; else the
-- value that the packet had
abbrev pub kept_value : ℕ → EntryData → List Bool → List Bool
kept_value checksum e value =
    if is_lossy e.operator e.action then first_target e.targets
    else if is_computed_checksum e then number_bits 16 checksum
    else value

-- the packet that the other end restores: the same fields with the same payload, each dropped field
-- at its target, and then a computed checksum made anew
pub record IsRestored (rule : RuleData) (direction : Direction) (packet restored : List ℕ) : Type 0
  where
    pub fields : List FieldValue
    pub restored_fields : List FieldValue
    pub payload_from : ℕ
    pub is_packet : PacketOf (stack_of rule) direction packet fields payload_from
    pub is_restored : PacketOf (stack_of rule) direction restored restored_fields payload_from
    pub same_fields : map (λ f. f.at) restored_fields ≡ map (λ f. f.at) fields
    pub same_payload : drop payload_from restored ≡ drop payload_from packet
    pub values :
        (e : EntryData) → Contains (covered rule direction) e →
        value_of restored_fields (field_of e) ≡ kept_value (checksum_of restored) e
        (value_of fields (field_of e))

-- The bits are read as the packet, by a rule: it serves the direction and matches the packet, which
-- is its own restored packet, and the bits are its SCHC packet with at most 7 further bits.
pub record DecodesBy (rule : RuleData) (iids : Iids) (direction : Direction) (bits : List Bool)
    (packet : List ℕ) : Type 0 where
  pub serving : serves rule direction ≡ true
  pub matching : MatchesPacket rule iids direction packet
  pub own : IsRestored rule direction packet packet
  pub schc_packet : List Bool
  pub its_schc_packet : IsSchcPacket rule direction packet schc_packet
  pub padding : List Bool
  pub short : length padding ≤ 7
  pub bits_are : bits ≡ schc_packet ++ padding

-- The same where no rule compresses it: the packet has a whole IPv6 header.
pub record DecodesWhole (bits : List Bool) (packet : List ℕ) : Type 0 where
  pub ipv6 : has_ipv6_header packet ≡ true
  pub padding : List Bool
  pub short : length padding ≤ 7
  pub bits_are : bits ≡ uncompressed_packet packet ++ padding

-- The bits are read as the packet, under a RuleID: that of packets that no rule compresses, or that
-- of a rule that the edition lists, live or retired. It speaks of the packet that was there, and
-- not of how it is read.
pub data Decodes (edition : EditionData) (iids : Iids) (direction : Direction) (bits : List Bool)
    (packet : List ℕ) : ℕ → Type 0 where
  whole : AreBytes packet → DecodesWhole bits packet
      → Decodes edition iids direction bits packet uncompressed_port
  by_rule : (id : ℕ) (listed : Listed) → AreBytes packet → id ≢ uncompressed_port
      → lookup edition.rules id ≡ Some listed → DecodesBy listed.rule iids direction bits packet
      → Decodes edition iids direction bits packet id

-- the bits aren't read as any packet
abbrev pub NothingDecodes : EditionData → Iids → Direction → List Bool → Type 0
NothingDecodes edition iids direction bits = (packet : List ℕ) (id : ℕ)
    → ¬ Decodes edition iids direction bits packet id

-- a live rule that matches the packet, and the packet's SCHC packet under it
pub record IsCandidate (edition : EditionData) (iids : Iids) (direction : Direction)
    (packet : List ℕ) (listed : Listed) (bits : List Bool) : Type 0 where
  pub listing : Contains edition.rules listed
  pub is_live : listed.live ≡ true
  pub matching : MatchesPacket listed.rule iids direction packet
  pub its_schc_packet : IsSchcPacket listed.rule direction packet bits

-- fewer bits, or as many under a RuleID that isn't higher
abbrev pub IsNoLonger : ℕ → List Bool → ℕ → List Bool → Type 0
IsNoLonger id bits other_id other_bits =
    (length bits < length other_bits) ⊎ ((length bits ≡ length other_bits) × (id ≤ other_id))

-- the RuleID under which the packet is written, and its SCHC packet: of the live rules that match
-- the one with the fewest bits in all, and of several such the one with the lowest RuleID. Where
-- none matches, no rule compresses the packet
pub data IsChosen (edition : EditionData) (iids : Iids) (direction : Direction)
    (packet : List ℕ) : ℕ → List Bool → Type 0 where
  by_rule :
      (listed : Listed) (bits : List Bool) → IsCandidate edition iids direction packet listed bits →
      ((other : Listed) (other_bits : List Bool)
      → IsCandidate edition iids direction packet other other_bits
      → IsNoLonger listed.rule.id bits other.rule.id other_bits) →
      IsChosen edition iids direction packet listed.rule.id bits
  by_none :
      ((other : Listed) (other_bits : List Bool)
      → ¬ IsCandidate edition iids direction packet other other_bits) →
      IsChosen edition iids direction packet uncompressed_port (uncompressed_packet packet)
