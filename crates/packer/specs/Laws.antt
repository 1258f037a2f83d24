-- How packing and unpacking belong together.
use Rattle.std.specs.Prelude.{ℕ, ◌≡◌, ◌≢◌, ◌≤◌, ◌↔◌, ◌⊎◌, Bool, true, List, [], ◌++◌, length, Ok}
use Rattle.std.specs.Prelude.{Some, Contains}
use Rattle.schc_bits.specs.Bits.{AreBytes}
use Rattle.schc_ids.specs.declared.ends.Direction.{Direction}
use Rattle.schc_ids.specs.declared.ends.Iids.{Iids}
use Rattle.rule_model.specs.declared.value.FieldValue.{FieldValue}
use Rattle.rule_model.specs.Data.{RuleData}
use Rattle.rule_model.specs.Cover.{dropped_fields}
use Rattle.rule_model.specs.Findings.{IsAdmitted}
use Rattle.rule_model.specs.Residue.{value_of}
use Rattle.editions.specs.declared.listed.Listed.{Listed}
pub use Rattle.editions.specs.Data.{IsSound}
use Rattle.editions.specs.Data.{EditionData, lookup}
use Rattle.packer.specs.UnpackedData.{UnpackedData}
use Rattle.ip_udp_fields.specs.Fields.{has_ipv6_header}
use Rattle.schc_ids.specs.Limits.{uncompressed_port}
use Rattle.packer.specs.Schc.{Decodes, IsChosen, IsRestored, MatchesPacket}
use Rattle.packer.specs.Packing.{packed}
use Rattle.packer.specs.Unpacking.{unpacked}
use Rattle.packer.specs.Rebuilding.{EditionHasOptions}

-- a packet is written under the rule that is chosen, as its SCHC packet
abbrev pub PacksChosen : Type 0
PacksChosen =
    (edition : EditionData) (iids : Iids) (direction : Direction) (packet : List ℕ)
    → IsSound edition → AreBytes packet →
    IsChosen edition iids direction packet (packed edition iids direction packet).rule_id
    (packed edition iids direction packet).bits

-- what is read is what the bits say, and all that they say is read, where the options of the rules
-- have numbers and positions of 16 bits. So the bits say at most one packet
abbrev pub UnpacksExactly : Type 0
UnpacksExactly =
    (edition : EditionData) (iids : Iids) (direction : Direction) (bits : List Bool)
    (read : UnpackedData) → IsSound edition →
    EditionHasOptions edition →
    (unpacked edition iids direction bits ≡ Ok read) ↔ Decodes edition iids direction bits
    read.packet read.rule_id

-- the packet that the other end restores under a RuleID of the edition
abbrev pub RestoresUnder : EditionData → Direction → ℕ → List ℕ → List ℕ → Type 0
RestoresUnder edition direction id packet restored =
    ((id ≡ uncompressed_port) × (restored ≡ packet))
    ⊎ ((listed : Listed) × (lookup edition.rules id ≡ Some listed)
    × IsRestored listed.rule direction packet restored)

-- the two editions list the same rule under the RuleID, if it isn't that of packets that no rule
-- compresses
abbrev pub AgreeOn : EditionData → EditionData → ℕ → Type 0
AgreeOn writer reader id =
    (id ≡ uncompressed_port)
    ⊎ ((these : Listed) × (those : Listed) × (lookup writer.rules id ≡ Some these)
    × (lookup reader.rules id ≡ Some those) × (those.rule ≡ these.rule))

-- what the reader makes of bits that were written
pub record IsReadAs (writer reader : EditionData) (iids : Iids) (direction : Direction)
    (packet : List ℕ) (id : ℕ) (bits : List Bool) : Type 0 where
  pub restored : List ℕ
  pub restores : RestoresUnder writer direction id packet restored
  pub are_bytes : AreBytes restored
  pub reads : unpacked reader iids direction bits ≡ Ok (record { rule_id = id; packet = restored })

-- a packet that was written with one edition is read with another that has the same rule under its
-- RuleID, with up to 7 bits behind it: as the packet that the other end restores
abbrev pub ReadsWhatWasWritten : Type 0
ReadsWhatWasWritten =
    (writer reader : EditionData) (iids : Iids) (direction : Direction) (packet : List ℕ)
    (padding : List Bool) →
    IsSound writer → IsSound reader → AreBytes packet → has_ipv6_header packet ≡ true
    → length padding ≤ 7 →
    AgreeOn writer reader (packed writer iids direction packet).rule_id →
    IsReadAs writer reader iids direction packet (packed writer iids direction packet).rule_id
    ((packed writer iids direction packet).bits ++ padding)

-- where a rule that matches a packet drops nothing in the direction, the other end restores that
-- packet
abbrev pub KeepsWhereNothingIsDropped : Type 0
KeepsWhereNothingIsDropped =
    (rule : RuleData) (iids : Iids) (direction : Direction) (packet restored : List ℕ)
    → IsAdmitted rule → AreBytes packet → AreBytes restored →
    MatchesPacket rule iids direction packet → dropped_fields rule direction ≡ []
    → IsRestored rule direction packet restored → restored ≡ packet

-- a field of the restored packet has another value than the packet's only where the rule drops it
-- in the direction
abbrev pub DiffersOnlyWhereDropped : Type 0
DiffersOnlyWhereDropped =
    (rule : RuleData) (iids : Iids) (direction : Direction) (packet restored : List ℕ)
    → IsAdmitted rule → AreBytes packet → AreBytes restored →
    MatchesPacket rule iids direction packet → (r : IsRestored rule direction packet restored)
    → (f : FieldValue) → Contains r.restored_fields f →
    f.value ≢ value_of r.fields f.at → Contains (dropped_fields rule direction) f.at

-- the rule has one restored packet of the packet: it is this one, and no other
pub record RestoresOne (rule : RuleData) (direction : Direction) (packet : List ℕ) : Type 0 where
  pub restored : List ℕ
  pub are_bytes : AreBytes restored
  pub restores : IsRestored rule direction packet restored
  pub no_other : (other : List ℕ) → AreBytes other → IsRestored rule direction packet other
      → other ≡ restored

-- an admitted rule has one restored packet of each packet that it matches
abbrev pub OneRestoredPacket : Type 0
OneRestoredPacket =
    (rule : RuleData) (iids : Iids) (direction : Direction) (packet : List ℕ) → IsAdmitted rule
    → AreBytes packet → MatchesPacket rule iids direction packet →
    RestoresOne rule direction packet
