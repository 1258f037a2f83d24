-- When a rule matches the fields of a packet: RFC 8724, sections 7.2 and 7.3. A statement on two
-- sets: the fields of the packet, and the entries of the rule that are used in the direction.
use Rattle.std.specs.Prelude.{ℕ, ◌≡◌, ◌≤◌, Bool, List, length, take, Option, Some, None, Contains}
use Rattle.std.specs.Prelude.{IsSomeAnd, IfSome, slice_get}
use Rattle.schc_bits.specs.Bits.{number_bits}
use Rattle.schc_ids.specs.declared.ends.Direction.{Direction}
use Rattle.schc_ids.specs.declared.ends.Iids.{Iids}
use Rattle.schc_ids.specs.declared.names.FieldName.{FieldName}
use Rattle.schc_ids.specs.declared.names.FieldName.TheVariants.{IpPayloadLength, UdpLength}
use Rattle.schc_ids.specs.declared.names.FieldName.TheVariants.{UdpChecksum, CoapOption}
use Rattle.rule_model.specs.declared.rule.Length.{Length}
use Rattle.rule_model.specs.declared.rule.Length.TheVariants.{Fixed}
use Rattle.rule_model.specs.declared.rule.Operator.{Operator}
use Rattle.rule_model.specs.declared.rule.Operator.TheVariants.{Equal, Ignore, Msb, MatchMapping}
use Rattle.rule_model.specs.declared.rule.Action.{Action}
use Rattle.rule_model.specs.declared.rule.Action.TheVariants.{Compute, DevIid, AppIid}
use Rattle.rule_model.specs.declared.value.FieldValue.{FieldValue}
use Rattle.rule_model.specs.declared.value.Computed.{Computed}
use Rattle.rule_model.specs.Data.{EntryData, RuleData}
use Rattle.rule_model.specs.Cover.{covered, field_of}

-- the operator holds of the value: equal, the same bits as the target; MSB, the first bits are
-- those of the target;
-- match-mapping, the value is one of the targets; ignore, whatever the value is (RFC 8724, section
-- 7.3)
abbrev pub OperatorHolds : Operator → List (List Bool) → List Bool → Type 0
OperatorHolds Equal targets value = slice_get targets 0 ≡ Some value
OperatorHolds Ignore targets value = Unit {0}
OperatorHolds (Msb bits) targets value =
    IsSomeAnd (slice_get targets 0)
    (λ target. (bits ≤ length value) × (take bits value ≡ take bits target))
OperatorHolds MatchMapping targets value = Contains targets value

-- an option's value has the length that its entry fixes
abbrev pub LengthHolds : FieldName → Length → List Bool → Type 0
LengthHolds (CoapOption number) (Fixed bits) value = length value ≡ bits
LengthHolds _ _ value = Unit {0}

-- what is computed over the packet for the field
abbrev pub computed_value : Computed → FieldName → Option ℕ
computed_value computed IpPayloadLength = Some computed.payload_length
computed_value computed UdpLength = Some computed.udp_length
computed_value computed UdpChecksum = Some computed.checksum
computed_value computed _ = None

-- where the other end makes the value of itself, the packet already has what it will make: what is
-- computed over the packet as it is, or an interface identifier of the device or of the application
abbrev pub RestoredHolds : Iids → Computed → FieldName → Action → List Bool → Type 0
RestoredHolds iids computed name Compute value =
    IfSome (computed_value computed name) (λ n. value ≡ number_bits 16 n)
RestoredHolds iids computed name DevIid value = value ≡ number_bits 64 iids.dev
RestoredHolds iids computed name AppIid value = value ≡ number_bits 64 iids.app
RestoredHolds iids computed name _ value = Unit {0}

-- an entry and the value of its field agree
pub record Agrees (iids : Iids) (computed : Computed) (e : EntryData) (value : List Bool) : Type 0
  where
    pub length_holds : LengthHolds e.name e.length value
    pub operator_holds : OperatorHolds e.operator e.targets value
    pub restored_holds : RestoredHolds iids computed e.name e.action value

-- the fields of the packet and the entries that are used in the direction are of the same set of
-- names and positions
pub record IsSameSet (rule : RuleData) (direction : Direction) (fields : List FieldValue) : Type 0
  where
    pub each_field : (f : FieldValue) → Contains fields f → (e : EntryData)
        × Contains (covered rule direction) e × (field_of e ≡ f.at)
    pub each_entry : (e : EntryData) → Contains (covered rule direction) e → (f : FieldValue)
        × Contains fields f × (field_of e ≡ f.at)

-- the rule matches the fields of a packet: the same set, and each entry agrees with the value of
-- its field
pub record Matches (rule : RuleData) (iids : Iids) (direction : Direction)
    (fields : List FieldValue) (computed : Computed) : Type 0 where
  pub same_set : IsSameSet rule direction fields
  pub agrees :
      (f : FieldValue) → (e : EntryData) → Contains fields f → Contains (covered rule direction) e
      → field_of e ≡ f.at →
      Agrees iids computed e f.value
