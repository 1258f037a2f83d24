-- How the rule is found under which a packet is written: of each stack that the packet splits as,
-- the rules that it may match are tried.
use Rattle.std.specs.Prelude.{ℕ, ◌≡◌, ◌-◌, Bool, true, false, if◌then◌else◌, List, [], length, take}
use Rattle.std.specs.Prelude.{Option, Some, None, Contains}
use Rattle.schc_ids.specs.declared.ends.Direction.{Direction}
use Rattle.schc_ids.specs.declared.ends.Iids.{Iids}
use Rattle.schc_ids.specs.declared.names.Stack.{Stack}
use Rattle.schc_ids.specs.declared.names.Stack.TheVariants as stack
use Rattle.rule_model.specs.declared.value.Computed.{Computed}
use Rattle.rule_model.specs.SplitData.{SplitData}
use Rattle.rule_model.specs.Data.{RuleData}
use Rattle.rule_model.specs.Cover.{computes_checksum, stack_of}
use Rattle.ip_udp_fields.specs.Checksum.{checksum_of}
use Rattle.editions.specs.declared.listed.Listed.{Listed}
use Rattle.editions.specs.Data.{lookup}
use Rattle.editions.specs.Suspects.{suspects, key_value}
use Rattle.packer.specs.Packets.{split_of, computed_over}
use Rattle.packer.specs.Packing.{SchcPacketData, schc_packet_by, shortest}

-- the RuleIDs of the rules that a packet which is split so may match
abbrev pub suspects_in : List Listed → Direction → Stack → Option SplitData → List ℕ
suspects_in rules direction of None = []
suspects_in rules direction of (Some split) =
    suspects rules direction of (key_value of split.fields)

-- the same of the packet
abbrev pub suspects_of : List Listed → Direction → List ℕ → Stack → List ℕ
suspects_of rules direction packet of =
    suspects_in rules direction of (split_of of direction packet)

-- the split, where it is one
abbrev pub where_split : Bool → SplitData → Option SplitData
where_split is split = if is then Some split else None

-- what is computed is what the rule computes: where it doesn't compute the checksum, that may be
-- any number
pub record IsComputedFor (rule : RuleData) (direction : Direction) (packet : List ℕ)
    (computed : Computed) : Type 0 where
  pub payload_length : computed.payload_length ≡ (computed_over (stack_of rule)
      packet).payload_length
  pub udp_length : computed.udp_length ≡ (computed_over (stack_of rule) packet).udp_length
  pub checksum : computes_checksum rule direction ≡ true
      → computed.checksum ≡ (computed_over (stack_of rule) packet).checksum

-- the rule is live, the packet is split as its stack, and what it computes is computed
pub record CanBeTried (direction : Direction) (packet : List ℕ) (split : SplitData)
    (computed : Computed) (listed : Listed) : Type 0 where
  pub is_live : listed.live ≡ true
  pub its_split : split_of (stack_of listed.rule) direction packet ≡ Some split
  pub its_computed : IsComputedFor listed.rule direction packet computed

-- and so it is of what is listed under each of the RuleIDs
abbrev pub CanAllBeTried : List Listed → Direction → List ℕ → SplitData → Computed → List ℕ → Type 0
CanAllBeTried rules direction packet split computed ids =
    (id : ℕ) (listed : Listed) → Contains ids id → lookup rules id ≡ Some listed
    → CanBeTried direction packet split computed listed

-- what is computed is what each of these rules computes
abbrev pub IsComputedForAll : List Listed → Direction → List ℕ → Computed → List ℕ → Type 0
IsComputedForAll rules direction packet computed ids =
    (id : ℕ) (listed : Listed) → Contains ids id → lookup rules id ≡ Some listed
    → IsComputedFor listed.rule direction packet computed

-- the rule under the RuleID computes the UDP checksum
abbrev pub computes_listed : Direction → Option Listed → Bool
computes_listed direction None = false
computes_listed direction (Some listed) = computes_checksum listed.rule direction

abbrev pub computes_under : List Listed → Direction → ℕ → Bool
computes_under rules direction id = computes_listed direction (lookup rules id)

-- what is computed over a packet with UDP, with the checksum or without
abbrev pub computed_with : Bool → List ℕ → Computed
computed_with sums packet =
    record {
      payload_length = length packet - 40;
      udp_length = length packet - 40;
      checksum = if sums then checksum_of packet else 0;
    }

-- the front of the fields that are those of a lower stack, with the place of its payload
abbrev pub cut_to : Stack → SplitData → SplitData
cut_to stack.Ip split = record { fields = take 10 split.fields; payload_from = 40 }
cut_to stack.IpUdp split = record { fields = take 14 split.fields; payload_from = 48 }
cut_to stack.IpUdpCoap split = split

-- the packet is split as far as each rule needs that it may match
abbrev pub IsSplitFarEnough : List Listed → Direction → List ℕ → SplitData → Type 0
IsSplitFarEnough rules direction packet split =
    (of : Stack) (id : ℕ) (own : SplitData) → Contains (suspects_of rules direction packet of) id
    → split_of of direction packet ≡ Some own →
    cut_to of split ≡ own

-- the rule under the RuleID is the one that is chosen, and this is its SCHC packet
pub record IsFirstSchcPacket (rules : List Listed) (iids : Iids) (direction : Direction)
    (packet : List ℕ) (id : ℕ) : Type 0 where
  pub listed : Listed
  pub among : Contains rules listed
  pub found : lookup rules id ≡ Some listed
  pub schc_packet : SchcPacketData
  pub has_schc_packet : schc_packet_by iids direction packet listed ≡ Some schc_packet
  pub is_shortest : shortest iids direction packet rules ≡ Some schc_packet
