-- The rules that a packet may match, as far as the value of one of its fields tells.
use Rattle.std.specs.Prelude.{ℕ, ◌==◌, Bool, true, false, ◌&&◌, List, Option, find, filter, map}
use Rattle.std.specs.Prelude.{slice_get}
use Rattle.std.specs.Option.{option_map_or}
use Rattle.schc_bits.specs.Bits.{bits_value}
use Rattle.schc_ids.specs.declared.ends.Direction.{Direction}
use Rattle.schc_ids.specs.declared.names.FieldName.{FieldName}
use Rattle.schc_ids.specs.declared.names.FieldName.TheVariants as field
use Rattle.schc_ids.specs.declared.names.Stack.{Stack}
use Rattle.schc_ids.specs.declared.names.Stack.TheVariants as stack
use Rattle.schc_ids.specs.Names.{same_name}
use Rattle.rule_model.specs.declared.rule.Operator.{Operator}
use Rattle.rule_model.specs.declared.rule.Operator.TheVariants as operator
use Rattle.rule_model.specs.declared.value.FieldValue.{FieldValue}
use Rattle.rule_model.specs.Data.{EntryData, RuleData}
use Rattle.rule_model.specs.Cover.{covered, serves, stack_of}
use Rattle.rule_model.specs.Residue.{value_of}
use Rattle.editions.specs.declared.listed.Listed.{Listed}

-- whether two stacks are one
abbrev pub same_stack : Stack → Stack → Bool
same_stack stack.Ip stack.Ip = true
same_stack stack.IpUdp stack.IpUdp = true
same_stack stack.IpUdpCoap stack.IpUdpCoap = true
same_stack _ _ = false

-- the key field of a stack: the next header of IPv6 (RFC 8200, section 3) where there is no UDP,
-- and otherwise the application's port
abbrev pub key_field : Stack → FieldName
key_field stack.Ip = field.IpNextHeader
key_field stack.IpUdp = field.UdpAppPort
key_field stack.IpUdpCoap = field.UdpAppPort

-- the entry of the key field that is used in the direction
abbrev pub key_entry : Stack → RuleData → Direction → Option EntryData
key_entry headers rule direction =
    find (λ e. same_name e.name (key_field headers)) (covered rule direction)

-- the operator isn't equal, or is equal with the target `key` (RFC 8724, section 7.3)
abbrev pub takes_key : ℕ → Operator → List (List Bool) → Bool
takes_key key operator.Equal targets =
    option_map_or (λ target. bits_value target == key) (slice_get targets 0) false
takes_key key _ targets = true

-- a live rule of the stack that serves the direction, and whose key entry takes the key
unfoldable pub is_suspect : Direction → Stack → ℕ → Listed → Bool
is_suspect direction headers key listed =
    listed.live && same_stack (stack_of listed.rule) headers && serves listed.rule direction
    && option_map_or (λ e. takes_key key e.operator e.targets)
    (key_entry headers listed.rule direction) false

-- the RuleIDs of these rules, in the order of the list
unfoldable pub suspects : List Listed → Direction → Stack → ℕ → List ℕ
suspects rules direction headers key =
    map (λ listed. listed.rule.id) (filter (is_suspect direction headers key) rules)

-- the number in the key field of a packet with these fields
abbrev pub key_value : Stack → List FieldValue → ℕ
key_value headers fields =
    bits_value (value_of fields (record { name = key_field headers; position = 1 }))
