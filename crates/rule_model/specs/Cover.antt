-- What a rule says of a direction: the entries that are used, the headers, and what isn't restored.
use Rattle.std.specs.Prelude.{Bool, true, false, ◌&&◌, if◌then◌else◌, List, [], ◌∷◌, ◌++◌, filter}
use Rattle.std.specs.Prelude.{map}
use Rattle.std.specs.List.{list_any, list_all}
use Rattle.schc_ids.specs.declared.ends.Direction.{Direction}
use Rattle.schc_ids.specs.declared.names.FieldName.{FieldName}
use Rattle.schc_ids.specs.declared.names.FieldName.TheVariants.{IpDevPrefix, IpDevIid, IpAppPrefix}
use Rattle.schc_ids.specs.declared.names.FieldName.TheVariants.{IpAppIid, UdpDevPort, UdpAppPort}
use Rattle.schc_ids.specs.declared.names.FieldName.TheVariants.{UdpChecksum}
use Rattle.schc_ids.specs.declared.names.FieldAt.{FieldAt}
use Rattle.schc_ids.specs.declared.names.Layer.{Layer}
use Rattle.schc_ids.specs.declared.names.Layer.TheVariants as layer
use Rattle.schc_ids.specs.declared.names.Stack.{Stack}
use Rattle.schc_ids.specs.declared.names.Stack.TheVariants as stack
use Rattle.schc_ids.specs.Ends.{covers}
use Rattle.schc_ids.specs.Names.{layer_of, same_layer, same_name, fields_of_stack}
use Rattle.rule_model.specs.declared.rule.Operator.{Operator}
use Rattle.rule_model.specs.declared.rule.Operator.TheVariants.{Ignore}
use Rattle.rule_model.specs.declared.rule.Action.{Action}
use Rattle.rule_model.specs.declared.rule.Action.TheVariants.{NotSent, Compute}
use Rattle.rule_model.specs.Data.{EntryData, RuleData}

-- the entries that are used in a direction, in the rule's order: RFC 8724, section 7.2
abbrev pub covered : RuleData → Direction → List EntryData
covered rule direction = filter (λ e. covers e.direction direction) rule.entries

-- an entry of the rule, in whichever direction, is of a field of this header
abbrev pub has_layer : RuleData → Layer → Bool
has_layer rule header = list_any (λ e. same_layer (layer_of e.name) header) rule.entries

-- the rule's stack: the headers up to the highest one of which it has a field
abbrev pub stack_of : RuleData → Stack
stack_of rule =
    if has_layer rule layer.Coap then stack.IpUdpCoap
    else (if has_layer rule layer.Udp then stack.IpUdp else stack.Ip)

-- an entry that is used in the direction is of the field
abbrev pub has_field : RuleData → Direction → FieldName → Bool
has_field rule direction name = list_any (λ e. same_name e.name name) (covered rule direction)

-- a rule serves a direction where the entries that are used in it hold each field that a packet of
-- its stack always has
abbrev pub serves : RuleData → Direction → Bool
serves rule direction = list_all (has_field rule direction) (fields_of_stack (stack_of rule))

-- the field that an entry is of
abbrev pub field_of : EntryData → FieldAt
field_of e = record { name = e.name; position = e.position }

-- ignore and not-sent: whatever value the packet has, the other end restores the target
abbrev pub is_lossy : Operator → Action → Bool
is_lossy Ignore NotSent = true
is_lossy _ _ = false

-- the action computes the value at the other end
abbrev pub is_compute : Action → Bool
is_compute Compute = true
is_compute _ = false

-- the UDP checksum is computed in the direction
abbrev pub computes_checksum : RuleData → Direction → Bool
computes_checksum rule direction =
    list_any (λ e. same_name e.name UdpChecksum && is_compute e.action) (covered rule direction)

-- the UDP checksum is computed over the field, among those that a rule may drop: parts of the
-- addresses (RFC 8200, section 8.1), ports, and the fields of CoAP, which are the UDP datagram's
-- data
abbrev pub is_in_checksum : FieldName → Bool
is_in_checksum IpDevPrefix = true
is_in_checksum IpDevIid = true
is_in_checksum IpAppPrefix = true
is_in_checksum IpAppIid = true
is_in_checksum UdpDevPort = true
is_in_checksum UdpAppPort = true
is_in_checksum name = same_layer (layer_of name) layer.Coap

-- the fields of the entries that are used in the direction, are ignored and send nothing, in the
-- rule's order
abbrev pub lossy_fields : RuleData → Direction → List FieldAt
lossy_fields rule direction =
    map field_of
    (filter (λ e. covers e.direction direction && is_lossy e.operator e.action) rule.entries)

-- the fields whose value the other end may restore to another one: the lossy ones, and at the end
-- the UDP checksum, where it is computed over one of them
abbrev pub dropped_fields : RuleData → Direction → List FieldAt
dropped_fields rule direction =
    if computes_checksum rule direction && list_any (λ f. is_in_checksum f.name)
    (lossy_fields rule direction)
    then lossy_fields rule direction ++ record { name = UdpChecksum; position = 1 } ∷ []
    else lossy_fields rule direction
