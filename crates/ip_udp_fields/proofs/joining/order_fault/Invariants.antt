use Rattle.std.proofs.Common.{◌≡◌, drop}
use Rattle.ip_udp_fields.specs.Layout.{fields_in_packet_order}
use Rattle.rule_model.specs.First.{first_held}
use Rattle.ip_udp_fields.specs.Join.{order}
use Rattle.ip_udp_fields.proofs.joining.order_fault.Given as goal

abbrev pub invariant-loop-field : goal.invariant-loop-field
invariant-loop-field l =
    first_held (order l.names (drop l.field-index l.fields)) ≡ first_held
    (order (fields_in_packet_order l.fn.stack l.fn.direction) l.fields)
