use Rattle.std.proofs.Common.{◌≡◌, ◌++◌, map, drop}
use Rattle.ip_udp_fields.specs.Layout.{fields_in_packet_order}
use Rattle.ip_udp_fields.specs.Fields.{field_within}
use Rattle.ip_udp_fields.proofs.splitting.fields_of.Given as goal

abbrev pub invariant-loop-name : goal.invariant-loop-name
invariant-loop-name l =
    l.fields.items ++ map (field_within l.fn.direction l.fn.header) (drop l.name-index l.name-items)
    ≡ map (field_within l.fn.direction l.fn.header)
    (fields_in_packet_order l.fn.stack l.fn.direction)
