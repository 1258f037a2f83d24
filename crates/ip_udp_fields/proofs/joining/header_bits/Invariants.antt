use Rattle.std.proofs.Common.{◌≡◌, ◌++◌, drop}
use Rattle.schc_ids.specs.Names.{fields_of_stack}
use Rattle.ip_udp_fields.specs.Join.{values_in}
use Rattle.ip_udp_fields.proofs.joining.header_bits.Given as goal

abbrev pub invariant-loop-name : goal.invariant-loop-name
invariant-loop-name l =
    l.header ++ values_in l.direction l.fields (drop l.name-index l.name-items)
    ≡ values_in l.fn.direction l.fn.fields (fields_of_stack l.fn.stack)
