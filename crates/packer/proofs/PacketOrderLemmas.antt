-- The names of a stack, in the order of the table and in packet order.
use Rattle.std.specs.Prelude.{Contains}
use Rattle.schc_ids.specs.declared.ends.Direction.{Direction}
use Rattle.schc_ids.specs.declared.names.FieldName.{FieldName}
use Rattle.schc_ids.specs.declared.names.Stack.{Stack}
use Rattle.schc_ids.specs.Names.{fields_of_stack}
use Rattle.decompress.proofs.LawLemmas.{all-from, all-at}
use Rattle.ip_udp_fields.specs.Layout.{IsWithoutCoap, fields_in_packet_order}
use Rattle.ip_udp_fields.proofs.SpanLemmas.{to-packet-order, from-packet-order}

-- a name of a stack without CoAP is among its names in packet order
pub to-order : (of : Stack) (direction : Direction) (name : FieldName) → IsWithoutCoap of
    → Contains (fields_of_stack of) name → Contains (fields_in_packet_order of direction) name
to-order of direction name h among =
    all-at (Contains (fields_in_packet_order of direction)) (fields_of_stack of)
    (from-packet-order (Contains (fields_in_packet_order of direction)) of direction h
    (all-from (Contains (fields_in_packet_order of direction))
    (fields_in_packet_order of direction) (λ n c. c))) name among

-- and a name in packet order is one of the stack's
pub from-order : (of : Stack) (direction : Direction) (name : FieldName) → IsWithoutCoap of
    → Contains (fields_in_packet_order of direction) name → Contains (fields_of_stack of) name
from-order of direction name h among =
    all-at (Contains (fields_of_stack of)) (fields_in_packet_order of direction)
    (to-packet-order (Contains (fields_of_stack of)) of direction h
    (all-from (Contains (fields_of_stack of)) (fields_of_stack of) (λ n c. c))) name among
