-- The conditions under which fields make no packet, group after group.
use Rattle.std.specs.Prelude.{ℕ, ◌≡◌, List, ◌++◌, Some, None}
use Rattle.std.proofs.Common.{◌∙◌}
use Rattle.schc_ids.specs.declared.ends.Direction.{Direction}
use Rattle.schc_ids.specs.declared.names.Stack.{Stack}
use Rattle.ip_udp_fields.specs.Layout.{fields_in_packet_order}
use Rattle.rule_model.specs.declared.value.FieldValue.{FieldValue}
use Rattle.rule_model.specs.declared.parts.JoinFault.{JoinFault}
use Rattle.rule_model.specs.First.{first_held}
use Rattle.ip_udp_fields.specs.Join.{presence, order, value_refusals, join_refusal}
use Rattle.rule_model.proofs.FirstLemmas.{first_held-append_some, first_held-append_none}

-- the first field that is missing or has another width is the fault, before all others
pub join_refusal-presence : (of : Stack) (direction : Direction) (fields : List FieldValue)
    (size : ℕ) (fault : JoinFault)
    → first_held (presence fields (fields_in_packet_order of direction)) ≡ Some fault
    → join_refusal of direction fields size ≡ Some fault
unfolding join_refusal
join_refusal-presence of direction fields size fault e =
    first_held-append_some (presence fields (fields_in_packet_order of direction))
    (order (fields_in_packet_order of direction) fields ++ value_refusals of fields size) fault
    e

-- where each field is there with its width, the first that isn't in its place is the fault
pub join_refusal-order : (of : Stack) (direction : Direction) (fields : List FieldValue) (size : ℕ)
    (fault : JoinFault) → first_held (presence fields (fields_in_packet_order of direction)) ≡ None
    → first_held (order (fields_in_packet_order of direction) fields) ≡ Some fault
    → join_refusal of direction fields size ≡ Some fault
unfolding join_refusal
join_refusal-order of direction fields size fault p e =
    first_held-append_none (presence fields (fields_in_packet_order of direction))
    (order (fields_in_packet_order of direction) fields ++ value_refusals of fields size) p
    ∙ first_held-append_some (order (fields_in_packet_order of direction) fields)
    (value_refusals of fields size) fault e

-- where all fields are there with their widths and in order, any fault is the first wrong value
pub join_refusal-values : (of : Stack) (direction : Direction) (fields : List FieldValue) (size : ℕ)
    → first_held (presence fields (fields_in_packet_order of direction)) ≡ None
    → first_held (order (fields_in_packet_order of direction) fields) ≡ None
    → join_refusal of direction fields size ≡ first_held (value_refusals of fields size)
unfolding join_refusal
join_refusal-values of direction fields size p o =
    first_held-append_none (presence fields (fields_in_packet_order of direction))
    (order (fields_in_packet_order of direction) fields ++ value_refusals of fields size) p
    ∙ first_held-append_none (order (fields_in_packet_order of direction) fields)
    (value_refusals of fields size) o
