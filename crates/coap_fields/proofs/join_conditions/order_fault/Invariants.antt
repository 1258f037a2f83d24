use Rattle.std.proofs.Common.{◌≡◌, drop}
use Rattle.rule_model.specs.First.{first_held}
use Rattle.coap_fields.specs.Join.{order}
use Rattle.coap_fields.proofs.join_conditions.order_fault.Given as goal

abbrev pub invariant-loop-field : goal.invariant-loop-field
invariant-loop-field l =
    first_held (order l.rank l.position (drop l.field-index l.fields)) ≡ first_held
    (order 0 0 l.fields)
