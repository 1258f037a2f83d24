use Rattle.std.proofs.Common.{◌≡◌, drop}
use Rattle.rule_model.specs.First.{first_held}
use Rattle.coap_fields.specs.Join.{gaps}
use Rattle.coap_fields.proofs.join_conditions.gap_fault.Given as goal

abbrev pub invariant-loop-field : goal.invariant-loop-field
invariant-loop-field l =
    first_held (gaps l.last.number l.last.place (drop l.field-index l.fields)) ≡ first_held
    (gaps 0 0 l.fields)
