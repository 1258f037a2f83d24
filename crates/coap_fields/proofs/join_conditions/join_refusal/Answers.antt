use Rattle.std.proofs.Common.{sym, ◌∙◌}
use Rattle.coap_fields.proofs.JoinRefusalLemmas.{refused-presence, refused-order, refused-values}
use Rattle.coap_fields.proofs.JoinRefusalLemmas.{refused-gaps}
use Rattle.coap_fields.proofs.join_conditions.join_refusal.Goals as goal

pub returns-in-Some : goal.returns-in-Some
returns-in-Some c = sym (refused-presence c.args.fields.now c.in-Some.fault (sym c.in-Some.ensures))

pub returns-in-Some-order_fault : goal.returns-in-Some-order_fault
returns-in-Some-order_fault c =
    sym (refused-order c.args.fields.now c.in-Some-order_fault.fault (sym c.in-None.ensures)
    (sym c.in-Some-order_fault.ensures))

pub returns-in-Some-content_fault : goal.returns-in-Some-content_fault
returns-in-Some-content_fault c =
    sym (refused-values c.args.fields.now c.in-Some-content_fault.fault (sym c.in-None.ensures)
    (sym c.in-None-order_fault.ensures) (sym c.in-Some-content_fault.ensures))

pub returns-in-None-content_fault : goal.returns-in-None-content_fault
returns-in-None-content_fault c =
    c.gap_fault.ensures
    ∙ sym (refused-gaps c.args.fields.now (sym c.in-None.ensures)
    (sym c.in-None-order_fault.ensures) (sym c.in-None-content_fault.ensures))
