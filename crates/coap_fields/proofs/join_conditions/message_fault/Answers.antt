use Rattle.std.proofs.Common.{sym, ◌∙◌}
use Rattle.coap_fields.proofs.SizeLemmas.{wrong-presence, wrong-standing, wrong-values, wrong-gaps}
use Rattle.coap_fields.proofs.join_conditions.message_fault.Goals as goal

pub returns-in-Some : goal.returns-in-Some
returns-in-Some c = sym (wrong-presence c.args.fields.now c.in-Some.fault (sym c.in-Some.ensures))

pub returns-in-Some-standing_fault : goal.returns-in-Some-standing_fault
returns-in-Some-standing_fault c =
    sym (wrong-standing c.args.fields.now c.in-Some-standing_fault.fault (sym c.in-None.ensures)
    (sym c.in-Some-standing_fault.ensures))

pub returns-in-Some-content_fault : goal.returns-in-Some-content_fault
returns-in-Some-content_fault c =
    sym (wrong-values c.args.fields.now c.in-Some-content_fault.fault (sym c.in-None.ensures)
    (sym c.in-None-standing_fault.ensures) (sym c.in-Some-content_fault.ensures))

pub returns-in-None-content_fault : goal.returns-in-None-content_fault
returns-in-None-content_fault c =
    c.gap_fault.ensures
    ∙ sym (wrong-gaps c.args.fields.now (sym c.in-None.ensures)
    (sym c.in-None-standing_fault.ensures) (sym c.in-None-content_fault.ensures))
