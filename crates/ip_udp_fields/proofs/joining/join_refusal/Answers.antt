use Rattle.std.proofs.Common.{sym, ◌∙◌}
use Rattle.ip_udp_fields.proofs.JoinRefusalLemmas.{join_refusal-presence, join_refusal-order}
use Rattle.ip_udp_fields.proofs.JoinRefusalLemmas.{join_refusal-values}
use Rattle.ip_udp_fields.proofs.joining.join_refusal.Goals as goal

pub returns-in-Some : goal.returns-in-Some
returns-in-Some c =
    sym (join_refusal-presence c.args.stack c.args.direction c.args.fields.now c.args.size
    c.in-Some.fault (rw c.fields_in_packet_order.ensures at (sym c.in-Some.ensures)))

pub returns-in-Some-order_fault : goal.returns-in-Some-order_fault
returns-in-Some-order_fault c =
    sym (join_refusal-order c.args.stack c.args.direction c.args.fields.now c.args.size
    c.in-Some-order_fault.fault (rw c.fields_in_packet_order.ensures at (sym c.in-None.ensures))
    (sym c.in-Some-order_fault.ensures))

pub returns-in-None-order_fault : goal.returns-in-None-order_fault
returns-in-None-order_fault c =
    c.content_fault.ensures
    ∙ sym (join_refusal-values c.args.stack c.args.direction c.args.fields.now c.args.size
    (rw c.fields_in_packet_order.ensures at (sym c.in-None.ensures))
    (sym c.in-None-order_fault.ensures))
