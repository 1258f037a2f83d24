use Rattle.coap_fields.proofs.WriteLemmas.{turn, turn-end}
use Rattle.coap_fields.proofs.writing.put_options.Goals as goal

pub loop-field-preserved : goal.loop-field-preserved
loop-field-preserved c =
    turn c.loop-field.message.items c.put_field.new.message.items _ c.loop-field.before
    c.in_ok-before.before c.loop-field.field-index c.field-item.result c.args.fields.now
    c.loop-field-test.true c.field-item.is c.in_ok-before.ensures.bytes
    c.in_ok-before.ensures.number c.loop-field.invariant.0 c.loop-field.invariant.1

pub returns : goal.returns
returns c =
    turn-end c.loop-field.message.items _ c.loop-field.before c.loop-field.field-index
    c.args.fields.now c.loop-field-test.false c.loop-field.invariant.1
