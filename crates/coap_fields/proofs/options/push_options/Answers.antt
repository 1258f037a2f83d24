use Rattle.std.proofs.Common.{◌-◌, length, arith}
use Rattle.std.proofs.lemmas.Result.{IfOk-weaker, IfErr-weaker}
use Rattle.coap_fields.proofs.TurnLemmas.{later-are, turn-end, turn-payload, turn-payload_stop}
use Rattle.coap_fields.proofs.TurnLemmas.{turn-stop, turn-smaller, turn-next}
use Rattle.coap_fields.proofs.BehindLemmas.{front-then}
use Rattle.coap_fields.proofs.options.push_options.Goals as goal

pub returns-then-first-clause-ok : goal.returns-then-first-clause-ok
returns-then-first-clause-ok c =
    IfOk-weaker c.payload_from.result _ _
    (λ from h. turn-payload c.loop-rest.fields.items c.loop-rest.last.number c.loop-rest.last.place
    c.args.size c.loop-rest.rest.now _ _ from (later-are c.loop-rest.rest.now)
    c.in-len1-up.len_at_least c.if-first.true c.loop-rest.invariant.2 h.0 h.1)
    c.payload_from.ensures.ok

pub returns-then-first-clause-refused : goal.returns-then-first-clause-refused
returns-then-first-clause-refused c =
    IfErr-weaker c.payload_from.result _ _
    (λ fault h. turn-payload_stop c.loop-rest.fields.items c.loop-rest.last.number
    c.loop-rest.last.place c.args.size c.loop-rest.rest.now _ _ fault
    (later-are c.loop-rest.rest.now) c.in-len1-up.len_at_least c.if-first.true
    c.loop-rest.invariant.2 h.0 h.1)
    c.payload_from.ensures.err

pub returns-in-Err-clause-refused : goal.returns-in-Err-clause-refused
returns-in-Err-clause-refused c =
    turn-stop c.loop-rest.fields.items c.loop-rest.last.number c.loop-rest.last.place c.args.size
    c.loop-rest.rest.now _ _ c.in-Err.stop (later-are c.loop-rest.rest.now)
    c.in-len1-up.len_at_least c.if-first.false c.loop-rest.invariant.2 c.in-Err.ensures.err

pub loop-rest-smaller : goal.loop-rest-smaller
loop-rest-smaller c =
    turn-smaller c.args.size (c.args.size - length c.loop-rest.rest.now) c.loop-rest.last.number
    c.loop-rest.last.place c.loop-rest.rest.now _ _ c.in-Ok.read.rest.now
    (later-are c.loop-rest.rest.now) c.in-len1-up.len_at_least c.in-Ok.ensures.ok

pub loop-rest-preserved : goal.loop-rest-preserved
loop-rest-preserved c = (
  omega (
    arith,
    c.loop-rest.invariant.0,
    turn-smaller c.args.size
        (c.args.size - length c.loop-rest.rest.now) c.loop-rest.last.number c.loop-rest.last.place
        c.loop-rest.rest.now _ _ c.in-Ok.read.rest.now (later-are c.loop-rest.rest.now)
        c.in-len1-up.len_at_least c.in-Ok.ensures.ok,
  ),
  front-then c.args.fields.now.items c.loop-rest.fields.items c.push_option.new.fields.items _
      c.loop-rest.invariant.1 c.in-Ok-push_option.ensures.ok,
  turn-next c.loop-rest.fields.items c.loop-rest.last.number c.loop-rest.last.place c.args.size
      c.loop-rest.rest.now _ _ c.in-Ok.read.number c.in-Ok.read.place c.in-Ok.read.value.now
      c.in-Ok.read.rest.now c.push_option.new.fields.items (later-are c.loop-rest.rest.now)
      c.in-len1-up.len_at_least c.if-first.false c.loop-rest.invariant.2 c.in-Ok.ensures.ok
      c.in-Ok.ensures.place c.in-Ok-push_option.ensures.ok,
)

pub returns-clause-ok : goal.returns-clause-ok
returns-clause-ok c =
    turn-end c.loop-rest.fields.items c.loop-rest.last.number c.loop-rest.last.place c.args.size
    c.loop-rest.rest.now _ c.in_default.len_below c.loop-rest.invariant.2
