use Rattle.std.proofs.Common.{◌/◌, ◌%◌, ◌∙◌}
use Rattle.std.proofs.lemmas.Result.{IfOk-weaker, on_err_weaker}
use Rattle.coap_fields.proofs.BehindLemmas.{behind-split, front-before}
use Rattle.coap_fields.proofs.splitting.push_after.Goals as goal

pub returns-in-Ok-clause-ok : goal.returns-in-Ok-clause-ok
returns-in-Ok-clause-ok c =
    IfOk-weaker c.push_options.result _ _
    (λ from h. behind-split c.args.fields.now.items c.put_front_fields.new.fields.items c.args.size
    (c.args.first / 16 % 4) (c.args.first % 16) c.args.code c.args.id c.args.bytes.now _ _
    (rw c.from-tkl.ensures at c.if-bytes-tkl.false)
    (rw c.from-tkl.ensures at c.split_at.ensures.front)
    (rw c.from-tkl.ensures at c.split_at.ensures.back) c.in-Ok.ensures.ok
    ∙ h)
    c.push_options.ensures.ok

pub returns-in-Ok-clause-err : goal.returns-in-Ok-clause-err
returns-in-Ok-clause-err c =
    on_err_weaker c.push_options.result
    (λ h. front-before c.args.fields.now.items c.put_front_fields.new.fields.items _
    c.push_options.new.fields.items c.in-Ok.ensures.ok h)
    c.push_options.ensures.err
