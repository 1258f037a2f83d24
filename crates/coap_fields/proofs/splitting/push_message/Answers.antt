use Rattle.std.proofs.Common.{ap, ◌∙◌, sym, subst}
use Rattle.std.proofs.lemmas.Result.{IfOk-weaker, IfErr-weaker}
use Rattle.coap_fields.specs.Reading.{behind, IsRefusal}
use Rattle.coap_fields.proofs.TurnLemmas.{later-are}
use Rattle.coap_fields.proofs.SplitLemmas.{message_in-none, message_in-first}
use Rattle.coap_fields.proofs.splitting.push_message.Goals as goal

pub returns-in-empty-clause-refused : goal.returns-in-empty-clause-refused
returns-in-empty-clause-refused c = message_in-none c.args.message.now c.in-empty.len_below

pub returns-in-len1-up-clause-ok : goal.returns-in-len1-up-clause-ok
returns-in-len1-up-clause-ok c =
    IfOk-weaker c.push_from.result _ _
    (λ from h. ap (behind c.args.fields.now.items)
    (message_in-first c.args.message.now _ c.in-len1-up.len_at_least
    (later-are c.args.message.now)) ∙ h)
    c.push_from.ensures.ok

pub returns-in-len1-up-clause-refused : goal.returns-in-len1-up-clause-refused
returns-in-len1-up-clause-refused c =
    IfErr-weaker c.push_from.result _ _
    (λ fault h. subst (IsRefusal fault)
    (sym (message_in-first c.args.message.now _ c.in-len1-up.len_at_least
    (later-are c.args.message.now))) h)
    c.push_from.ensures.refused
