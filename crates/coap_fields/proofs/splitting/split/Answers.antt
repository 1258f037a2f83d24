use Rattle.std.proofs.Common.{arith, sym, ◌∙◌}
use Rattle.schc_bits.proofs.Octets.{AreBytes-from_each}
use Rattle.coap_fields.proofs.SplitLemmas.{message_in-takes}
use Rattle.coap_fields.proofs.BehindLemmas.{behind-none}
use Rattle.coap_fields.proofs.splitting.split.Goals as goal

pub returns-in-Ok-clause-ok : goal.returns-in-Ok-clause-ok
returns-in-Ok-clause-ok c =
    message_in-takes c.args.message.now _
    (AreBytes-from_each c.args.message.now (λ k. omega (arith, c.type_inv.message k)))
    (sym (behind-none _) ∙ rw c.new-fields.ensures at c.in-Ok.ensures.ok)
