use Rattle.std.proofs.Common.{sym, ◌∙◌}
use Rattle.coap_fields.proofs.WriteLemmas.{no-token}
use Rattle.coap_fields.proofs.writing.token_bytes.Goals as goal

pub returns-in-None : goal.returns-in-None
returns-in-None c = c.new.ensures ∙ sym (no-token c.args.fields.now (sym c.in-None.ensures))
