use Rattle.coap_fields.proofs.FactLemmas.{are-coap_fields}
use Rattle.coap_fields.proofs.laws.fields_are_sized.Goals as goal

pub returns : goal.returns
returns c = are-coap_fields
