use Rattle.coap_fields.proofs.MessageLemmas.{spelled_once}
use Rattle.coap_fields.proofs.laws.spelled_once.Goals as goal

pub returns : goal.returns
returns c = spelled_once
