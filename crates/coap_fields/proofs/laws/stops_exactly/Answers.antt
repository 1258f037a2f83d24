use Rattle.coap_fields.proofs.StopLemmas.{stops-within}
use Rattle.coap_fields.proofs.StopAgainLemmas.{stops_exactly}
use Rattle.coap_fields.proofs.laws.stops_exactly.Goals as goal

pub returns-clause-exactly : goal.returns-clause-exactly
returns-clause-exactly c = stops_exactly

pub returns-clause-within : goal.returns-clause-within
returns-clause-within c = stops-within
