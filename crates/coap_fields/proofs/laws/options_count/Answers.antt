use Rattle.coap_fields.proofs.CountLemmas.{counts-positions, are-spellable-exactly}
use Rattle.coap_fields.proofs.laws.options_count.Goals as goal

pub returns-clause-exactly : goal.returns-clause-exactly
returns-clause-exactly c = are-spellable-exactly

pub returns-clause-positions : goal.returns-clause-positions
returns-clause-positions c = counts-positions
