use Rattle.coap_fields.proofs.AgainLemmas.{joins-again, makes-again, one_packet}
use Rattle.coap_fields.proofs.laws.split_then_joined.Goals as goal

pub returns-clause-joins : goal.returns-clause-joins
returns-clause-joins c = joins-again

pub returns-clause-makes : goal.returns-clause-makes
returns-clause-makes c = makes-again

pub returns-clause-one : goal.returns-clause-one
returns-clause-one c = one_packet
