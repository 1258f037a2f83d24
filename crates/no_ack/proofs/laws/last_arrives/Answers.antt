use Rattle.no_ack.proofs.ArrivalLemmas.{last_arrives}
use Rattle.no_ack.proofs.laws.last_arrives.Goals as goal

pub returns : goal.returns
returns c = last_arrives
