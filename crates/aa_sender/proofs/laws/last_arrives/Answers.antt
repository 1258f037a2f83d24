use Rattle.aa_sender.proofs.ArrivalLemmas.{last_arrives}
use Rattle.aa_sender.proofs.laws.last_arrives.Goals as goal

pub returns : goal.returns
returns c = last_arrives
