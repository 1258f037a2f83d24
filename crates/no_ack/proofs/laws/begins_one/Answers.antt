use Rattle.no_ack.proofs.KeptLemmas.{begins_one}
use Rattle.no_ack.proofs.laws.begins_one.Goals as goal

pub returns : goal.returns
returns c = begins_one
