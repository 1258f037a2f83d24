use Rattle.no_ack.proofs.KeptLemmas.{stays_one}
use Rattle.no_ack.proofs.laws.stays_one.Goals as goal

pub returns : goal.returns
returns c = stays_one
