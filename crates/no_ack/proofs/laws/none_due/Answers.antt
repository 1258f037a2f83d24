use Rattle.no_ack.proofs.KeptLemmas.{none_due}
use Rattle.no_ack.proofs.laws.none_due.Goals as goal

pub returns : goal.returns
returns c = none_due
