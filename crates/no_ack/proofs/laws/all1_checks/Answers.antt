use Rattle.no_ack.proofs.ArrivalLemmas.{all1_checks}
use Rattle.no_ack.proofs.laws.all1_checks.Goals as goal

pub returns : goal.returns
returns c = all1_checks
