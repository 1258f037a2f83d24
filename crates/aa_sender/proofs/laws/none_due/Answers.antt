use Rattle.aa_sender.proofs.SessionLemmas.{none_due}
use Rattle.aa_sender.proofs.laws.none_due.Goals as goal

pub returns : goal.returns
returns c = none_due
