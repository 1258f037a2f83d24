use Rattle.aoe_sender.proofs.SessionLemmas.{none-due}
use Rattle.aoe_sender.proofs.laws.none_due.Goals as goal

pub returns : goal.returns
returns c = none-due
