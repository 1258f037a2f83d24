use Rattle.aoe_sender.proofs.LawsLemmas.{spells-due}
use Rattle.aoe_sender.proofs.laws.spells_due.Goals as goal

pub returns : goal.returns
returns c = spells-due
