use Rattle.aa_sender.proofs.KeptLemmas.{stays_one}
use Rattle.aa_sender.proofs.laws.stays_one.Goals as goal

pub returns : goal.returns
returns c = stays_one
