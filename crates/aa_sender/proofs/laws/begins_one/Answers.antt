use Rattle.aa_sender.proofs.KeptLemmas.{begins_one}
use Rattle.aa_sender.proofs.laws.begins_one.Goals as goal

pub returns : goal.returns
returns c = begins_one
