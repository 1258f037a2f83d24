use Rattle.aa_sender.proofs.ArrivalLemmas.{due_fits}
use Rattle.aa_sender.proofs.laws.due_fits.Goals as goal

pub returns : goal.returns
returns c = due_fits
