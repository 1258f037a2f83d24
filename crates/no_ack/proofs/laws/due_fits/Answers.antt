use Rattle.no_ack.proofs.ArrivalLemmas.{due_fits}
use Rattle.no_ack.proofs.laws.due_fits.Goals as goal

pub returns : goal.returns
returns c = due_fits
