use Rattle.aa_receiver.proofs.LawsLemmas.{preview_fits}
use Rattle.aa_receiver.proofs.laws.preview_fits.Goals as goal

pub returns : goal.returns
returns c = preview_fits
