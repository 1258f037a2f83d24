use Rattle.aoe_receiver.proofs.PreviewLemmas.{preview_fits}
use Rattle.aoe_receiver.proofs.laws.preview_fits.Goals as goal

pub returns : goal.returns
returns c = preview_fits
