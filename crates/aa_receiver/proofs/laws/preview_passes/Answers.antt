use Rattle.aa_receiver.proofs.LawsLemmas.{preview_passes}
use Rattle.aa_receiver.proofs.laws.preview_passes.Goals as goal

pub returns : goal.returns
returns c = preview_passes
