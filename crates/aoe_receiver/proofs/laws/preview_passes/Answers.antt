use Rattle.aoe_receiver.proofs.PreviewLemmas.{preview_passes}
use Rattle.aoe_receiver.proofs.laws.preview_passes.Goals as goal

pub returns : goal.returns
returns c = preview_passes
