use Rattle.no_ack.proofs.ReceiverLemmas.{preview_passes}
use Rattle.no_ack.proofs.laws.preview_passes.Goals as goal

pub returns : goal.returns
returns c = preview_passes
