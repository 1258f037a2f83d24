use Rattle.no_ack.proofs.ReceiverLemmas.{preview_is_join}
use Rattle.no_ack.proofs.laws.preview_is_join.Goals as goal

pub returns : goal.returns
returns c = preview_is_join
