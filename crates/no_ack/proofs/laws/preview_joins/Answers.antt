use Rattle.no_ack.proofs.ReceiverLemmas.{preview-joins}
use Rattle.no_ack.proofs.laws.preview_joins.Goals as goal

pub returns : goal.returns
returns c = preview-joins
