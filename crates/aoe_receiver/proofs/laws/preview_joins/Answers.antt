use Rattle.aoe_receiver.proofs.StepsLemmas.{preview-joins}
use Rattle.aoe_receiver.proofs.laws.preview_joins.Goals as goal

pub returns : goal.returns
returns c = preview-joins
