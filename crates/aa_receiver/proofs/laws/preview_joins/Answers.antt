use Rattle.aa_receiver.proofs.LawsLemmas.{preview_joins}
use Rattle.aa_receiver.proofs.laws.preview_joins.Goals as goal

pub returns : goal.returns
returns c = preview_joins
