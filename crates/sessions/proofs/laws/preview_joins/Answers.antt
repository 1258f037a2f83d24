use Rattle.sessions.proofs.LawLemmas.{preview_joins}
use Rattle.sessions.proofs.laws.preview_joins.Goals as goal

pub returns : goal.returns
returns c = preview_joins
