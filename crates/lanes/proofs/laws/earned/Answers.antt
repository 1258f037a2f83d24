use Rattle.lanes.proofs.EarnedLemmas.{earned}
use Rattle.lanes.proofs.laws.earned.Goals as goal

pub returns : goal.returns
returns c = earned
