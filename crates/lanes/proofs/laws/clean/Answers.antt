use Rattle.lanes.proofs.CleanLemmas.{clean}
use Rattle.lanes.proofs.laws.clean.Goals as goal

pub returns : goal.returns
returns c = clean
