use Rattle.lanes.proofs.CheckedLemmas.{checked}
use Rattle.lanes.proofs.laws.checked.Goals as goal

pub returns : goal.returns
returns c = checked
