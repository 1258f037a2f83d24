use Rattle.lanes.proofs.EarnedLemmas.{arrived}
use Rattle.lanes.proofs.laws.arrived.Goals as goal

pub returns : goal.returns
returns c = arrived
