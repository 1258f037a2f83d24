use Rattle.lanes.proofs.WaitingLemmas.{waits-well}
use Rattle.lanes.proofs.laws.waits_well.Goals as goal

pub returns : goal.returns
returns c = waits-well
