use Rattle.lanes.proofs.CheckedLemmas.{joins-padded}
use Rattle.lanes.proofs.laws.joins_padded.Goals as goal

pub returns : goal.returns
returns c = joins-padded
