use Rattle.lanes.proofs.HeldLemmas.{holds-tiles}
use Rattle.lanes.proofs.laws.holds_tiles.Goals as goal

pub returns : goal.returns
returns c = holds-tiles
