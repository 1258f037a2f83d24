use Rattle.tiles_bitmap.proofs.TilesLemmas.{cut-once}
use Rattle.tiles_bitmap.proofs.laws.cut_once.Goals as goal

pub returns : goal.returns
returns c = cut-once
