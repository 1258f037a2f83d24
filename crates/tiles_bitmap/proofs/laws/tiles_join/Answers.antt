use Rattle.tiles_bitmap.proofs.TilesLemmas.{tiles-join}
use Rattle.tiles_bitmap.proofs.laws.tiles_join.Goals as goal

pub returns : goal.returns
returns c = tiles-join
