use Rattle.tiles_bitmap.proofs.TilesLemmas.{tiles-large}
use Rattle.tiles_bitmap.proofs.laws.tiles_are_large.Goals as goal

pub returns : goal.returns
returns c = tiles-large
