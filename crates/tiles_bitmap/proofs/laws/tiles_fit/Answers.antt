use Rattle.tiles_bitmap.proofs.TilesLemmas.{tiles-fit}
use Rattle.tiles_bitmap.proofs.laws.tiles_fit.Goals as goal

pub returns : goal.returns
returns c = tiles-fit
