use Rattle.tiles_bitmap.proofs.TilesLemmas.{counts-tiles}
use Rattle.tiles_bitmap.proofs.laws.counts_tiles.Goals as goal

pub returns : goal.returns
returns c = counts-tiles
