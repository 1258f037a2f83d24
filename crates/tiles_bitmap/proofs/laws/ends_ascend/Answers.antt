use Rattle.tiles_bitmap.proofs.TilesLemmas.{ends-ascend}
use Rattle.tiles_bitmap.proofs.laws.ends_ascend.Goals as goal

pub returns : goal.returns
returns c = ends-ascend
