use Rattle.tiles_bitmap.proofs.TilesLemmas.{numbers-name}
use Rattle.tiles_bitmap.proofs.laws.numbers_name.Goals as goal

pub returns : goal.returns
returns c = numbers-name
