use Rattle.tiles_bitmap.proofs.RunLemmas.{runs-longest}
use Rattle.tiles_bitmap.proofs.laws.runs_are_longest.Goals as goal

pub returns : goal.returns
returns c = runs-longest
