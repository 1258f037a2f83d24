use Rattle.aa_sender.proofs.ArrivalLemmas.{tile_arrives}
use Rattle.aa_sender.proofs.laws.tile_arrives.Goals as goal

pub returns : goal.returns
returns c = tile_arrives
