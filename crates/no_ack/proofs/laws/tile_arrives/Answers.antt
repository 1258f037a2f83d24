use Rattle.no_ack.proofs.ArrivalLemmas.{tile_arrives}
use Rattle.no_ack.proofs.laws.tile_arrives.Goals as goal

pub returns : goal.returns
returns c = tile_arrives
