use Rattle.packer.proofs.reading.UndroppedLemmas.{keeps_where_nothing_is_dropped}
use Rattle.packer.proofs.laws.keeps_where_nothing_is_dropped.Goals as goal

pub returns : goal.returns
returns c = keeps_where_nothing_is_dropped
