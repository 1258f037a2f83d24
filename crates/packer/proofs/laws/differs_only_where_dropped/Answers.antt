use Rattle.packer.proofs.reading.DifferLemmas.{differs_only_where_dropped}
use Rattle.packer.proofs.laws.differs_only_where_dropped.Goals as goal

pub returns : goal.returns
returns c = differs_only_where_dropped
