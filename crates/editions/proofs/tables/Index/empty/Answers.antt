use Rattle.editions.proofs.KeyLemmas.{index-empty}
use Rattle.editions.proofs.tables.Index.empty.Goals as goal

pub returns : goal.returns
returns c = index-empty c.empty.result c.empty-2.result c.empty.ensures c.empty-2.ensures
