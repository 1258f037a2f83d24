use Rattle.editions.proofs.ChainLemmas.{one-meaning}
use Rattle.editions.proofs.laws.one_meaning.Goals as goal

pub returns : goal.returns
returns c = one-meaning
