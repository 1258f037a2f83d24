use Rattle.editions.proofs.ByIdLemmas.{one-order}
use Rattle.editions.proofs.laws.one_order.Goals as goal

pub returns : goal.returns
returns c = one-order
