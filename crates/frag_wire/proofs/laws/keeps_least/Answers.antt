use Rattle.frag_wire.proofs.CanSpellLemmas.{keeps-least}
use Rattle.frag_wire.proofs.laws.keeps_least.Goals as goal

pub returns : goal.returns
returns c = keeps-least
