use Rattle.frag_wire.proofs.LawsLemmas.{read-back}
use Rattle.frag_wire.proofs.laws.reads_back.Goals as goal

pub returns : goal.returns
returns c = read-back
