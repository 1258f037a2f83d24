use Rattle.frag_wire.proofs.LawsLemmas.{spelled-once}
use Rattle.frag_wire.proofs.laws.spelled_once.Goals as goal

pub returns : goal.returns
returns c = spelled-once
