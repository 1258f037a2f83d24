use Rattle.frag_wire.proofs.LawsLemmas.{never-both}
use Rattle.frag_wire.proofs.laws.never_both.Goals as goal

pub returns : goal.returns
returns c = never-both
