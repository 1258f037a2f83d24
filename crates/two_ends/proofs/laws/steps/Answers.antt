-- it is so in every world that events lead to
use Rattle.two_ends.proofs.KeepsLemmas.{stepped-run}
use Rattle.two_ends.proofs.laws.steps.Goals as goal

pub returns : goal.returns
returns c params events fits key event = stepped-run params events fits key event
