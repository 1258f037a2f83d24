-- it is so in every world that events lead to
use Rattle.two_ends.proofs.CleanLemmas.{run-arrives}
use Rattle.two_ends.proofs.laws.clean.Goals as goal

pub returns : goal.returns
returns c params events fits role packet bytes = run-arrives params events role packet fits bytes
