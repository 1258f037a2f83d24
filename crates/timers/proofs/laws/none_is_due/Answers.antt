use Rattle.timers.proofs.DueLemmas.{none_due}
use Rattle.timers.proofs.laws.none_is_due.Goals as goal

pub returns : goal.returns
returns c = none_due
