use Rattle.timers.proofs.DueLemmas.{lowest}
use Rattle.timers.proofs.laws.takes_the_lowest.Goals as goal

pub returns : goal.returns
returns c = λ timers key e. let l = lowest timers key e in (l.due, l.below)
