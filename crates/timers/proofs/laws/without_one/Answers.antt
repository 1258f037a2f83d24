use Rattle.timers.proofs.DueLemmas.{without-own, without-other}
use Rattle.timers.proofs.laws.without_one.Goals as goal

pub returns : goal.returns
returns c = λ timers key other. (without-own timers key, without-other timers key other)
