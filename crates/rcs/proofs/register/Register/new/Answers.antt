use Rattle.std.proofs.Common.{[], subst, sym}
use Rattle.rcs.specs.Words.{Sums}
use Rattle.rcs.proofs.SumLemmas.{sums-none}
use Rattle.rcs.proofs.register.Register.new.Goals as goal

pub returns : goal.returns
returns c = subst (λ sum. Sums sum []) (sym c.empty.ensures) sums-none
