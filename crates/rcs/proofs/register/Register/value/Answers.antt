use Rattle.rcs.proofs.SumLemmas.{sums-value}
use Rattle.rcs.proofs.register.Register.value.Goals as goal

pub returns : goal.returns
returns c = λ bits h. sums-value c.args.self.now bits c.check.result c.check.ensures h
