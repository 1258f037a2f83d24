use Rattle.rcs.proofs.SumLemmas.{read-last}
use Rattle.rcs.proofs.register.Register.put_rest.Goals as goal

pub returns-in-Some : goal.returns-in-Some
returns-in-Some c =
    read-last c.args.self.now c.put.new.self c.left-count.result c.in-Some.last c.args.reader.now
    c.read.new.self c.left-count.ensures c.in-Some.ensures.some c.put.ensures
