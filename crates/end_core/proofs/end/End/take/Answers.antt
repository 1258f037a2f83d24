-- a fragment may want memory where it makes a packet whole
use Rattle.std.proofs.Common.{◌≡◌, subst}
use Rattle.std.proofs.lemmas.Result.{on_err_weaker}
use Rattle.end_core.proofs.PartLemmas.{part-wants}
use Rattle.end_core.proofs.end.End.take.Goals as goal

pub returns-in-Fragments-clause-memory : goal.returns-in-Fragments-clause-memory
returns-in-Fragments-clause-memory c =
    on_err_weaker c.take_part.result
    (part-wants c.args.self.now c.args.frame.now
    (subst (λ this. this.sessions.role ≡ this.role) c.self.view_is c.self.invariant.of_role))
    c.take_part.ensures.memory
