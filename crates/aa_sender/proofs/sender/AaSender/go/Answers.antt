use Rattle.aa_sender.proofs.SenderLemmas.{stands-there}
use Rattle.aa_sender.proofs.sender.AaSender.go.Goals as goal

pub invariant_of-self : goal.invariant_of-self
invariant_of-self c = (
  stands-there _ c.args.state c.self.invariant.0 (rw c.self.view_is c.requires),
  c.self.invariant.1,
)
