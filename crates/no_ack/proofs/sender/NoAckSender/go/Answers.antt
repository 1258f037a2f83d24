use Rattle.no_ack.proofs.SenderLemmas.{moved}
use Rattle.no_ack.proofs.sender.NoAckSender.go.Goals as goal

pub invariant_of-self : goal.invariant_of-self
invariant_of-self c =
    (moved _ c.args.state c.self.invariant.0 (rw c.self.view_is c.requires), c.self.invariant.1)
