use Rattle.std.proofs.Common.{sym, subst}
use Rattle.aoe_sender.specs.State.{Sending}
use Rattle.aoe_sender.specs.Tiles.{regular_count}
use Rattle.aoe_sender.specs.Steps.{IsStateOf}
use Rattle.aoe_sender.proofs.KeepsLemmas.{with-state}
use Rattle.aoe_sender.proofs.sender.AoeSender.send_again.Goals as goal

pub invariant_of-self : goal.invariant_of-self
invariant_of-self c =
    with-state _ (Sending c.args.numbers 0) c.self.invariant
    (subst (λ s. IsStateOf (regular_count s) (Sending c.args.numbers 0)) (sym c.self.view_is)
    c.requires)

pub returns-clause-sound : goal.returns-clause-sound
returns-clause-sound c =
    with-state _ (Sending c.args.numbers 0) c.self.invariant
    (subst (λ s. IsStateOf (regular_count s) (Sending c.args.numbers 0)) (sym c.self.view_is)
    c.requires)
