use Rattle.std.proofs.lemmas.Result.{IfOk-weaker}
use Rattle.aoe_receiver.proofs.MachineLemmas.{written-room}
use Rattle.aoe_receiver.proofs.receiver.AoeReceiver.spell.Goals as goal

pub returns-clause-room : goal.returns-clause-room
returns-clause-room c =
    IfOk-weaker c.write-2.result _ _
    (λ bytes is. written-room _ _ _ bytes.items c.self.invariant.0 c.new.ensures is)
    c.write-2.ensures.spells
