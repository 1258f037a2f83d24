use Rattle.std.proofs.Common.{subst}
use Rattle.std.proofs.lemmas.Result.{IfOk-weaker}
use Rattle.no_ack.specs.SenderState.{IsNoAckSender}
use Rattle.no_ack.proofs.SenderLemmas.{last_is, room_all1}
use Rattle.no_ack.proofs.sender.NoAckSender.all1.Goals as goal

pub returns-clause-room : goal.returns-clause-room
returns-clause-room c =
    let is : IsNoAckSender c.args.self.now =
    subst IsNoAckSender c.self.view_is c.self.invariant.0 in
    IfOk-weaker c.write.result _ _
    (λ bytes e. rw e
    (room_all1 c.self.inside.params 0 _ 33 c.args.self.now.mtu _ c.self.invariant.0.row
    (rw (c.in_ok-payload.ensures, c.requires.inside) (last_is c.args.self.now is))))
    c.write.ensures.exact
