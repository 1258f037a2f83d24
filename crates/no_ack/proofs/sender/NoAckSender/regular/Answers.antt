use Rattle.std.proofs.Common.{subst, refl}
use Rattle.std.proofs.lemmas.Result.{IfOk-weaker}
use Rattle.no_ack.specs.SenderState.{IsNoAckSender}
use Rattle.no_ack.proofs.SenderLemmas.{regular-is, can_regular, room_regular}
use Rattle.no_ack.proofs.sender.NoAckSender.regular.Goals as goal

pub write-requires-clause-spelt : goal.write-requires-clause-spelt
write-requires-clause-spelt c =
    let is : IsNoAckSender c.args.self.now =
    subst IsNoAckSender c.self.view_is c.self.invariant.0 in
    can_regular c.self.inside.params 0 1 _ c.self.invariant.0.row refl
    (rw c.in_ok-payload.ensures (regular-is c.args.self.now c.args.tile is c.requires.inside).0)

pub returns-clause-room : goal.returns-clause-room
returns-clause-room c =
    let is : IsNoAckSender c.args.self.now =
    subst IsNoAckSender c.self.view_is c.self.invariant.0 in
    IfOk-weaker c.write.result _ _
    (λ bytes e. rw e
    (room_regular c.self.inside.params 0 1 c.args.self.now.mtu _ c.self.invariant.0.row
    (rw c.in_ok-payload.ensures (regular-is c.args.self.now c.args.tile is c.requires.inside).1)))
    c.write.ensures.exact
