use Rattle.std.proofs.Common.{subst}
use Rattle.std.proofs.lemmas.Result.{IfOk-weaker}
use Rattle.aa_sender.specs.State.{IsAaSender}
use Rattle.aa_sender.proofs.SenderLemmas.{regular-is, can_regular, room_regular}
use Rattle.aa_sender.proofs.sender.AaSender.regular.Goals as goal

pub write-requires-clause-spelt : goal.write-requires-clause-spelt
write-requires-clause-spelt c =
    let is : IsAaSender c.args.self.now = subst IsAaSender c.self.view_is c.self.invariant.0 in
    can_regular c.self.inside.params _ 2 _ c.self.invariant.0.row c.window_of.ensures.below
    (rw c.in_ok-payload.ensures (regular-is c.args.self.now c.args.tile is c.requires.inside).least)

pub returns-clause-room : goal.returns-clause-room
returns-clause-room c =
    let is : IsAaSender c.args.self.now = subst IsAaSender c.self.view_is c.self.invariant.0 in
    IfOk-weaker c.write.result _ _
    (λ bytes e. rw e
    (room_regular c.self.inside.params _ 2 c.args.self.now.mtu _ c.self.invariant.0.row
    (rw c.in_ok-payload.ensures
    (regular-is c.args.self.now c.args.tile is c.requires.inside).fits)))
    c.write.ensures.exact
