use Rattle.std.proofs.Common.{subst}
use Rattle.std.proofs.lemmas.Result.{IfOk-weaker}
use Rattle.aa_sender.specs.State.{IsAaSender}
use Rattle.aa_sender.proofs.SenderLemmas.{last_is, room_all1}
use Rattle.aa_sender.proofs.sender.AaSender.all1.Goals as goal

pub returns-clause-room : goal.returns-clause-room
returns-clause-room c =
    let is : IsAaSender c.args.self.now = subst IsAaSender c.self.view_is c.self.invariant.0 in
    IfOk-weaker c.write.result _ _
    (λ bytes e. rw e
    (room_all1 c.self.inside.params _ _ 34 c.args.self.now.mtu _ c.self.invariant.0.row
    (rw (c.in_ok-payload.ensures, c.requires.inside) (last_is c.args.self.now is))))
    c.write.ensures.exact
