use Rattle.std.proofs.Common.{◌∙◌}
use Rattle.aoe_sender.proofs.MarksLemmas.{empty-is}
use Rattle.aoe_sender.proofs.to_send.ToSend.is_empty.Goals as goal

pub returns : goal.returns
returns c =
    empty-is c.self.inside.held c.next_missing.result c.self.inside.end c.args.self.now c.self.told
    c.self.invariant (c.next_missing.ensures.same ∙ c.self.view_is) c.next_missing.ensures.found
