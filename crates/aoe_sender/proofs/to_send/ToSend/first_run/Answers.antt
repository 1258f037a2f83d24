use Rattle.std.proofs.Common.{◌∙◌}
use Rattle.aoe_sender.proofs.MarksLemmas.{first-none, first-some}
use Rattle.aoe_sender.proofs.to_send.ToSend.first_run.Goals as goal

pub returns-then-first-self : goal.returns-then-first-self
returns-then-first-self c =
    first-none c.self.inside.held c.next_missing-first.result c.self.inside.end c.args.most
    c.args.self.now (c.next_missing-first.ensures.same ∙ c.self.view_is) c.if-first-self.true

pub returns : goal.returns
returns c =
    first-some c.self.inside.held c.next_missing-first.result c.self.inside.end c.args.most
    c.run_length-more.result c.args.self.now c.self.told c.self.invariant
    (c.next_missing-first.ensures.same ∙ c.self.view_is)
    c.if-first-self.false (c.next_missing-first.ensures.found c.if-first-self.false)
    (record { count = c.run_length-more.ensures.count; rest = c.run_length-more.ensures.rest })
