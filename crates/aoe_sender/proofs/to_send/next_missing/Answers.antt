use Rattle.std.proofs.Common.{sym, ◌∙◌}
use Rattle.aoe_sender.proofs.MarksLemmas.{there, numbers_of-held}
use Rattle.aoe_sender.proofs.to_send.next_missing.Goals as goal

pub loop-k-preserved : goal.loop-k-preserved
loop-k-preserved c =
    sym (numbers_of-held c.args.held.now c.loop-k.k c.args.end c.loop-k-test.true
    (there c.args.held.now c.args.end c.loop-k.k c.told-held c.requires c.loop-k-test.true)
    (sym c.is_held.ensures ∙ c.if-is_held.true))
    ∙ c.loop-k.invariant
