use Rattle.std.proofs.Common.{arith, sym, ◌∙◌, ◌+◌}
use Rattle.aoe_sender.proofs.MarksLemmas.{run-begins, run-next, run-done, run-stops, run-full}
use Rattle.aoe_sender.proofs.to_send.run_length.Goals as goal

pub loop-more-init : goal.loop-more-init
loop-more-init c = run-begins c.args.held.now c.args.end c.args.most c.args.first c.requires.first

pub loop-more-preserved : goal.loop-more-preserved
loop-more-preserved c =
    run-next c.args.held.now c.args.end c.args.most c.args.first c.loop-more.more c.told-held
    c.requires.end c.loop-more-test.true (sym c.follows.ensures ∙ c.if-follows.true)
    c.loop-more.invariant

pub returns-else-follows-clause-count : goal.returns-else-follows-clause-count
returns-else-follows-clause-count c =
    (run-done c.args.held.now c.args.end c.args.most c.args.first c.loop-more.more
    c.loop-more.invariant
    (run-stops c.args.held.now c.args.end _ (c.args.first + c.loop-more.more) c.told-held
    c.requires.end (sym c.follows.ensures ∙ c.if-follows.false))).count

pub returns-else-follows-clause-rest : goal.returns-else-follows-clause-rest
returns-else-follows-clause-rest c =
    (run-done c.args.held.now c.args.end c.args.most c.args.first c.loop-more.more
    c.loop-more.invariant
    (run-stops c.args.held.now c.args.end _ (c.args.first + c.loop-more.more) c.told-held
    c.requires.end (sym c.follows.ensures ∙ c.if-follows.false))).rest

pub returns-after-loop-more-clause-count : goal.returns-after-loop-more-clause-count
returns-after-loop-more-clause-count c =
    (run-done c.args.held.now c.args.end c.args.most c.args.first c.loop-more.more
    c.loop-more.invariant
    (run-full c.args.held.now c.args.end _ (c.args.first + c.loop-more.more)
    (omega (arith, c.loop-more-test.false)))).count

pub returns-after-loop-more-clause-rest : goal.returns-after-loop-more-clause-rest
returns-after-loop-more-clause-rest c =
    (run-done c.args.held.now c.args.end c.args.most c.args.first c.loop-more.more
    c.loop-more.invariant
    (run-full c.args.held.now c.args.end _ (c.args.first + c.loop-more.more)
    (omega (arith, c.loop-more-test.false)))).rest
