use Rattle.std.proofs.Common.{arith}
use Rattle.load_maker.proofs.LoadLemmas.{length-pushed, draws-pushed, draws-all}
use Rattle.load_maker.proofs.draws.draws.Goals as goal

pub loop-preserved : goal.loop-preserved
loop-preserved c = (
  draws-pushed c.loop.list.items c.push.new.self.items c.args.count c.loop.counter c.args.start
      c.loop.state c.next_state-state.result c.draw_of.result
      c.loop-test.true c.loop.invariant.0 c.next_state-state.ensures.state c.draw_of.ensures.draw
      c.in_ok-push.ensures.items,
  length-pushed c.loop.list.items c.push.new.self.items c.draw_of.result c.loop.counter
      c.in_ok-push.ensures.items c.loop.invariant.1,
)

pub returns-clause-draws : goal.returns-clause-draws
returns-clause-draws c =
    draws-all c.loop.list.items c.args.count c.loop.counter c.args.start c.loop.state
    (omega (arith, c.loop-test.false)) c.loop.invariant.0
