use Rattle.std.proofs.Common.{◌∙◌, arith}
use Rattle.load_maker.proofs.LoadLemmas.{frames-pushed, length-two, frames-all}
use Rattle.load_maker.proofs.turns.frames_up.Goals as goal

pub loop-sent-preserved : goal.loop-sent-preserved
loop-sent-preserved c = (
  frames-pushed c.args.device c.args.number c.loop-sent.sent c.args.count c.args.script.now.events
      c.loop-sent.script.events
      c.tell.new.script.events c.tell-in-loop-sent.new.script.events c.loop-sent-test.true
      c.loop-sent.invariant.0
      c.in_ok-tell.ensures.events c.in_ok-tell-2.ensures.events,
  c.in_ok-tell-2.ensures.devices ∙ c.in_ok-tell.ensures.devices ∙ c.loop-sent.invariant.1,
  length-two c.loop-sent.script.events c.tell.new.script.events
      c.tell-in-loop-sent.new.script.events _ _ _ c.loop-sent.sent
      c.in_ok-tell.ensures.events c.in_ok-tell-2.ensures.events c.loop-sent.invariant.2,
)

pub returns-clause-events : goal.returns-clause-events
returns-clause-events c =
    frames-all c.args.device c.args.number c.loop-sent.sent c.args.count c.args.script.now.events
    c.loop-sent.script.events
    (omega (arith, c.loop-sent-test.false)) c.loop-sent.invariant.0
