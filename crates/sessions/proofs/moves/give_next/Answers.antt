use Rattle.std.proofs.lemmas.Result.{IfOk-weaker}
use Rattle.sessions.specs.Data.{port_key}
use Rattle.sessions.proofs.NextLemmas.{both-ok, next_none, next-sending, next-waiting}
use Rattle.sessions.proofs.moves.give_next.Goals as goal

pub returns-in_default-clause-step : goal.returns-in_default-clause-step
returns-in_default-clause-step c =
    next_none c.args.ticks.now (port_key c.args.port) c.args.running.now c.args.clocks.now.sending
    c.in_default.is

pub returns-in-Sending-clause-step : goal.returns-in-Sending-clause-step
returns-in-Sending-clause-step c =
    let gave = c.give_message in
    IfOk-weaker gave.result _ _
    (λ out h. next-sending c.args.ticks.now (port_key c.args.port) c.args.running.now
    c.in-Some.session gave.new.running c.args.clocks.now.sending gave.new.clocks.sending
    c.phase.result out c.in-Some.is c.phase.ensures c.in-Sending.is h.0 h.1)
    (both-ok _ _ gave.result gave.ensures.given gave.ensures.after)

pub returns-in-Waiting-clause-step : goal.returns-in-Waiting-clause-step
returns-in-Waiting-clause-step c =
    next-waiting c.args.ticks.now (port_key c.args.port) c.args.running.now c.in-Some.session
    c.args.clocks.now.sending c.phase.result c.in-Some.is c.phase.ensures c.in-Waiting.is
