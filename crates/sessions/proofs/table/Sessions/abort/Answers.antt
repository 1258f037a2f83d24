use Rattle.std.proofs.Common.{ap, sym, ◌∙◌}
use Rattle.sessions.specs.Steps.{abort_step}
use Rattle.sessions.proofs.CallLemmas.{abort-none, abort-some}
use Rattle.sessions.proofs.table.Sessions.abort.Goals as goal

pub returns-in_default-clause-step : goal.returns-in_default-clause-step
returns-in_default-clause-step c =
    let s = c.self.inside in
    ap abort_step (sym c.self.view_is)
    ∙ abort-none s.role s.params s.running s.answering s.silent s.next s.clocks c.in_default.is

pub returns-clause-step : goal.returns-clause-step
returns-clause-step c =
    let s = c.self.inside in
    ap abort_step (sym c.self.view_is)
    ∙ abort-some s.role s.params s.running c.in-Some.running c.give_up-heard.new.running
    s.answering s.silent s.next s.clocks c.give_up-heard.new.clocks c.give_up-heard.result
    c.heard_report.result c.in-Some.is c.give_up-heard.ensures.exact
    c.give_up-heard.ensures.others c.heard_report.ensures
