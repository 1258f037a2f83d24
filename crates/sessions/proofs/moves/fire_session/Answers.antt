use Rattle.std.proofs.Common.{ap, sym, ◌∙◌}
use Rattle.schc_ids.specs.declared.phases.SenderPhase.TheVariants.{Waiting}
use Rattle.sessions.specs.Senders.{sender_phase}
use Rattle.sessions.specs.Session.{sender_left}
use Rattle.sessions.proofs.StepLemmas.{fired-quiet, fired-sending, fired-closing, fired-waiting}
use Rattle.sessions.proofs.MoveLemmas.{fired-keeps-waiting}
use Rattle.sessions.proofs.moves.fire_session.Goals as goal

pub returns-in-Quiet-clause-exact : goal.returns-in-Quiet-clause-exact
returns-in-Quiet-clause-exact c =
    fired-quiet c.args.ticks.now c.args.running.now c.in-Some.session c.in-Some.is
    (sym c.phase-before.ensures ∙ c.in-Quiet.is)

pub returns-in-Waiting-clause-exact : goal.returns-in-Waiting-clause-exact
returns-in-Waiting-clause-exact c =
    let ticks = c.args.ticks.now in
    let left =
    ap (λ clocks. clocks.sending) c.sender_moved.ensures
    ∙ ap (λ before. sender_left ticks before c.phase-after.result c.args.clocks.now.sending)
    c.in-Waiting.is
    ∙ ap (λ after. sender_left ticks Waiting after c.args.clocks.now.sending) c.phase-after.ensures
    ∙ ap (λ left. sender_left ticks Waiting (sender_phase c.due-heard.new.self) left)
    c.requires.taken
    in
    fired-waiting ticks c.args.running.now c.in-Some.session c.due-heard.new.self c.due-heard.result
    c.sender_moved.new.self.sending c.heard_report-report.result c.in-Some.is
    (sym c.phase-before.ensures ∙ c.in-Waiting.is) c.due-heard.ensures
    c.heard_report-report.ensures left

pub returns-in-Sending-clause-exact : goal.returns-in-Sending-clause-exact
returns-in-Sending-clause-exact c =
    fired-sending c.args.ticks.now c.args.running.now c.in-Some.session c.args.clocks.now.sending
    c.in-Some.is (sym c.phase-before.ensures ∙ c.in-Sending.is) c.requires.taken

pub returns-in-Closing-clause-exact : goal.returns-in-Closing-clause-exact
returns-in-Closing-clause-exact c =
    fired-closing c.args.ticks.now c.args.running.now c.in-Some.session c.args.clocks.now.sending
    c.in-Some.is (sym c.phase-before.ensures ∙ c.in-Closing.is) c.requires.taken

pub returns-in-Waiting-clause-keeps : goal.returns-in-Waiting-clause-keeps
returns-in-Waiting-clause-keeps c =
    let ticks = c.args.ticks.now in
    let left =
    ap (λ clocks. clocks.sending) c.sender_moved.ensures
    ∙ ap (λ before. sender_left ticks before c.phase-after.result c.args.clocks.now.sending)
    c.in-Waiting.is
    ∙ ap (λ after. sender_left ticks Waiting after c.args.clocks.now.sending) c.phase-after.ensures
    ∙ ap (λ left. sender_left ticks Waiting (sender_phase c.due-heard.new.self) left)
    c.requires.taken
    in
    fired-keeps-waiting ticks c.args.running.now c.in-Some.session c.due-heard.new.self
    c.due-heard.result c.sender_moved.new.self.sending c.in-Some.is
    (sym c.phase-before.ensures ∙ c.in-Waiting.is) c.due-heard.ensures left
