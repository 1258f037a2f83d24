use Rattle.std.proofs.Common.{ap, ◌∙◌, subst}
use Rattle.sessions.proofs.SenderLemmas.{GoesOn, heard-goes}
use Rattle.sessions.proofs.MoveLemmas.{left-is, moved-keeps, heard-exact}
use Rattle.sessions.proofs.moves.hear_message.Goals as goal

pub returns-clause-exact : goal.returns-clause-exact
returns-clause-exact c =
    let old = c.args.running.now in
    let left = ap (λ clocks. clocks.sending) c.sender_moved.ensures
    ∙ left-is c.args.ticks.now old.sender c.answer-heard.new.self c.phase-before.result
    c.phase.result c.args.clocks.now.sending c.phase-before.ensures c.phase.ensures in
    heard-exact c.args.ticks.now c.args.message.now old.number old.sender c.answer-heard.new.self
    c.answer-heard.result c.args.clocks.now.sending c.sender_moved.new.self.sending
    c.answer-heard.ensures left

pub returns-clause-keeps : goal.returns-clause-keeps
returns-clause-keeps c =
    let old = c.args.running.now in
    let left = ap (λ clocks. clocks.sending) c.sender_moved.ensures
    ∙ left-is c.args.ticks.now old.sender c.answer-heard.new.self c.phase-before.result
    c.phase.result c.args.clocks.now.sending c.phase-before.ensures c.phase.ensures in
    let goes =
    subst (λ step. GoesOn old.sender step.0) c.answer-heard.ensures
    (heard-goes c.args.message.now old.sender) in
    moved-keeps c.args.ticks.now old.number old.sender c.answer-heard.new.self
    c.args.clocks.now.sending c.sender_moved.new.self.sending goes left
