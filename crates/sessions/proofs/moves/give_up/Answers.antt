use Rattle.std.proofs.Common.{ap, ◌∙◌, subst}
use Rattle.sessions.proofs.SenderLemmas.{GoesOn, aborted-goes}
use Rattle.sessions.proofs.MoveLemmas.{left-is, moved-keeps, aborted-exact}
use Rattle.sessions.proofs.moves.give_up.Goals as goal

pub returns-clause-exact : goal.returns-clause-exact
returns-clause-exact c =
    let old = c.args.running.now in
    let left = ap (λ clocks. clocks.sending) c.sender_moved.ensures
    ∙ left-is c.args.ticks.now old.sender c.abort-heard.new.self c.phase-before.result
    c.phase.result c.args.clocks.now.sending c.phase-before.ensures c.phase.ensures in
    aborted-exact c.args.ticks.now old.number old.sender c.abort-heard.new.self c.abort-heard.result
    c.args.clocks.now.sending c.sender_moved.new.self.sending c.abort-heard.ensures left

pub returns-clause-keeps : goal.returns-clause-keeps
returns-clause-keeps c =
    let old = c.args.running.now in
    let left = ap (λ clocks. clocks.sending) c.sender_moved.ensures
    ∙ left-is c.args.ticks.now old.sender c.abort-heard.new.self c.phase-before.result
    c.phase.result c.args.clocks.now.sending c.phase-before.ensures c.phase.ensures in
    let goes =
    subst (λ step. GoesOn old.sender step.0) c.abort-heard.ensures (aborted-goes old.sender) in
    moved-keeps c.args.ticks.now old.number old.sender c.abort-heard.new.self
    c.args.clocks.now.sending c.sender_moved.new.self.sending goes left
