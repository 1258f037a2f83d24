use Rattle.std.proofs.Common.{refl, ap, sym, ◌∙◌, subst, option_map}
use Rattle.sessions.specs.Data.{shown}
use Rattle.sessions.proofs.SenderLemmas.{GoesOn, sent-goes}
use Rattle.sessions.proofs.MoveLemmas.{left-is, moved-keeps, given-after, given-is, report-is}
use Rattle.sessions.proofs.MoveLemmas.{still-after, still-keeps}
use Rattle.sessions.proofs.moves.give_message.Goals as goal

pub returns-in_default-clause-after : goal.returns-in_default-clause-after
returns-in_default-clause-after c =
    let old = c.args.running.now in
    let none = sym c.in_ok-bytes.ensures.given
    ∙ ap (λ o. option_map (λ bytes. bytes.items) o) c.in_default.is in
    still-after c.args.ticks.now old.number old.sender c.next.new.self c.args.clocks.now.sending
    c.in_ok-bytes.ensures.after none

pub returns-in_default-clause-keeps : goal.returns-in_default-clause-keeps
returns-in_default-clause-keeps c =
    let old = c.args.running.now in
    let none = sym c.in_ok-bytes.ensures.given
    ∙ ap (λ o. option_map (λ bytes. bytes.items) o) c.in_default.is in
    still-keeps old.number old.sender c.next.new.self c.args.clocks.now.sending
    c.in_ok-bytes.ensures.after none

pub returns-clause-given : goal.returns-clause-given
returns-clause-given c =
    let old = c.args.running.now in
    let due = sym c.in_ok-bytes.ensures.given
    ∙ ap (λ o. option_map (λ bytes. bytes.items) o) c.in-Some.is in
    let report =
    report-is old.number old.sender c.next.new.self c.args.clocks.now.sending
    c.phase-before.result c.phase-after.result c.sent_report.result c.phase-before.ensures
    c.phase-after.ensures c.in_ok-bytes.ensures.after c.sent_report.ensures in
    given-is c.args.port c.args.kind c.sent_report.result (shown old c.args.clocks.now.sending)
    c.in-Some.bytes.items _ due report

pub returns-clause-after : goal.returns-clause-after
returns-clause-after c =
    let old = c.args.running.now in
    let left = ap (λ clocks. clocks.sending) c.sender_moved.ensures
    ∙ left-is c.args.ticks.now old.sender c.next.new.self c.phase-before.result
    c.phase-after.result c.args.clocks.now.sending c.phase-before.ensures c.phase-after.ensures
    in
    given-after c.args.ticks.now old.number old.sender c.next.new.self c.args.clocks.now.sending
    c.sender_moved.new.self.sending c.in_ok-bytes.ensures.after left

pub returns-clause-keeps : goal.returns-clause-keeps
returns-clause-keeps c =
    let old = c.args.running.now in
    let left = ap (λ clocks. clocks.sending) c.sender_moved.ensures
    ∙ left-is c.args.ticks.now old.sender c.next.new.self c.phase-before.result
    c.phase-after.result c.args.clocks.now.sending c.phase-before.ensures c.phase-after.ensures
    in
    let goes =
    subst (λ s. GoesOn old.sender s) (sym c.in_ok-bytes.ensures.after) (sent-goes old.sender) in
    moved-keeps c.args.ticks.now old.number old.sender c.next.new.self c.args.clocks.now.sending
    c.sender_moved.new.self.sending goes left
