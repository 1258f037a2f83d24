use Rattle.std.proofs.Common.{ap, sym, ◌∙◌, subst, ◌≡◌}
use Rattle.std.proofs.lemmas.Result.{IfOk-weaker}
use Rattle.sessions.specs.Steps.{next_from, message_choice}
use Rattle.sessions.proofs.NextLemmas.{some-of, none-of, next-answer, next_message}
use Rattle.sessions.proofs.table.Sessions.next.Goals as goal

-- where an answer is given, it is what comes next, and the end is as it is after giving it
pub returns-in-Some-clause-step : goal.returns-in-Some-clause-step
returns-in-Some-clause-step c =
    next-answer c.args.self.now c.answer.new.self c.in-Some.out
    (some-of c.in_ok-out.field-0 _ _ c.in-Some.is c.in_ok-out.ensures.step)

pub returns-in-None-clause-step : goal.returns-in-None-clause-step
returns-in-None-clause-step c =
    let none = none-of c.in_ok-out.field-0 _ c.in-None.is c.in_ok-out.ensures.none in
    let same = none-of c.in_ok-out.field-0 _ c.in-None.is c.in_ok-out.ensures.same in
    IfOk-weaker c.send.result _ _
    (λ out h. next_message c.args.self.now (c.send.new.self, out) none
    (ap (λ s. next_from s (message_choice s.senders)) (sym same) ∙ h)) c.send.ensures.step
