use Rattle.std.proofs.Common.{ap, sym, ◌∙◌, subst, option_map, None, Some, true, false}
use Rattle.event_data.specs.declared.outcomes.EmitKind.TheVariants as kind
use Rattle.sessions.specs.Data.{in_key, seen}
use Rattle.sessions.specs.Holds.{IsReceiving}
use Rattle.sessions.specs.Steps.{answers_from, next_from, given}
use Rattle.sessions.proofs.NextLemmas.{on-err-of, answer-first, answer-second, no-answer}
use Rattle.sessions.proofs.ReceiverLemmas.{answered-keeps, answered-still}
use Rattle.sessions.proofs.table.Sessions.answer.Goals as goal

pub invariant_of-self-in-Some : goal.invariant_of-self-in-Some
invariant_of-self-in-Some c =
    let s = c.self.inside in
    let i = c.self.invariant in
    record {
      in_range = i.in_range;
      sends = i.sends;
      answers =
          subst (λ r. IsReceiving s.role true r s.clocks.answering)
          (sym c.in_ok-bytes.ensures.after)
          (answered-keeps s.role true s.answering s.clocks.answering i.answers);
      listens = i.listens;
    }

pub returns-in-Some-clause-step : goal.returns-in-Some-clause-step
returns-in-Some-clause-step c rest =
    let s = c.self.inside in
    let due = sym c.in_ok-bytes.ensures.given
    ∙ ap (λ o. option_map (λ bytes. bytes.items) o) c.in-Some.is in
    ap (λ x. next_from x (answers_from x.receivers rest)) (sym c.self.view_is)
    ∙ answer-first s.role s.params s.running s.answering s.silent s.next s.clocks
    c.in-Some.bytes.items due rest
    ∙ ap (λ r. (
      seen s.role s.params s.running r s.silent s.next s.clocks,
      Some
          (given (in_key s.role true) c.in-Some.bytes.items kind.Answers None),
    ))
    (sym c.in_ok-bytes.ensures.after)
    ∙ ap (λ o. (seen s.role s.params s.running c.answer.new.self s.silent s.next s.clocks, Some o))
    (sym c.answer_out.ensures)

pub invariant_of-self-in_err-bytes-2 : goal.invariant_of-self-in_err-bytes-2
invariant_of-self-in_err-bytes-2 c =
    let s = c.self.inside in
    let i = c.self.invariant in
    let due = sym c.in_ok-bytes.ensures.given
    ∙ ap (λ o. option_map (λ bytes. bytes.items) o) c.in_default.is in
    let same = c.in_ok-bytes.ensures.after ∙ answered-still s.answering due in
    record {
      in_range = i.in_range;
      sends = i.sends;
      answers = subst (λ r. IsReceiving s.role true r s.clocks.answering) (sym same) i.answers;
      listens =
          subst (λ r. IsReceiving s.role false r s.clocks.silent)
          (sym c.in_err-bytes-2.ensures.unchanged) i.listens;
    }

pub returns-in_err-bytes-2-clause-unchanged : goal.returns-in_err-bytes-2-clause-unchanged
returns-in_err-bytes-2-clause-unchanged c =
    let s = c.self.inside in
    let due = sym c.in_ok-bytes.ensures.given
    ∙ ap (λ o. option_map (λ bytes. bytes.items) o) c.in_default.is in
    let same = c.in_ok-bytes.ensures.after ∙ answered-still s.answering due in
    on-err-of c.from_residual-in_err-bytes-2.result
    (ap (λ r. seen s.role s.params s.running r c.answer-2.new.self s.next s.clocks) same
    ∙ ap (λ r. seen s.role s.params s.running s.answering r s.next s.clocks)
    c.in_err-bytes-2.ensures.unchanged ∙ c.self.view_is)

pub invariant_of-self-in-Some-2 : goal.invariant_of-self-in-Some-2
invariant_of-self-in-Some-2 c =
    let s = c.self.inside in
    let i = c.self.invariant in
    let due = sym c.in_ok-bytes.ensures.given
    ∙ ap (λ o. option_map (λ bytes. bytes.items) o) c.in_default.is in
    let same = c.in_ok-bytes.ensures.after ∙ answered-still s.answering due in
    record {
      in_range = i.in_range;
      sends = i.sends;
      answers = subst (λ r. IsReceiving s.role true r s.clocks.answering) (sym same) i.answers;
      listens =
          subst (λ r. IsReceiving s.role false r s.clocks.silent)
          (sym c.in_ok-bytes-2.ensures.after)
          (answered-keeps s.role false s.silent s.clocks.silent i.listens);
    }

pub returns-in-Some-2-clause-step : goal.returns-in-Some-2-clause-step
returns-in-Some-2-clause-step c rest =
    let s = c.self.inside in
    let none = sym c.in_ok-bytes.ensures.given
    ∙ ap (λ o. option_map (λ bytes. bytes.items) o) c.in_default.is in
    let same = c.in_ok-bytes.ensures.after ∙ answered-still s.answering none in
    let due = sym c.in_ok-bytes-2.ensures.given
    ∙ ap (λ o. option_map (λ bytes. bytes.items) o) c.in-Some-2.is in
    ap (λ x. next_from x (answers_from x.receivers rest)) (sym c.self.view_is)
    ∙ answer-second s.role s.params s.running s.answering s.silent s.next s.clocks
    c.in-Some-2.bytes.items none due rest
    ∙ ap (λ r. (
      seen s.role s.params s.running s.answering r s.next s.clocks,
      Some
          (given (in_key s.role false) c.in-Some-2.bytes.items kind.Answers None),
    ))
    (sym c.in_ok-bytes-2.ensures.after)
    ∙ ap (λ r. (
      seen s.role s.params s.running r c.answer-2.new.self s.next s.clocks,
      Some
          (given (in_key s.role false) c.in-Some-2.bytes.items kind.Answers None),
    )) (sym same)
    ∙ ap (λ o.
    (seen s.role s.params s.running c.answer.new.self c.answer-2.new.self s.next s.clocks, Some o))
    (sym c.answer_out-in-Some-2.ensures)

pub invariant_of-self-2 : goal.invariant_of-self-2
invariant_of-self-2 c =
    let s = c.self.inside in
    let i = c.self.invariant in
    let due = sym c.in_ok-bytes.ensures.given
    ∙ ap (λ o. option_map (λ bytes. bytes.items) o) c.in_default.is in
    let same = c.in_ok-bytes.ensures.after ∙ answered-still s.answering due in
    let due-2 = sym c.in_ok-bytes-2.ensures.given
    ∙ ap (λ o. option_map (λ bytes. bytes.items) o) c.in_default-2.is in
    let same-2 = c.in_ok-bytes-2.ensures.after ∙ answered-still s.silent due-2 in
    record {
      in_range = i.in_range;
      sends = i.sends;
      answers = subst (λ r. IsReceiving s.role true r s.clocks.answering) (sym same) i.answers;
      listens = subst (λ r. IsReceiving s.role false r s.clocks.silent) (sym same-2) i.listens;
    }

pub returns-clause-none : goal.returns-clause-none
returns-clause-none c rest =
    let s = c.self.inside in
    let due = sym c.in_ok-bytes.ensures.given
    ∙ ap (λ o. option_map (λ bytes. bytes.items) o) c.in_default.is in
    let due-2 = sym c.in_ok-bytes-2.ensures.given
    ∙ ap (λ o. option_map (λ bytes. bytes.items) o) c.in_default-2.is in
    ap (λ x. answers_from x.receivers rest) (sym c.self.view_is)
    ∙ no-answer s.role s.params s.running s.answering s.silent s.next s.clocks due due-2 rest

pub returns-clause-same : goal.returns-clause-same
returns-clause-same c =
    let s = c.self.inside in
    let due = sym c.in_ok-bytes.ensures.given
    ∙ ap (λ o. option_map (λ bytes. bytes.items) o) c.in_default.is in
    let same = c.in_ok-bytes.ensures.after ∙ answered-still s.answering due in
    let due-2 = sym c.in_ok-bytes-2.ensures.given
    ∙ ap (λ o. option_map (λ bytes. bytes.items) o) c.in_default-2.is in
    let same-2 = c.in_ok-bytes-2.ensures.after ∙ answered-still s.silent due-2 in
    ap (λ r. seen s.role s.params s.running r c.answer-2.new.self s.next s.clocks) same
    ∙ ap (λ r. seen s.role s.params s.running s.answering r s.next s.clocks) same-2
    ∙ c.self.view_is
