use Rattle.sessions.proofs.CallLemmas.{take-fragments, take-answers, take-neither}
use Rattle.sessions.proofs.NoteLemmas.{take-note}
use Rattle.sessions.proofs.PortLemmas.{sent-answers}
use Rattle.std.proofs.Common.{ap, sym, ◌∙◌, subst, true}
use Rattle.lorawan_profile.specs.Ports.{meaning_of, sending_of}
use Rattle.event_data.specs.Outcomes.{IsNote}
use Rattle.sessions.proofs.table.Sessions.take.Goals as goal

pub returns-in-Fragments-clause-step : goal.returns-in-Fragments-clause-step
returns-in-Fragments-clause-step c =
    take-fragments c.args.self.now c.take_fragment.new.self c.args.port c.in-Fragments.params
    c.args.bytes.now c.take_fragment.result c.meaning.result
    (c.meaning.ensures.exact ∙ ap (λ s. meaning_of s.role c.args.port) c.self.view_is)
    c.in-Fragments.is c.take_fragment.ensures.step

pub returns-in-Fragments-clause-note : goal.returns-in-Fragments-clause-note
returns-in-Fragments-clause-note c =
    subst (λ step. IsNote step.1.0) (returns-in-Fragments-clause-step c)
    (take-note c.args.port c.args.bytes.now c.args.self.now)

pub returns-in-Answers-clause-step : goal.returns-in-Answers-clause-step
returns-in-Answers-clause-step c =
    take-answers c.args.self.now (c.take_answer.new.self, c.take_answer.result) c.args.port
    c.in-Answers.params c.args.bytes.now c.meaning.result
    (c.meaning.ensures.exact ∙ ap (λ s. meaning_of s.role c.args.port) c.self.view_is)
    c.in-Answers.is
    (ap (λ s. sending_of s.role true) (sym c.self.view_is)
    ∙ sent-answers c.self.inside.role c.args.port c.meaning.result c.in-Answers.params
    c.in-Answers.is c.meaning.ensures.sent) c.take_answer.ensures.step

pub returns-in-Answers-clause-note : goal.returns-in-Answers-clause-note
returns-in-Answers-clause-note c =
    subst (λ step. IsNote step.1.0) (returns-in-Answers-clause-step c)
    (take-note c.args.port c.args.bytes.now c.args.self.now)

pub returns-in-Whole-clause-step : goal.returns-in-Whole-clause-step
returns-in-Whole-clause-step c =
    take-neither c.args.self.now c.args.port c.args.bytes.now c.meaning.result
    (c.meaning.ensures.exact ∙ ap (λ s. meaning_of s.role c.args.port) c.self.view_is)
    c.in-Whole.is
