use Rattle.std.proofs.Common.{sym, subst, ◌∙◌, ◌≡◌}
use Rattle.aa_receiver.specs.State.{AaReceiverData}
use Rattle.aa_receiver.specs.Steps.{answered}
use Rattle.aa_receiver.proofs.ReceiverLemmas.{none-answered, answer-spelt, answer-room}
use Rattle.aa_receiver.proofs.receiver.AaReceiver.answer.Goals as goal

pub returns-in-None-clause-after : goal.returns-in-None-clause-after
returns-in-None-clause-after c =
    let none = sym (c.due_message.ensures c.self.inside.kept) ∙ c.in-None.is in
    sym (subst (λ (r : AaReceiverData). answered r ≡ r) c.self.view_is (none-answered _ none))

pub write-requires-clause-spelt : goal.write-requires-clause-spelt
write-requires-clause-spelt c =
    rw c.new-none.ensures
    (answer-spelt c.self.inside.params c.self.inside.kept c.self.inside.state c.in-Some.message
    c.self.invariant.0 c.self.invariant.1
    (sym (c.due_message.ensures c.self.inside.kept) ∙ c.in-Some.is))

pub invariant_of-self : goal.invariant_of-self
invariant_of-self c = (
  c.self.invariant.0,
  c.after_answer-self-inside.ensures.stands c.self.inside.kept
      c.self.invariant.1,
)

pub returns-in_ok-bytes-in-Some-clause-room : goal.returns-in_ok-bytes-in-Some-clause-room
returns-in_ok-bytes-in-Some-clause-room c =
    rw (c.in_ok-bytes-in-Some.ensures.exact, c.new-none.ensures)
    (answer-room c.self.inside.params c.self.inside.kept c.self.inside.state c.in-Some.message
    c.self.invariant.0
    (sym (c.due_message.ensures c.self.inside.kept) ∙ c.in-Some.is))
