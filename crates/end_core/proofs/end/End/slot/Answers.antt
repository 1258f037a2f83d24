-- what the sessions give is given; what waits comes after it
use Rattle.std.proofs.Common.{◌≡◌, OnErr, sym, ap, subst, ◌∙◌}
use Rattle.std.proofs.lemmas.Result.{IfOk-weaker}
use Rattle.end_core.proofs.SlotLemmas.{slot-given, slot-busy, slot-free, slot-same}
use Rattle.end_core.proofs.end.End.slot.Goals as goal

pub returns-in-Some-clause-done : goal.returns-in-Some-clause-done
returns-in-Some-clause-done c =
    rw (sym c.self.view_is)
    (rw c.emitted_out.ensures
    (slot-given _ c.next.new.self c.in-Some.out
    (c.in_ok-out.ensures.step ∙ ap (λ o. (c.next.new.self, o)) c.in-Some.is)))

pub returns-then-busy-clause-done : goal.returns-then-busy-clause-done
returns-then-busy-clause-done c =
    rw (sym c.self.view_is)
    (slot-busy _ c.next.new.self
    (c.in_ok-out.ensures.step ∙ ap (λ o. (c.next.new.self, o)) c.in_default.is)
    (sym c.busy.ensures ∙ c.if-busy.true))

pub returns-clause-done : goal.returns-clause-done
returns-clause-done c =
    rw (sym c.self.view_is)
    (IfOk-weaker c.send_first.result _ _
    (λ answer e. slot-free _ c.next.new.self
    (c.in_ok-out.ensures.step ∙ ap (λ o. (c.next.new.self, o)) c.in_default.is)
    (sym c.busy.ensures ∙ c.if-busy.false) ∙ e)
    c.send_first.ensures.done)

pub returns-clause-unchanged : goal.returns-clause-unchanged
returns-clause-unchanged c =
    subst (λ this. OnErr c.send_first.result (c.send_first.new.self ≡ this))
    (slot-same _ c.next.new.self
    (c.in_ok-out.ensures.step ∙ ap (λ o. (c.next.new.self, o)) c.in_default.is)
    ∙ c.self.view_is)
    c.send_first.ensures.unchanged
