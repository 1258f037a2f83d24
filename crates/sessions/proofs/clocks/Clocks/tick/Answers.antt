use Rattle.std.proofs.Common.{ap, sym, subst, ◌∙◌, ◌<◌}
use Rattle.sessions.specs.Clocks.{cleared, due_in, both, count_due, with_clock}
use Rattle.sessions.proofs.ClocksLemmas.{leads-some, ends-none}
use Rattle.sessions.proofs.clocks.Clocks.tick.Goals as goal

pub loop-due-smaller : goal.loop-due-smaller
loop-due-smaller c =
    let led = leads-some c.loop-due.self c.loop-due.due c.in-Some.clock c.in-Some.ensures.first in
    subst (λ s. count_due s < count_due c.loop-due.self) (sym c.in-Some.ensures.taken) led.fewer

pub loop-due-preserved : goal.loop-due-preserved
loop-due-preserved c =
    let led = leads-some c.loop-due.self c.loop-due.due c.in-Some.clock c.in-Some.ensures.first in (
      ap cleared c.in-Some.ensures.taken ∙ led.after ∙ c.loop-due.invariant.0,
      ap (λ due. both due (due_in c.due.new.self)) c.with-due.ensures
          ∙ ap (λ s. both (with_clock c.loop-due.due c.in-Some.clock) (due_in s))
          c.in-Some.ensures.taken ∙ led.taken ∙ c.loop-due.invariant.1,
    )

pub returns-clause-due : goal.returns-clause-due
returns-clause-due c =
    let ended = ends-none c.loop-due.self c.loop-due.due c.in_default.ensures.first in
    sym ended.none ∙ c.loop-due.invariant.1

pub returns-clause-after : goal.returns-clause-after
returns-clause-after c =
    let ended = ends-none c.loop-due.self c.loop-due.due c.in_default.ensures.first in
    c.in_default.ensures.taken ∙ sym ended.after ∙ c.loop-due.invariant.0
