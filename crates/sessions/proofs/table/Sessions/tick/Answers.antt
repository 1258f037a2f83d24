use Rattle.std.proofs.Common.{ap, sym, ◌∙◌, subst, None, true, false}
use Rattle.sessions.specs.Clocks.{all_ticked, cleared}
use Rattle.sessions.specs.Data.{out_key}
use Rattle.sessions.specs.Holds.{IsReceiving}
use Rattle.sessions.specs.Steps.{tick_step}
use Rattle.sessions.proofs.ReceiverLemmas.{ticked-keeps}
use Rattle.sessions.proofs.TickLemmas.{due-ticks, not-ticks, not-keeps, due-gone, tick-is}
use Rattle.sessions.proofs.table.Sessions.tick.Goals as goal

pub fire_session-requires-clause-taken : goal.fire_session-requires-clause-taken
fire_session-requires-clause-taken c =
    let s = c.self.inside in
    due-gone s.clocks.sending c.tick-due.new.self.sending
    (sym (ap (λ due. due.sending) c.tick-due.ensures.due) ∙ c.if-due.true)
    (ap (λ clocks. clocks.sending) c.tick-due.ensures.after)

pub invariant_of-self : goal.invariant_of-self
invariant_of-self c =
    let s = c.self.inside in
    let i = c.self.invariant in
    let fired = c.fire_session in
    record {
      in_range = i.in_range;
      sends = fired.ensures.keeps s.role s.params s.clocks.sending i.sends;
      answers =
          ticked-keeps s.role true s.answering c.fire_if.new.receiver s.clocks.answering
          fired.new.clocks.answering c.tick-due.result.answering c.fire_if.ensures
          (ap (λ due. due.answering) c.tick-due.ensures.due)
          (ap (λ clocks. clocks.answering) fired.ensures.others
          ∙ ap (λ clocks. clocks.answering) c.tick-due.ensures.after) i.answers;
      listens =
          ticked-keeps s.role false s.silent c.fire_if-2.new.receiver s.clocks.silent
          fired.new.clocks.silent c.tick-due.result.silent c.fire_if-2.ensures
          (ap (λ due. due.silent) c.tick-due.ensures.due)
          (ap (λ clocks. clocks.silent) fired.ensures.others
          ∙ ap (λ clocks. clocks.silent) c.tick-due.ensures.after) i.listens;
    }

pub invariant_of-self-else-due : goal.invariant_of-self-else-due
invariant_of-self-else-due c =
    let s = c.self.inside in
    let i = c.self.invariant in
    record {
      in_range = i.in_range;
      sends = not-keeps s.role s.params s.running s.clocks.sending c.tick-due.new.self.sending
          (sym (ap (λ due. due.sending) c.tick-due.ensures.due) ∙ c.if-due.false)
          (ap (λ clocks. clocks.sending) c.tick-due.ensures.after) i.sends;
      answers =
          ticked-keeps s.role true s.answering c.fire_if.new.receiver s.clocks.answering
          c.tick-due.new.self.answering c.tick-due.result.answering c.fire_if.ensures
          (ap (λ due. due.answering) c.tick-due.ensures.due)
          (ap (λ clocks. clocks.answering) c.tick-due.ensures.after) i.answers;
      listens =
          ticked-keeps s.role false s.silent c.fire_if-2.new.receiver s.clocks.silent
          c.tick-due.new.self.silent c.tick-due.result.silent c.fire_if-2.ensures
          (ap (λ due. due.silent) c.tick-due.ensures.due)
          (ap (λ clocks. clocks.silent) c.tick-due.ensures.after) i.listens;
    }

pub returns-then-due-clause-step : goal.returns-then-due-clause-step
returns-then-due-clause-step c =
    let s = c.self.inside in
    let fired = c.fire_session in
    let ticks =
    due-ticks s.params.ticks (out_key s.role s.params.acked) s.running fired.new.running
    s.clocks.sending fired.new.clocks.sending fired.result
    (sym (ap (λ due. due.sending) c.tick-due.ensures.due) ∙ c.if-due.true) fired.ensures.exact
    in
    ap tick_step (sym c.self.view_is)
    ∙ tick-is s.role s.params s.running fired.new.running s.answering c.fire_if.new.receiver
    s.silent c.fire_if-2.new.receiver s.next s.clocks fired.new.clocks
    c.tick-due.result.answering c.tick-due.result.silent fired.result ticks c.fire_if.ensures
    (ap (λ due. due.answering) c.tick-due.ensures.due)
    (ap (λ clocks. clocks.answering) fired.ensures.others
    ∙ ap (λ clocks. clocks.answering) c.tick-due.ensures.after) c.fire_if-2.ensures
    (ap (λ due. due.silent) c.tick-due.ensures.due)
    (ap (λ clocks. clocks.silent) fired.ensures.others
    ∙ ap (λ clocks. clocks.silent) c.tick-due.ensures.after)

pub returns-else-due-clause-step : goal.returns-else-due-clause-step
returns-else-due-clause-step c =
    let s = c.self.inside in
    let ticks =
    not-ticks s.params.ticks (out_key s.role s.params.acked) s.running s.clocks.sending
    c.tick-due.new.self.sending
    (sym (ap (λ due. due.sending) c.tick-due.ensures.due) ∙ c.if-due.false)
    (ap (λ clocks. clocks.sending) c.tick-due.ensures.after) in
    ap tick_step (sym c.self.view_is)
    ∙ tick-is s.role s.params s.running s.running s.answering c.fire_if.new.receiver s.silent
    c.fire_if-2.new.receiver s.next s.clocks c.tick-due.new.self c.tick-due.result.answering
    c.tick-due.result.silent None ticks c.fire_if.ensures
    (ap (λ due. due.answering) c.tick-due.ensures.due)
    (ap (λ clocks. clocks.answering) c.tick-due.ensures.after) c.fire_if-2.ensures
    (ap (λ due. due.silent) c.tick-due.ensures.due)
    (ap (λ clocks. clocks.silent) c.tick-due.ensures.after)
