use Rattle.std.proofs.Common.{ap, sym, ◌∙◌, option_map}
use Rattle.sessions.specs.Clocks.{clocks_of, clock_at, first_clock, without_clock}
use Rattle.timers.specs.Timers.{without}
use Rattle.sessions.proofs.ClocksLemmas.{due-clock, taken-clock}
use Rattle.sessions.proofs.clocks.Clocks.due.Goals as goal

pub returns-clause-first : goal.returns-clause-first
returns-clause-first c =
    c.clock_of.ensures ∙ ap (λ key. option_map clock_at key) c.due.ensures.key
    ∙ due-clock c.self.inside.timers c.self.invariant ∙ ap first_clock c.self.view_is

pub returns-clause-taken : goal.returns-clause-taken
returns-clause-taken c =
    let timers = c.self.inside.timers in
    let first = c.clock_of.ensures ∙ ap (λ key. option_map clock_at key) c.due.ensures.key
    ∙ due-clock timers c.self.invariant in
    ap clocks_of (c.due.ensures.taken ∙ ap (λ key. without timers key) c.due.ensures.key)
    ∙ taken-clock timers c.self.invariant
    ∙ ap (λ clock. without_clock clock (clocks_of timers)) (sym first)
    ∙ ap (λ clocks. without_clock c.clock_of.result clocks) c.self.view_is
