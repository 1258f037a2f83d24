use Rattle.std.proofs.Common.{arith, sym, ap, ◌∙◌, ◌<◌, length, slice_set, None}
use Rattle.timers.specs.Timers.{first_due}
use Rattle.timers.proofs.WheelLemmas.{first-some, first-none, key-inside, left-set}
use Rattle.timers.proofs.timer_set.TimerSet.due.Goals as goal

pub returns-in-Some-clause-key : goal.returns-in-Some-clause-key
returns-in-Some-clause-key c =
    let s = c.self.inside in
    let i = c.self.invariant.index in
    let key = c.in-Some.key in
    let member = key-inside s.due key c.in-Some.ensures.some in
    let inside : key < length s.deadlines.items = omega (arith, member, i.members_len) in
    sym (first-some s.now s.deadlines.items s.due s.lists key i inside c.in-Some.ensures.some
    c.in-Some.ensures.lowest) ∙ ap first_due c.self.view_is

pub returns-in-Some-clause-taken : goal.returns-in-Some-clause-taken
returns-in-Some-clause-taken c =
    left-set c.self.inside.now c.in-Some.key None c.self.inside.deadlines.items
    ∙ ap (λ timers. slice_set timers c.in-Some.key None) c.self.view_is

pub returns-in-None-clause-key : goal.returns-in-None-clause-key
returns-in-None-clause-key c =
    let s = c.self.inside in
    sym (first-none s.now s.deadlines.items s.due s.lists c.self.invariant.index
    c.in-None.ensures.none) ∙ ap first_due c.self.view_is
