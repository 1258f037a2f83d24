use Rattle.std.proofs.Common.{ap, ◌∙◌}
use Rattle.timers.specs.Timers.{tick_step}
use Rattle.timers.proofs.WheelLemmas.{index-later, left-later}
use Rattle.timers.proofs.timer_set.pass_tick.Goals as goal

pub open_places-requires : goal.open_places-requires
open_places-requires c =
    let last = c.below_last-last in
    index-later last.result last.new.deadlines last.new.due last.new.lists last.ensures.index

pub returns-clause-ticked : goal.returns-clause-ticked
returns-clause-ticked c =
    let last = c.below_last-last in
    left-later last.result last.new.deadlines ∙ ap tick_step last.ensures.same
