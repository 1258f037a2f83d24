use Rattle.std.proofs.Common.{ap, ◌∙◌, slice_set, Some}
use Rattle.timers.proofs.WheelLemmas.{left-armed}
use Rattle.timers.proofs.timer_set.TimerSet.arm.Goals as goal

pub returns-clause-armed : goal.returns-clause-armed
returns-clause-armed c =
    left-armed c.self.inside.now c.args.key c.args.ticks c.self.inside.deadlines.items
    ∙ ap (λ timers. slice_set timers c.args.key (Some c.args.ticks)) c.self.view_is
