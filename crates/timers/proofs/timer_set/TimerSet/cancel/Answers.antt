use Rattle.std.proofs.Common.{ap, ◌∙◌, slice_set, None}
use Rattle.timers.proofs.WheelLemmas.{left-set}
use Rattle.timers.proofs.timer_set.TimerSet.cancel.Goals as goal

pub returns-then-key-len-clause-cancelled : goal.returns-then-key-len-clause-cancelled
returns-then-key-len-clause-cancelled c =
    left-set c.self.inside.now c.args.key None c.self.inside.deadlines.items
    ∙ ap (λ timers. slice_set timers c.args.key None) c.self.view_is
