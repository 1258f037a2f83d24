use Rattle.std.proofs.Common.{ap, ◌∙◌, map}
use Rattle.timers.specs.Wheel.{left}
use Rattle.timers.proofs.WheelLemmas.{left-none}
use Rattle.timers.proofs.timer_set.TimerSet.new.Goals as goal

pub returns : goal.returns
returns c = ap (λ ds. map (left _) ds) c.in_ok-deadlines.ensures ∙ left-none _ c.args.keys
