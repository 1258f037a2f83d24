use Rattle.std.proofs.Common.{◌≡◌}
use Rattle.sessions.specs.Clocks.{all_ticked, cleared, due_in, both, count_due}
use Rattle.sessions.proofs.clocks.Clocks.tick.Given as goal

-- what is taken out, and what will be
abbrev pub invariant-loop-due : goal.invariant-loop-due
invariant-loop-due l =
    (cleared l.self ≡ cleared (all_ticked l.fn.self))
    × (both l.due (due_in l.self) ≡ due_in (all_ticked l.fn.self))

abbrev pub decreases-loop-due : goal.decreases-loop-due
decreases-loop-due l = count_due l.self
