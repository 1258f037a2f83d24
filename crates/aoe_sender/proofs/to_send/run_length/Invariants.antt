use Rattle.std.proofs.Common.{◌-◌}
use Rattle.aoe_sender.proofs.MarksLemmas.{RunSoFar}
use Rattle.aoe_sender.proofs.to_send.run_length.Given as goal

-- what was found, and the run from there on
abbrev pub invariant-loop-more : goal.invariant-loop-more
invariant-loop-more l = RunSoFar l.held l.end l.most l.first l.more

abbrev pub decreases-loop-more : goal.decreases-loop-more
decreases-loop-more l = l.most - l.more
