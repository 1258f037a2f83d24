use Rattle.std.proofs.Common.{◌≡◌, ◌-◌}
use Rattle.aoe_sender.specs.Marks.{numbers_of}
use Rattle.aoe_sender.proofs.to_send.next_missing.Given as goal

-- no number was passed
abbrev pub invariant-loop-k : goal.invariant-loop-k
invariant-loop-k l = numbers_of l.held l.k l.end ≡ numbers_of l.held l.at l.end

abbrev pub decreases-loop-k : goal.decreases-loop-k
decreases-loop-k l = l.end - l.k
