use Rattle.std.proofs.Common.{◌≡◌, length}
use Rattle.leaf_probe.proofs.timing.run_idle.Given as goal

-- all keys are there
abbrev pub invariant-loop-key : goal.invariant-loop-key
invariant-loop-key l = length l.timers ≡ l.keys
