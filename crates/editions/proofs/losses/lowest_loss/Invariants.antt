use Rattle.std.proofs.Common.{take}
use Rattle.editions.proofs.LookupLemmas.{AreKept}
use Rattle.editions.proofs.losses.lowest_loss.Given as goal

-- the rules passed are all kept
abbrev pub invariant-loop-was : goal.invariant-loop-was
invariant-loop-was l = AreKept l.new (take l.was-index l.old)
