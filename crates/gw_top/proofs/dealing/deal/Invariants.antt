use Rattle.std.proofs.Common.{drop}
use Rattle.gw_top.proofs.DealingLemmas.{IsDealtTo}
use Rattle.gw_top.proofs.dealing.deal.Given as goal

-- what is dealt out so far
abbrev pub invariant-loop-event : goal.invariant-loop-event
invariant-loop-event l = IsDealtTo l.devices l.events (drop l.event-index l.events) l.dealt
