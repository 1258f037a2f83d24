use Rattle.std.proofs.Common.{nat_eq}
use Rattle.indexmap.specs.IndexMap.{get}
use Rattle.gw_top.proofs.RunLemmas.{left-first}
use Rattle.gw_top.proofs.sim.outcomes.Goals as goal

-- before the first event all outcomes are left
pub merged-requires-clause-left : goal.merged-requires-clause-left
merged-requires-clause-left g c =
    left-first c.args.devices.now c.args.events.now c.in_ok-published.published
    (get nat_eq c.in_ok-left.left) c.in_ok-shares.shares.items
    c.requires.numbers c.in_ok-published.ensures c.in_ok-shares.ensures c.in_ok-left.ensures
