use Rattle.aoe_receiver.proofs.ReceiverLemmas.{store-places, store-last-tile}
use Rattle.aoe_receiver.proofs.store.TileStore.stands.Goals as goal

pub returns-clause-places : goal.returns-clause-places
returns-clause-places c = rw (← c.self.view_is) (store-places _ _ _ _ c.self.invariant)

pub returns-clause-last : goal.returns-clause-last
returns-clause-last c = rw (← c.self.view_is) (store-last-tile _ _ _ _ c.self.invariant)
