use Rattle.aoe_receiver.proofs.KeepingLemmas.{store-last, tiles-last, last-last}
use Rattle.aoe_receiver.proofs.store.TileStore.put_last.Goals as goal

pub invariant_of-self : goal.invariant_of-self
invariant_of-self c = store-last _ _ _ _ _ _ c.self.invariant c.requires.most c.write_at.ensures

pub returns-clause-tiles : goal.returns-clause-tiles
returns-clause-tiles c =
    rw (← c.self.view_is) (tiles-last _ _ _ _ _ _ c.self.invariant c.write_at.ensures)

pub returns-clause-last : goal.returns-clause-last
returns-clause-last c = last-last _ _ _ _ _ _ c.self.invariant c.write_at.ensures
