use Rattle.std.proofs.Common.{arith}
use Rattle.aoe_receiver.proofs.WindowLemmas.{tile-at, tile-small}
use Rattle.aoe_receiver.proofs.store.TileStore.tile_at.Goals as goal

pub returns-clause-joins : goal.returns-clause-joins
returns-clause-joins c =
    rw (← c.self.view_is)
    (tile-at _ _ _ c.args.place _ _ c.deref.ensures.value c.from.ensures c.index.ensures
    (omega (arith, c.requires, c.self.invariant.all_places)))

pub returns-clause-most : goal.returns-clause-most
returns-clause-most c =
    tile-small _ _ c.args.place _ _ c.from.ensures c.index.ensures
    (omega (arith, c.requires, c.self.invariant.all_places)) c.self.invariant.small
