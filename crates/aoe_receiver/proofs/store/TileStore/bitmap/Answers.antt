use Rattle.aoe_receiver.proofs.WindowLemmas.{mark-is, count-bitmap, mark-below}
use Rattle.aoe_receiver.proofs.store.TileStore.bitmap.Goals as goal

pub returns-clause-value : goal.returns-clause-value
returns-clause-value c =
    rw (← c.self.view_is)
    (mark-is _ _ c.self.inside.marks _ _ c.args.w c.self.invariant c.from.ensures c.requires)

pub returns-clause-bits : goal.returns-clause-bits
returns-clause-bits c =
    rw (← c.self.view_is) (count-bitmap _ _ _ _ c.args.w c.self.invariant c.requires)

pub returns-clause-below : goal.returns-clause-below
returns-clause-below c =
    mark-below _ _ c.self.inside.marks _ _ c.args.w c.self.invariant c.from.ensures c.requires
