use Rattle.aoe_receiver.proofs.MachineLemmas.{passes-then, passes-else}
use Rattle.aoe_receiver.proofs.store.TileStore.passes.Goals as goal

pub returns-then-is_whole : goal.returns-then-is_whole
returns-then-is_whole c =
    passes-then c.args.self.now.tiles c.args.w c.args.rcs _ _ _ c.is_whole.ensures
    c.if-is_whole.true c.rcs_with.ensures

pub returns-else-is_whole : goal.returns-else-is_whole
returns-else-is_whole c =
    passes-else c.args.self.now.tiles c.args.w c.args.rcs _ _ c.is_whole.ensures c.if-is_whole.false
