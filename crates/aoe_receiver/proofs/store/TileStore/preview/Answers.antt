use Rattle.aoe_receiver.proofs.MachineLemmas.{preview-then, preview-full, preview-else}
use Rattle.aoe_receiver.proofs.PreviewLemmas.{joined-room}
use Rattle.aoe_receiver.proofs.store.TileStore.preview.Goals as goal

pub returns-in_ok-joined-clause-bits : goal.returns-in_ok-joined-clause-bits
returns-in_ok-joined-clause-bits c =
    preview-then c.args.self.now.tiles c.args.w c.args.rcs _ _ _ c.passes.ensures c.if-passes.true
    c.in_ok-joined.ensures

pub returns-in_err-joined-clause-memory : goal.returns-in_err-joined-clause-memory
returns-in_err-joined-clause-memory c =
    preview-full _ c.args.self.now.tiles c.args.w c.args.rcs _ _ c.passes.ensures c.if-passes.true

pub returns-else-passes-clause-bits : goal.returns-else-passes-clause-bits
returns-else-passes-clause-bits c =
    preview-else c.args.self.now.tiles c.args.w c.args.rcs _ _ c.passes.ensures c.if-passes.false

pub returns-in_ok-joined-clause-room : goal.returns-in_ok-joined-clause-room
returns-in_ok-joined-clause-room c =
    joined-room c.args.self.now.tiles c.args.w c.args.tile.now _ c.stands.ensures.places
    c.requires.most c.in_ok-joined.ensures
