use Rattle.tiles_bitmap.specs.Places.{held_bits}
use Rattle.aoe_receiver.proofs.MarksLemmas.{whole-then, whole-else}
use Rattle.aoe_receiver.proofs.store.TileStore.is_whole.Goals as goal

pub returns-then-open_window-w : goal.returns-then-open_window-w
returns-then-open_window-w c =
    whole-then c.args.w (held_bits c.args.self.now.tiles) _ _ c.open_window.ensures.window
    c.if-open_window-w.true c.is_gapless.ensures

pub returns-else-open_window-w : goal.returns-else-open_window-w
returns-else-open_window-w c =
    whole-else c.args.w (held_bits c.args.self.now.tiles) _ c.open_window.ensures.window
    c.if-open_window-w.false
