use Rattle.std.proofs.Common.{◌∙◌, sym, arith}
use Rattle.tiles_bitmap.specs.Places.{held_bits}
use Rattle.aoe_receiver.proofs.MarksLemmas.{open-next, open-here, open-end}
use Rattle.aoe_receiver.proofs.store.TileStore.open_window.Goals as goal

pub returns-then-not-is_full-clause-window : goal.returns-then-not-is_full-clause-window
returns-then-not-is_full-clause-window c =
    sym (open-here c.loop-w.w c.args.last (held_bits c.args.self.now.tiles) c.loop-w-test.true
    (sym c.is_full.ensures ∙ c.if-not-is_full.true)) ∙ c.loop-w.invariant

pub loop-w-preserved : goal.loop-w-preserved
loop-w-preserved c =
    sym (open-next c.loop-w.w c.args.last (held_bits c.args.self.now.tiles) c.loop-w-test.true
    (sym c.is_full.ensures ∙ c.if-not-is_full.false)) ∙ c.loop-w.invariant

pub returns-clause-window : goal.returns-clause-window
returns-clause-window c =
    open-end c.loop-w.w c.args.last _ _ (omega (arith, c.loop-w-test.false))
    (omega (arith, c.loop-w.auto.w-end)) c.loop-w.invariant
