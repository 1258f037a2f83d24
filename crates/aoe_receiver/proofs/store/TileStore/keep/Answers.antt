use Rattle.std.proofs.Common.{◌∙◌, ◌≤◌, ◌<◌, sym, ap, arith, length, take, drop}
use Rattle.aoe_receiver.proofs.MachineLemmas.{none-left, some-left}
use Rattle.aoe_receiver.proofs.WindowLemmas.{keep-turn, keep-done, fresh-done}
use Rattle.aoe_receiver.proofs.store.TileStore.keep.Goals as goal

pub loop-rest-preserved : goal.loop-rest-preserved
loop-rest-preserved c =
    let some : 1 ≤ length c.loop-rest.rest.now =
    some-left _ _ c.is_empty.ensures c.loop-rest-test.true in
    let low : c.loop-rest.at < 252 = omega (arith, c.loop-rest.invariant.2, some) in
    let back = c.split_at.ensures.back_len in
    let size = c.min.ensures in
    let turn =
    keep-turn c.loop-rest.at c.loop-rest.rest.now _ _ c.loop-rest.self.tiles _
    c.loop-rest.is_new _ some
    (c.split_at.ensures.front ∙ ap (λ n. take n c.loop-rest.rest.now) c.min.ensures)
    (c.split_at.ensures.back ∙ ap (λ n. drop n c.loop-rest.rest.now) c.min.ensures)
    c.put-is_new.ensures.all low c.put-is_new.ensures.tiles c.put-is_new.ensures.kept in (
      turn.tiles ∙ c.loop-rest.invariant.0,
      c.put-is_new.ensures.last ∙ c.loop-rest.invariant.1,
      omega (arith, c.loop-rest.invariant.2, back, size, some),
      turn.fresh ∙ c.loop-rest.invariant.3,
    )

pub returns-clause-tiles : goal.returns-clause-tiles
returns-clause-tiles c =
    sym (keep-done c.loop-rest.at c.loop-rest.rest.now c.loop-rest.self.tiles
    (none-left _ _ c.is_empty.ensures c.loop-rest-test.false)) ∙ c.loop-rest.invariant.0

pub returns-clause-kept : goal.returns-clause-kept
returns-clause-kept c =
    fresh-done c.loop-rest.at c.loop-rest.rest.now c.loop-rest.self.tiles c.loop-rest.is_new _
    (none-left _ _ c.is_empty.ensures c.loop-rest-test.false) c.loop-rest.invariant.3
