use Rattle.std.proofs.Common.{◌≡◌, ◌+◌, ◌*◌, ◌++◌, ap, sym, take, arith}
use Rattle.schc_bits.specs.Bits.{octets}
use Rattle.tiles_bitmap.specs.Places.{joined_tiles}
use Rattle.aoe_receiver.proofs.WindowLemmas.{sums-next}
use Rattle.aoe_receiver.proofs.store.TileStore.rcs_with.Goals as goal

pub loop-place-init : goal.loop-place-init
unfolding joined_tiles
loop-place-init c = c.new-register.ensures

pub loop-place-preserved : goal.loop-place-preserved
loop-place-preserved c =
    sums-next _ _ _ _ c.tile_at-held.result.now c.add.ensures c.loop-place.invariant
    c.tile_at-held.ensures.joins

pub returns : goal.returns
returns c =
    let last : c.loop-place.place ≡ 63 * (c.args.w + 1) =
    omega (arith, c.loop-place-test.false, c.loop-place.auto.place-end, c.from.ensures) in
    let all = joined_tiles (take (63 * (c.args.w + 1)) c.args.self.now.tiles) in
    c.value.ensures (all ++ octets c.args.tile.now)
    (sums-next _ _ _ _ c.args.tile.now c.add-2.ensures c.loop-place.invariant
    (ap (λ n. joined_tiles (take n c.args.self.now.tiles) ++ octets c.args.tile.now)
    (sym last)))
