use Rattle.std.proofs.Common.{arith, subst, ◌∙◌, ◌-◌, ◌<◌, ◌≤◌}
use Rattle.tiles_bitmap.specs.Tiles.{most_in_last}
use Rattle.tiles_bitmap.proofs.TilesLemmas.{ends-begin, ends-more, ends-last}
use Rattle.tiles_bitmap.proofs.cutting.cut.Goals as goal

pub loop-at-init : goal.loop-at-init
loop-at-init c =
    (omega arith, rw c.new-cuts.ensures (ends-begin c.args.params.now c.args.mtu c.args.bits))

pub loop-at-preserved : goal.loop-at-preserved
loop-at-preserved c =
    let more : most_in_last c.args.params.now.mode c.args.mtu < c.args.bits - c.loop-at.at =
    subst (λ n. n < c.args.bits - c.loop-at.at) c.most_in_last-most.ensures c.loop-at-test.true
    in (
      omega (arith, c.tile_size-at.ensures.leaves),
      rw (c.in_ok-push.ensures.ok, c.tile_size-at.ensures.value)
          (ends-more c.loop-at.cuts.items c.args.params.now.mode c.args.mtu c.loop-at.at c.args.bits
          c.requires.least c.loop-at.invariant.0 more ∙ c.loop-at.invariant.1),
    )

pub returns : goal.returns
returns c =
    let fits : c.args.bits - c.loop-at.at ≤ most_in_last c.args.params.now.mode c.args.mtu =
    subst (λ n. c.args.bits - c.loop-at.at ≤ n) c.most_in_last-most.ensures c.loop-at-test.false
    in
    rw c.in_ok-push-2.ensures.ok
    (ends-last c.loop-at.cuts.items c.args.params.now.mode c.args.mtu c.loop-at.at c.args.bits
    c.loop-at.invariant.0 fits ∙ c.loop-at.invariant.1)
