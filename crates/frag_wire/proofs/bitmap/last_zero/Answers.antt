use Rattle.std.proofs.Common.{arith, ◌∙◌}
use Rattle.frag_wire.proofs.BitmapLemmas.{place-step, place-stop, place-none}
use Rattle.frag_wire.proofs.bitmap.last_zero.Goals as goal

pub loop-place-preserved : goal.loop-place-preserved
loop-place-preserved c = (
  omega (arith, c.loop-place.invariant.0),
  place-step c.loop-place.place c.loop-place.left
      c.loop-place-test.true c.if-left-eq1.true ∙ c.loop-place.invariant.1,
)

pub returns-else-left-eq1-clause-place : goal.returns-else-left-eq1-clause-place
returns-else-left-eq1-clause-place c =
    place-stop c.loop-place.place c.loop-place.left c.loop-place-test.true c.if-left-eq1.false
    ∙ c.loop-place.invariant.1

pub returns-after-loop-place-clause-place : goal.returns-after-loop-place-clause-place
returns-after-loop-place-clause-place c =
    place-none c.loop-place.place c.loop-place.left c.loop-place-test.false
    ∙ c.loop-place.invariant.1
