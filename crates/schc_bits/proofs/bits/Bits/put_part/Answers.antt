use Rattle.schc_bits.proofs.PartBits.{put-more}
use Rattle.schc_bits.proofs.bits.Bits.put_part.Goals as goal

pub loop-at-preserved : goal.loop-at-preserved
loop-at-preserved c = (
  rw c.in_ok-push_bits.ensures.ok
      (put-more _ _ _ _ _ _ c.step_at-step.ensures.within c.loop-at.invariant.0
      c.read_at.ensures.value),
  c.step_at-step.ensures.within,
)
