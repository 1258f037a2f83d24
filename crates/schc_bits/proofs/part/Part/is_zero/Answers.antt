use Rattle.std.proofs.Common.{◌∙◌, sym}
use Rattle.std.proofs.lemmas.Bool.{false≢true}
use Rattle.schc_bits.proofs.PartBits.{zero-more, nonzero-more}
use Rattle.schc_bits.proofs.part.Part.is_zero.Goals as goal

pub returns-then-read_at-ne0 : goal.returns-then-read_at-ne0
returns-then-read_at-ne0 c = (
  λ t. absurd (false≢true t),
  λ e. absurd
      (nonzero-more _ _ _ c.step_at-step.ensures.within
      (λ none. c.if-read_at-ne0.true (c.read_at.ensures.value ∙ none)) e),
)

pub loop-at-preserved : goal.loop-at-preserved
loop-at-preserved c = (
  zero-more _ _ _ c.step_at-step.ensures.within c.loop-at.invariant.0
      (sym c.read_at.ensures.value ∙ c.if-read_at-ne0.false),
  c.step_at-step.ensures.within,
)
