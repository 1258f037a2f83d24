use Rattle.std.proofs.Common.{◌∙◌, sym, arith}
use Rattle.std.proofs.lemmas.Bool.{false≢true}
use Rattle.schc_bits.proofs.PartBits.{same-more, differ-more}
use Rattle.schc_bits.proofs.part.Part.begins_with.Goals as goal

pub returns-then-read_at : goal.returns-then-read_at
returns-then-read_at c = (
  λ t. absurd (false≢true t),
  λ e.
      absurd
      (
      differ-more _ _ _ _ c.step_at-step.ensures.within
      (λ same. c.if-read_at.true
      (c.read_at.ensures.value ∙ same ∙ sym c.read_at-in-loop-at.ensures.value))
      e
      ),
)

pub loop-at-preserved : goal.loop-at-preserved
loop-at-preserved c = (
  same-more _ _ _ _ (omega (arith, c.if-len.false, c.len.ensures, c.len-2.ensures))
      c.step_at-step.ensures.within c.loop-at.invariant.0
      (sym c.read_at.ensures.value ∙ c.if-read_at.false ∙ c.read_at-in-loop-at.ensures.value),
  c.step_at-step.ensures.within,
)
