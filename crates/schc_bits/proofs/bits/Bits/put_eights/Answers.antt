use Rattle.std.proofs.Common.{arith, ◌∙◌}
use Rattle.schc_bits.specs.Bits.{number_bits}
use Rattle.schc_bits.proofs.Octets.{AreBytes-drop}
use Rattle.schc_bits.proofs.PartBits.{front-kept}
use Rattle.schc_bits.proofs.WordBytes.{eight-more}
use Rattle.schc_bits.proofs.bits.Bits.put_eights.Goals as goal

pub loop-first-preserved : goal.loop-first-preserved
loop-first-preserved c = (
  rw c.in_ok-push_bits.ensures.ok
      (
      eight-more c.loop-first.self c.loop-first.rest.now c.in-Some.first.now c.in-Some.later.now
      c.from_be_bytes.result (omega (arith, c.in-Some.ensures.cases.2)) c.loop-first.invariant.2
      c.in-Some.ensures.cases.0 c.in-Some.ensures.cases.1 c.from_be_bytes.ensures
      ∙ c.loop-first.invariant.0
      ),
  rw c.in_ok-push_bits.ensures.ok
      (front-kept _ _ (number_bits 64 c.from_be_bytes.result) c.loop-first.invariant.1),
  rw c.in-Some.ensures.cases.1 (AreBytes-drop 8 _ c.loop-first.invariant.2),
)
