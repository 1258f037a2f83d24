use Rattle.std.proofs.Common.{arith}
use Rattle.schc_bits.proofs.WordBytes.{word-more}
use Rattle.schc_bits.proofs.part.Part.put_words.Goals as goal

pub loop-at-preserved : goal.loop-at-preserved
loop-at-preserved c = (
  rw (c.in_ok-extend_from.ensures.ok, c.to_be_bytes.ensures)
      (word-more _ _ c.args.self.now c.loop-at.at c.read_at.result
      (omega (arith, c.loop-at-test.true, c.len.ensures, c.loop-at.invariant.1))
      c.read_at.ensures.value c.loop-at.invariant.0),
  omega (arith, c.loop-at-test.true, c.len.ensures, c.loop-at.invariant.1),
)
