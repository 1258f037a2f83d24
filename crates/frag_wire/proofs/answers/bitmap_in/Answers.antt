use Rattle.std.proofs.Common.{arith, rules}
use Rattle.frag_wire.proofs.BitmapLemmas.{filled-fits, bitmap_in-value}
use Rattle.frag_wire.proofs.answers.bitmap_in.Goals as goal

pub overflow_sub-result : goal.overflow_sub-result
overflow_sub-result c =
    omega (
      arith,
      (filled-fits c.number_in-number.result c.min-there.result c.args.size
          c.number_in-number.ensures.below (search rules) c.requires.size).0,
      (filled-fits c.number_in-number.result c.min-there.result c.args.size
          c.number_in-number.ensures.below (search rules) c.requires.size).1,
    )

pub returns : goal.returns
returns c =
    bitmap_in-value c.args.bytes.now c.args.from c.args.size c.min-there.result
    c.number_in-number.result (search rules) c.requires.size (search rules)
    c.number_in-number.ensures.value c.number_in-number.ensures.below
