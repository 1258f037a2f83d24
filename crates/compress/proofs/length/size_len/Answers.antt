use Rattle.compress.proofs.SizeLemmas.{length-short, length-byte, length-long}
use Rattle.compress.proofs.length.size_len.Goals as goal

pub returns-then-size-lt15-clause-value : goal.returns-then-size-lt15-clause-value
returns-then-size-lt15-clause-value c = length-short c.args.size c.if-size-lt15.true

pub returns-then-size-lt255-clause-value : goal.returns-then-size-lt255-clause-value
returns-then-size-lt255-clause-value c =
    length-byte c.args.size c.if-size-lt15.false c.if-size-lt255.true

pub returns-else-size-lt255-clause-value : goal.returns-else-size-lt255-clause-value
returns-else-size-lt255-clause-value c = length-long c.args.size c.if-size-lt255.false
