use Rattle.std.proofs.Common.{arith, ◌-◌, ◌%◌}
use Rattle.schc_bits.proofs.WordBits.{cut-whole, cut-within}
use Rattle.schc_bits.proofs.words.cut.Goals as goal

pub returns-then-used-gt0-clause-filled : goal.returns-then-used-gt0-clause-filled
returns-then-used-gt0-clause-filled c =
    rw (c.clear.ensures, c.truncate.ensures.items)
    (cut-within c.args.words.now.items c.args.count c.div_ceil.result (64 - c.args.count % 64)
    c.requires c.if-used-gt0.true (omega (arith, c.div_ceil.ensures)) (omega arith)).0

pub returns-then-used-gt0-clause-bits : goal.returns-then-used-gt0-clause-bits
returns-then-used-gt0-clause-bits c =
    rw (c.clear.ensures, c.truncate.ensures.items)
    (cut-within c.args.words.now.items c.args.count c.div_ceil.result (64 - c.args.count % 64)
    c.requires c.if-used-gt0.true (omega (arith, c.div_ceil.ensures)) (omega arith)).1

pub returns-else-used-gt0-clause-filled : goal.returns-else-used-gt0-clause-filled
returns-else-used-gt0-clause-filled c =
    rw c.truncate.ensures.items
    (cut-whole c.args.words.now.items c.args.count c.div_ceil.result c.requires
    (omega (arith, c.div_ceil.ensures))).0

pub returns-else-used-gt0-clause-bits : goal.returns-else-used-gt0-clause-bits
returns-else-used-gt0-clause-bits c =
    rw c.truncate.ensures.items
    (cut-whole c.args.words.now.items c.args.count c.div_ceil.result c.requires
    (omega (arith, c.div_ceil.ensures))).1
