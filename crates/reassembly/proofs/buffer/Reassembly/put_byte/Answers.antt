use Rattle.std.proofs.Common.{◌≡◌, ◌-◌, length, arith, ap, sym, ◌∙◌}
use Rattle.reassembly.proofs.KeptLemmas.{length-kept, two-pieces, one-piece}
use Rattle.std.proofs.lemmas.List.{length-append}
use Rattle.schc_bits.specs.Bits.{number_bits}
use Rattle.schc_bits.proofs.NumberBits.{length-number_bits}
use Rattle.reassembly.proofs.buffer.Reassembly.put_byte.Goals as goal

pub put-requires-clause-one_byte : goal.put-requires-clause-one_byte
put-requires-clause-one_byte c =
    let size : length c.args.self.now ≡ c.self.inside.count = ap length (sym c.self.view_is)
    ∙ length-kept c.self.inside.count c.self.inside.buffer.items
    (omega (arith, c.self.invariant.0, c.self.invariant.1)) in
    omega (arith, size, c.min-width.ensures)

pub put-requires-then-rest-gt0-clause-one_byte : goal.put-requires-then-rest-gt0-clause-one_byte
put-requires-then-rest-gt0-clause-one_byte c =
    let size : length c.args.self.now ≡ c.self.inside.count = ap length (sym c.self.view_is)
    ∙ length-kept c.self.inside.count c.self.inside.buffer.items
    (omega (arith, c.self.invariant.0, c.self.invariant.1)) in
    let grown = ap length c.put.ensures
    ∙ length-append c.args.self.now (number_bits c.min-width.result c.bits_within.result) in
    omega (
      arith,
      size,
      grown,
      length-number_bits c.min-width.result c.bits_within.result,
      c.min-width.ensures,
      c.if-rest-gt0.true,
    )

pub returns-then-rest-gt0 : goal.returns-then-rest-gt0
returns-then-rest-gt0 c =
    two-pieces c.args.byte c.args.first c.min-width.result c.bits_within.result
    (8 - c.args.first - c.min-width.result) c.bits_within-then-rest-gt0.result
    c.args.self.now c.put.new.self c.put-then-rest-gt0.new.self (omega (arith, c.if-rest-gt0.true))
    c.bits_within.ensures.bits c.bits_within-then-rest-gt0.ensures.bits c.put.ensures
    c.put-then-rest-gt0.ensures

pub returns-else-rest-gt0 : goal.returns-else-rest-gt0
returns-else-rest-gt0 c =
    one-piece c.args.byte c.args.first c.min-width.result c.bits_within.result c.args.self.now
    c.put.new.self (omega (arith, c.if-rest-gt0.false)) c.bits_within.ensures.bits c.put.ensures
