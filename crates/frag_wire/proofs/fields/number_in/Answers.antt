use Rattle.std.proofs.Common.{arith, subst, ◌≡◌, take, drop}
use Rattle.schc_bits.specs.Bits.{bits_value, octets}
use Rattle.frag_wire.proofs.FieldsLemmas.{number-more, number-below}
use Rattle.frag_wire.specs.Fields.{number_in}
use Rattle.frag_wire.proofs.fields.number_in.Goals as goal

pub loop-passed-preserved : goal.loop-passed-preserved
loop-passed-preserved c = (
  omega arith,
  number-more _ _ _ _ _ _ (omega (arith, c.requires.within))
      c.loop-passed.invariant.1 c.bit_at-bit.ensures c.from.ensures,
  number-below _ _ _ _
      c.loop-passed.invariant.2 c.from.ensures,
)

pub returns-clause-value : goal.returns-clause-value
unfolding number_in
returns-clause-value c =
    let all : c.loop-passed.passed ≡ c.args.count =
    omega (arith, c.loop-passed.invariant.0, c.loop-passed-test.false) in
    subst (λ n. c.loop-passed.number ≡ bits_value
    (take n (drop c.args.from (octets c.args.bytes.now)))) all c.loop-passed.invariant.1
