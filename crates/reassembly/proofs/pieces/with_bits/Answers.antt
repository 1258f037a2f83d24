use Rattle.std.proofs.Common.{◌+◌, ◌<◌, take, arith, ap, sym, subst, ◌∙◌}
use Rattle.schc_bits.specs.Bits.{number_bits}
use Rattle.reassembly.proofs.KeptLemmas.{with-bits, with-exact, with-fits}
use Rattle.reassembly.proofs.pieces.with_bits.Goals as goal

pub overflow_cast-result : goal.overflow_cast-result
overflow_cast-result c =
    let small : c.args.byte < 256 = omega (arith, c.ranges.byte.fits) in
    let exact =
    with-exact c.from.result c.args.byte c.args.used c.args.value c.args.width c.from.ensures
    small c.requires.within c.requires.fits in
    let fits =
    with-fits c.args.byte c.args.used c.args.value c.args.width small c.requires.within
    c.requires.fits in
    let below = subst (λ n. n < 256) (sym exact) fits in
    omega (arith, below)

pub returns : goal.returns
returns c =
    let small : c.args.byte < 256 = omega (arith, c.ranges.byte.fits) in
    ap (λ n. take (c.args.used + c.args.width) (number_bits 8 n))
    (with-exact c.from.result c.args.byte c.args.used c.args.value c.args.width c.from.ensures
    small c.requires.within c.requires.fits)
    ∙ with-bits c.args.byte c.args.used c.args.value c.args.width c.requires.within c.requires.fits
