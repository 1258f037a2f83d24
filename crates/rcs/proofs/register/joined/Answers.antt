use Rattle.std.proofs.Common.{◌+◌, ◌^◌, ◌<◌, arith, ap, sym, subst}
use Rattle.rcs.proofs.SumLemmas.{window-below, shl-small}
use Rattle.rcs.proofs.register.joined.Goals as goal

pub returns-clause-sum : goal.returns-clause-sum
returns-clause-sum c =
    ap (λ n. n + c.args.value)
    (shl-small c.args.part c.args.width c.args.count c.requires.part
    (omega (arith, c.requires.count, c.requires.width)))

pub returns-clause-below : goal.returns-clause-below
returns-clause-below c =
    subst (λ n. n + c.args.value < 2 ^ (c.args.count + c.args.width))
    (sym (shl-small c.args.part c.args.width c.args.count c.requires.part
    (omega (arith, c.requires.count, c.requires.width))))
    (window-below c.args.count c.args.part c.args.width c.args.value c.requires.part
    c.requires.fits)
