use Rattle.std.proofs.Common.{ap, subst, ◌∙◌, ◌<◌, ◌^◌}
use Rattle.rayon.proofs.Reducing.{Reduces-elim}
use Rattle.load_totals.proofs.SumLemmas.{IsWrapped, totals-gathered}
use Rattle.load_totals.proofs.SumLemmas.{wrapped-none, wrapped-more, wrapped-joined}
use Rattle.load_totals.proofs.totals.totals_of.Goals as goal

-- the sums over the totals of the lines, however they are cut into pieces
pub returns : goal.returns
returns g c =
    let slice = ap (λ it. it.slice.now) c.map.ensures.base ∙ c.par_iter.ensures in
    let done = c.reduce.ensures in
    let sums = Reduces-elim _ _ IsWrapped wrapped-none wrapped-more wrapped-joined
    done.0 c.reduce.result done.2 in
    let counted = c.count-count.ensures in
    let short = subst (λ n. n < 2 ^ 63) counted.count counted.few in
    totals-gathered done.1.0 c.args.lines.now done.0 c.reduce.result
    (done.1.1 ∙ slice) done.1.2 short sums
