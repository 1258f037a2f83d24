use Rattle.std.proofs.Common.{subst}
use Rattle.editions.proofs.LookupLemmas.{take-end, AreKept, IsLowestLoss-at, KeepsId-from_kept}
use Rattle.editions.proofs.losses.lowest_loss.Goals as goal

pub returns-in-Some : goal.returns-in-Some
returns-in-Some c =
    IsLowestLoss-at c.args.new.now c.args.old.now c.loop-was.was-index c.id_of-id.result
    c.was-item.result _ c.in-Some.loss c.loop-was-test.true c.was-item.is c.id_of-id.ensures
    c.lookup.ensures c.in-Some.ensures c.requires c.loop-was.invariant

pub returns : goal.returns
returns c =
    KeepsId-from_kept c.args.new.now c.args.old.now
    (subst (AreKept c.args.new.now)
    (take-end c.args.old.now c.loop-was.was-index c.loop-was-test.false) c.loop-was.invariant)
