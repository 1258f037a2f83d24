use Rattle.editions.proofs.FollowLemmas.{found-not_next, found-too_large, found-id_twice}
use Rattle.editions.proofs.FollowLemmas.{found-lost}
use Rattle.editions.proofs.findings.finding_of.Goals as goal

pub returns-then-from-clause-finding : goal.returns-then-from-clause-finding
returns-then-from-clause-finding c =
    found-not_next _ c.args.number c.args.rules.now c.finding.result c.from.result c.from-2.result
    c.from.ensures c.from-2.ensures c.if-from.true c.finding.ensures

pub returns-then-not-is_within_limits-clause-finding : goal.returns-then-not-is_within_limits-clause-finding
returns-then-not-is_within_limits-clause-finding c =
    found-too_large _ c.args.number c.args.rules.now c.finding-then-not-is_within_limits.result
    c.from.result c.from-2.result c.is_within_limits.result c.from.ensures c.from-2.ensures
    c.if-from.false c.is_within_limits.ensures.within c.if-not-is_within_limits.true
    c.finding-then-not-is_within_limits.ensures

pub returns-in-Some-clause-finding : goal.returns-in-Some-clause-finding
returns-in-Some-clause-finding c =
    found-id_twice _ c.args.number c.args.rules.now c.finding-in-Some.result c.in-Some.id
    c.from.result c.from-2.result c.is_within_limits.result c.from.ensures c.from-2.ensures
    c.if-from.false c.is_within_limits.ensures.within c.if-not-is_within_limits.false
    c.in-Some.ensures c.finding-in-Some.ensures

pub returns-in-Some-lowest_loss-clause-finding : goal.returns-in-Some-lowest_loss-clause-finding
returns-in-Some-lowest_loss-clause-finding c =
    found-lost _ c.args.number c.args.rules.now c.finding-in-Some-lowest_loss.result
    c.in-Some-lowest_loss.lost.id c.kind.result c.from.result c.from-2.result
    c.in-Some-lowest_loss.lost.loss c.is_within_limits.result c.from.ensures c.from-2.ensures
    c.if-from.false c.is_within_limits.ensures.within c.if-not-is_within_limits.false
    c.in_default.ensures c.in-Some-lowest_loss.ensures c.kind.ensures
    c.finding-in-Some-lowest_loss.ensures
