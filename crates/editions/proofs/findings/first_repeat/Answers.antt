use Rattle.std.proofs.Common.{◌≡◌, ◌∙◌, is_some, true, false, take, subst, sym}
use Rattle.editions.specs.Data.{lookup, NoIdTwice}
use Rattle.editions.specs.Follows.{IsFirstRepeat}
use Rattle.editions.proofs.LookupLemmas.{take-end, NoIdTwice-take, IsFirstRepeat-at}
use Rattle.editions.proofs.findings.first_repeat.Goals as goal

pub returns-then-is_listed : goal.returns-then-is_listed
returns-then-is_listed c =
    let listed : is_some
    (lookup (take c.loop-place.place c.args.rules.now) c.id_of-id.result) ≡ true =
    sym c.is_listed.ensures ∙ c.if-is_listed.true in
    subst (IsFirstRepeat c.args.rules.now) (sym c.id_of-id.ensures)
    (IsFirstRepeat-at c.args.rules.now c.loop-place.place c.index-rules-place.result
    c.loop-place-test.true c.index-rules-place.is (rw c.id_of-id.ensures at listed)
    c.loop-place.invariant)

pub loop-place-preserved : goal.loop-place-preserved
loop-place-preserved c =
    let absent : is_some
    (lookup (take c.loop-place.place c.args.rules.now) c.id_of-id.result) ≡ false =
    sym c.is_listed.ensures ∙ c.if-is_listed.false in
    NoIdTwice-take c.args.rules.now c.loop-place.place c.index-rules-place.result
    c.loop-place-test.true c.index-rules-place.is (rw c.id_of-id.ensures at absent)
    c.loop-place.invariant

pub returns : goal.returns
returns c =
    subst NoIdTwice (take-end c.args.rules.now c.loop-place.place c.loop-place-test.false)
    c.loop-place.invariant
