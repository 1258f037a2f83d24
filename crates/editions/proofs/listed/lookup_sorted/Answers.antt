use Rattle.std.proofs.Common.{rules, ◌≡◌}
use Rattle.std.proofs.lemmas.Fn.{always_returns_same}
use Rattle.editions.proofs.BisectionLemmas.{found-listed, not-listed}
use Rattle.editions.proofs.listed.lookup_sorted.Goals as goal

-- where the search finds a place, the rule there is the one that is listed under the RuleID
pub returns-in-Ok : goal.returns-in-Ok
returns-in-Ok c =
    found-listed c.args.rules.now c.args.id c.in-Ok.place c.index-rules-place.result
    c.in-Ok.ensures.bound c.index-rules-place.is
    (c.in-Ok.ensures.position (λ listed. listed.rule.id)
    (always_returns_same _ (λ a r. r ≡ a.0.now.rule.id) _ (λ a r q k. search rules))) c.requires

-- where the search finds none, nothing is listed under the RuleID
pub returns-in-Err : goal.returns-in-Err
returns-in-Err c =
    not-listed c.args.rules.now c.args.id c.in-Err.field-0 c.requires
    (c.in-Err.ensures.position (λ listed. listed.rule.id)
    (always_returns_same _ (λ a r. r ≡ a.0.now.rule.id) _ (λ a r q k. search rules)))
