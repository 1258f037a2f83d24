use Rattle.std.specs.Prelude.{◌↔◌, IsTrue}
use Rattle.std.proofs.Common.{◌∙◌, ap, subst, sym}
use Rattle.rule_model.specs.Data.{RuleData}
use Rattle.rule_model.specs.Matches.{Matches}
use Rattle.matching.specs.Walk.{walk_holds}
use Rattle.matching.proofs.WalkLemmas.{walk-tested, walk-is}
use Rattle.matching.proofs.comparison.matches.Goals as goal

pub returns-clause-exact : goal.returns-clause-exact
returns-clause-exact c =
    subst (λ test. IsTrue test ↔ Matches c.args.rule.now c.args.iids c.args.direction
    c.args.fields.now.items c.args.computed.now)
    (sym (c.rule_matches.ensures
    ∙ ap (λ (rule : RuleData). walk_holds rule c.args.iids c.args.direction
    c.args.fields.now.items c.args.computed.now) c.rule.ensures.rule))
    (walk-tested c.args.rule.now c.args.iids c.args.direction c.args.fields.now.items
    c.args.computed.now c.rule.ensures.admitted)

pub returns-clause-tested : goal.returns-clause-tested
returns-clause-tested c =
    c.rule_matches.ensures
    ∙ ap (λ (rule : RuleData). walk_holds rule c.args.iids c.args.direction c.args.fields.now.items
    c.args.computed.now) c.rule.ensures.rule
    ∙ walk-is c.args.rule.now c.args.iids c.args.direction c.args.fields.now.items
    c.args.computed.now c.rule.ensures.admitted
