use Rattle.std.proofs.Common.{◌∙◌, ap, subst, sym, ◌<◌}
use Rattle.rule_model.specs.Data.{RuleData}
use Rattle.packer.proofs.writing.SchcPacketLemmas.{id-small}
use Rattle.packer.proofs.packing.id_of.Goals as goal

pub returns-clause-small : goal.returns-clause-small
returns-clause-small c =
    subst (λ id. id < 256)
    (ap (λ (rule : RuleData). rule.id) (sym (c.behind-rule.view_is ∙ c.rule.ensures.rule)))
    (id-small c.args.rule.now c.rule.ensures.admitted)
