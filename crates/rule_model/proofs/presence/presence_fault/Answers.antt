use Rattle.std.proofs.Common.{sym, ◌∙◌}
use Rattle.schc_ids.specs.declared.names.FieldName.TheVariants.{IpVersion}
use Rattle.rule_model.proofs.PresenceLemmas.{presence-found, presence-passed}
use Rattle.rule_model.proofs.presence.presence_fault.Goals as goal

pub returns-in-Some : goal.returns-in-Some
returns-in-Some c =
    sym (presence-found c.args.fields.now c.args.names.now c.loop-name.name-index IpVersion
    c.in-Some.fault c.loop-name-test.true (sym c.in-Some.ensures))
    ∙ c.loop-name.invariant

pub loop-name-preserved : goal.loop-name-preserved
loop-name-preserved c =
    presence-passed c.args.fields.now c.args.names.now c.loop-name.name-index IpVersion
    c.loop-name-test.true (sym c.field_fault.ensures ∙ c.in-None.is)
    ∙ c.loop-name.invariant
