use Rattle.std.proofs.Common.{◌≡◌, drop}
use Rattle.rule_model.specs.Presence.{value_in}
use Rattle.rule_model.proofs.presence.value_in.Given as goal

abbrev pub invariant-loop-field : goal.invariant-loop-field
invariant-loop-field l = value_in (drop l.field-index l.fields) l.name ≡ value_in l.fields l.name
