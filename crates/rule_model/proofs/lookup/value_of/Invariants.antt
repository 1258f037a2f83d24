use Rattle.std.proofs.Common.{◌≡◌, drop}
use Rattle.rule_model.specs.Residue.{value_of}
use Rattle.rule_model.proofs.lookup.value_of.Given as goal

abbrev pub invariant-loop-field : goal.invariant-loop-field
invariant-loop-field l =
    value_of (drop l.field-index l.fields.items) l.at ≡ value_of l.fn.fields.items l.at
