use Rattle.std.proofs.Common.{◌≡◌, drop}
use Rattle.matching.specs.Walk.{found_value}
use Rattle.matching.proofs.comparison.found_value.Given as goal

abbrev pub invariant-loop-field : goal.invariant-loop-field
invariant-loop-field l = found_value (drop l.field-index l.fields) l.at ≡ found_value l.fields l.at
