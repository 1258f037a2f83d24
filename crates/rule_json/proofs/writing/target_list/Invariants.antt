use Rattle.std.specs.Prelude.{◌≡◌, map, take}
use Rattle.serde_json.specs.View.{view}
use Rattle.rule_json.specs.Written.{target_data}
use Rattle.rule_json.proofs.writing.target_list.Given as goal

abbrev pub invariant-loop-target : goal.invariant-loop-target
invariant-loop-target l = map view l.values.items ≡ map target_data (take l.target-index l.targets)
