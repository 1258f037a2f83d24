use Rattle.std.specs.Prelude.{◌≡◌, Some, map, take, drop}
use Rattle.std.specs.List.{AllByRecursion}
use Rattle.serde_json.specs.View.{view}
use Rattle.rule_json.proofs.writing.list_to.Given as goal

abbrev pub invariant-loop-item : goal.invariant-loop-item
invariant-loop-item g l =
    (map view l.values.items ≡ map g.T.ToJson.written (take l.item-index l.items))
    × AllByRecursion (λ x. g.T.FromJson.layout (g.T.ToJson.written x) ≡ Some x)
    (take l.item-index l.items)
    × AllByRecursion g.T.ToJson.spelt (drop l.item-index l.items)
