use Rattle.std.specs.Prelude.{◌≡◌, map, drop}
use Rattle.serde_json.specs.View.{view, items_of}
use Rattle.rule_json.specs.Values.{each_of, list_of}
use Rattle.rule_json.proofs.ListLemmas.{with_front}
use Rattle.rule_json.proofs.values.list_from.Given as goal

abbrev pub invariant-loop-value : goal.invariant-loop-value
invariant-loop-value g l =
    with_front l.list.items
    (each_of g.T.FromJson.layout
    (items_of (map view (drop l.value-index l.value-items)))) ≡ list_of g.T.FromJson.layout
    (view l.fn.value)
