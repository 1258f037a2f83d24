use Rattle.std.specs.Prelude.{◌≡◌, map, drop}
use Rattle.serde_json.specs.View.{view, items_of}
use Rattle.rule_json.specs.Values.{each_of, list_of}
use Rattle.rule_json.specs.Digits.{target_of}
use Rattle.rule_json.specs.Layout.{text_in}
use Rattle.rule_json.proofs.ListLemmas.{with_front}
use Rattle.rule_json.proofs.entry.target_list.Given as goal

abbrev pub invariant-loop-value : goal.invariant-loop-value
invariant-loop-value l =
    with_front l.targets.items
    (each_of (text_in (target_of l.length))
    (items_of (map view (drop l.value-index l.value-items))))
    ≡ list_of (text_in (target_of l.length)) (view l.fn.value)
