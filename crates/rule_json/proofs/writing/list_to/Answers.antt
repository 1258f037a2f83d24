use Rattle.rule_json.proofs.WrittenLemmas.{list-again}
use Rattle.rule_json.proofs.writing.list_to.Goals as goal

pub returns-clause-back : goal.returns-clause-back
returns-clause-back g c =
    list-again g.T.FromJson.layout g.T.ToJson.written c.args.items.now c.loop-item.item-index
    c.loop-item-test.false c.loop-item.invariant.1
