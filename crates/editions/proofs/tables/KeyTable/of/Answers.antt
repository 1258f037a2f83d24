use Rattle.std.specs.Ordering.{nat_cmp}
use Rattle.std.specs.BTreeMap.{get}
use Rattle.editions.proofs.KeyLemmas.{table-ids}
use Rattle.editions.proofs.tables.KeyTable.of.Goals as goal

pub returns : goal.returns
returns c = λ key.
    table-ids (λ ids. ids.items) (get nat_cmp c.in_ok-rows.rows key) c.in_ok-others.others.items key
    c.args.these.now (c.in_ok-rows.ensures.ids key) (c.in_ok-rows.ensures.keys key)
    c.in_ok-others.ensures
