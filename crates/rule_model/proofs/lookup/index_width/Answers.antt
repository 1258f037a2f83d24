use Rattle.rule_model.proofs.ResidueLemmas.{index_width-one, index_width-from_last}
use Rattle.rule_model.proofs.lookup.index_width.Goals as goal

pub returns-then-count-le1-clause-width : goal.returns-then-count-le1-clause-width
returns-then-count-le1-clause-width c = index_width-one c.args.count c.if-count-le1.true

pub returns-else-count-le1-clause-width : goal.returns-else-count-le1-clause-width
returns-else-count-le1-clause-width c =
    index_width-from_last c.args.count c.ilog2.result c.if-count-le1.false c.ilog2.ensures.power_le
    c.ilog2.ensures.next_power_gt
