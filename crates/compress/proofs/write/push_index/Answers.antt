use Rattle.compress.proofs.TurnsLemmas.{index-fits}
use Rattle.compress.proofs.write.push_index.Goals as goal

pub push_bits-requires-clause-fits : goal.push_bits-requires-clause-fits
push_bits-requires-clause-fits c =
    index-fits c.args.targets.now c.args.value.now c.index_of.result c.index_width.result
    c.index_of.ensures c.index_width.ensures.width
