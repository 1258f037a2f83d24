use Rattle.editions.proofs.KeyLemmas.{index-of}
use Rattle.editions.proofs.tables.Index.of.Goals as goal

pub returns : goal.returns
returns c =
    index-of c.args.rules.now c.in_ok-up.up c.in_ok-down.down c.in_ok-up.ensures
    c.in_ok-down.ensures
