use Rattle.aoe_receiver.proofs.KeepingLemmas.{sized-test}
use Rattle.aoe_receiver.proofs.store.is_held.Goals as goal

pub returns : goal.returns
returns c = sized-test c.args.size
