use Rattle.frag_wire.proofs.CanSpellLemmas.{can-spell}
use Rattle.frag_wire.proofs.laws.writes_all.Goals as goal

pub returns : goal.returns
returns c = can-spell
