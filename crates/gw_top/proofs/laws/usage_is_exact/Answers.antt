use Rattle.gw_top.proofs.GrammarLemmas.{sentences-are-read, bad-places-are-told}
use Rattle.gw_top.proofs.laws.usage_is_exact.Goals as goal

pub returns-clause-sentences : goal.returns-clause-sentences
returns-clause-sentences c = sentences-are-read

pub returns-clause-places : goal.returns-clause-places
returns-clause-places c = bad-places-are-told
