use Rattle.end_core.proofs.ExactLemmas.{hands-up-exactly}
use Rattle.end_core.proofs.laws.hands_up_exactly.Goals as goal

pub returns : goal.returns
returns c = hands-up-exactly
