use Rattle.no_ack.proofs.KeptLemmas.{keeps_session}
use Rattle.no_ack.proofs.laws.keeps_session.Goals as goal

pub returns : goal.returns
returns c = keeps_session
