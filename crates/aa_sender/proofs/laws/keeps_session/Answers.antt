use Rattle.aa_sender.proofs.SessionLemmas.{keeps_session}
use Rattle.aa_sender.proofs.laws.keeps_session.Goals as goal

pub returns : goal.returns
returns c = keeps_session
