use Rattle.aoe_sender.proofs.SessionLemmas.{keeps-session}
use Rattle.aoe_sender.proofs.laws.keeps_session.Goals as goal

pub returns : goal.returns
returns c = keeps-session
