use Rattle.aoe_sender.proofs.SessionLemmas.{all1-checks}
use Rattle.aoe_sender.proofs.laws.all1_checks.Goals as goal

pub returns : goal.returns
returns c = all1-checks
