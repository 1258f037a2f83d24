use Rattle.aa_sender.proofs.SessionLemmas.{all1_checks}
use Rattle.aa_sender.proofs.laws.all1_checks.Goals as goal

pub returns : goal.returns
returns c = all1_checks
