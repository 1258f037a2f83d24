-- it is so in every world that events lead to
use Rattle.two_ends.proofs.ToldRun.{run-told}
use Rattle.two_ends.proofs.laws.logs_tell.Goals as goal

pub returns : goal.returns
returns c params events fits event = run-told params events fits event
