use Rattle.timers.proofs.DueLemmas.{due_at_its_tick}
use Rattle.timers.proofs.laws.due_at_its_tick.Goals as goal

pub returns : goal.returns
returns c = due_at_its_tick
