use Rattle.gw_top.proofs.RunLemmas.{safe-text}
use Rattle.gw_top.proofs.output.sim_output.Goals as goal

pub returns-clause-safe : goal.returns-clause-safe
returns-clause-safe g c =
    safe-text c.args.workers c.args.text.now c.in_ok-script.script c.in_ok-script.ensures.read
    c.in_ok-lines.ensures.safe
