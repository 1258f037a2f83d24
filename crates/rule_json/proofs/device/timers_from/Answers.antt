use Rattle.std.proofs.Common.{sym, arith}
use Rattle.rule_json.proofs.DevicesLemmas.{timers-few, timers-many}
use Rattle.rule_json.proofs.device.timers_from.Goals as goal

pub returns-in_default : goal.returns-in_default
returns-in_default c = sym (timers-few c.args.values.now (omega (arith, c.in_default.len_below)))

pub returns-in_default-2 : goal.returns-in_default-2
returns-in_default-2 c =
    sym (timers-many c.args.values.now (omega (arith, c.in_default.len_at_least)))
