use Rattle.std.proofs.Common.{arith}
use Rattle.aoe_sender.proofs.MarksLemmas.{get_or-windows}
use Rattle.aoe_sender.proofs.to_send.is_held.Goals as goal

pub returns : goal.returns
returns c =
    get_or-windows c.args.held.now c.args.k
    (let told = c.told-held in let low = c.requires in omega arith)
