use Rattle.std.proofs.Common.{arith}
use Rattle.aoe_sender.proofs.MarksLemmas.{fulls, numbers_of-none}
use Rattle.aoe_sender.proofs.to_send.ToSend.none.Goals as goal

pub returns : goal.returns
returns c = numbers_of-none fulls 0 0 (omega arith)
