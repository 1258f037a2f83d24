use Rattle.aoe_sender.proofs.MarksLemmas.{numbers_of-all}
use Rattle.aoe_sender.proofs.to_send.ToSend.all.Goals as goal

pub returns : goal.returns
returns c = numbers_of-all c.args.count c.requires
