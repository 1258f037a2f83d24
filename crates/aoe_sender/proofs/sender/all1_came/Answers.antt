use Rattle.aoe_sender.proofs.MessageLemmas.{all1_came-is}
use Rattle.aoe_sender.proofs.sender.all1_came.Goals as goal

pub returns-in-InAll1 : goal.returns-in-InAll1
returns-in-InAll1 c = all1_came-is c.args.last c.args.bitmap c.in-InAll1.is
