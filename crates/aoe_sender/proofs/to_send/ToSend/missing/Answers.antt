use Rattle.aoe_sender.proofs.MarksLemmas.{numbers_of-missing}
use Rattle.aoe_sender.proofs.to_send.ToSend.missing.Goals as goal

pub returns : goal.returns
returns c =
    rw (c.from.ensures, c.from-2.ensures)
    (numbers_of-missing c.args.w c.args.bitmap c.args.count c.requires.window)
