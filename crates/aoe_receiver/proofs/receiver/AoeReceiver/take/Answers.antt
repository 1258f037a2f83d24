use Rattle.std.proofs.Common.{◌∙◌, arith}
use Rattle.aoe_receiver.proofs.MachineLemmas.{take-regular, take-last}
use Rattle.aoe_receiver.proofs.receiver.AoeReceiver.take.Goals as goal

pub returns-in-Regular : goal.returns-in-Regular
returns-in-Regular c =
    take-regular c.args.message.now c.args.bytes.now c.args.self.now c.in-Regular.w c.in-Regular.fcn
    c.in-Regular.from _ c.in-Regular.is c.requires.spelt
    (omega (arith, c.from.ensures, c.from-in-Regular.ensures))
    ∙ c.take_regular.ensures

pub returns-in-All1 : goal.returns-in-All1
returns-in-All1 c =
    take-last c.args.message.now c.args.bytes.now c.args.self.now c.in-All1.w c.in-All1.rcs
    c.in-All1.from c.in-All1.is c.requires.spelt
    ∙ c.take_last.ensures
