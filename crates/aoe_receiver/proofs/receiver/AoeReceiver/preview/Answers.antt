use Rattle.aoe_receiver.proofs.MachineLemmas.{preview-last}
use Rattle.aoe_receiver.proofs.receiver.AoeReceiver.preview.Goals as goal

pub returns-in-All1-clause-bits : goal.returns-in-All1-clause-bits
returns-in-All1-clause-bits c =
    rw (preview-last c.args.message.now c.args.bytes.now c.args.self.now c.in-All1.w c.in-All1.rcs
    c.in-All1.from c.in-All1.is c.requires.spelt) c.preview_last.ensures.bits

pub returns-in-All1-clause-memory : goal.returns-in-All1-clause-memory
returns-in-All1-clause-memory c =
    rw (preview-last c.args.message.now c.args.bytes.now c.args.self.now c.in-All1.w c.in-All1.rcs
    c.in-All1.from c.in-All1.is c.requires.spelt) c.preview_last.ensures.memory
