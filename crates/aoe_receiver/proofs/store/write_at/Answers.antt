use Rattle.std.proofs.Common.{arith}
use Rattle.aoe_receiver.proofs.KeepingLemmas.{pasted}
use Rattle.aoe_receiver.proofs.store.write_at.Goals as goal

pub returns : goal.returns
returns c =
    pasted c.args.at _ _ c.args.bytes.now _ _ c.args.buffer.now.items c.deref_mut.ensures.value
    c.copy_from_slice.ensures.after (omega (arith, c.args.buffer.now.ok)) (omega arith)
    c.requires
