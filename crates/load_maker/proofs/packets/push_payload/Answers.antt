use Rattle.std.proofs.Common.{refl}
use Rattle.load_maker.proofs.LoadLemmas.{payload-none, payload-pushed}
use Rattle.load_maker.proofs.packets.push_payload.Goals as goal

pub loop-i-init : goal.loop-i-init
loop-i-init c = payload-none c.args.packet.now.items c.args.draw

pub loop-i-preserved : goal.loop-i-preserved
loop-i-preserved c =
    payload-pushed c.args.packet.now.items c.loop-i.packet.items c.push.new.self.items c.args.draw
    c.loop-i.i _
    c.loop-i.invariant c.in_ok-push.ensures.ok (rw (c.from.ensures, c.from-in-loop-i.ensures) refl)
