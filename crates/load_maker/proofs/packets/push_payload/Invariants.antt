use Rattle.std.proofs.Common.{◌≡◌, ◌++◌}
use Rattle.load_maker.specs.Load.{payload}
use Rattle.load_maker.proofs.packets.push_payload.Given as goal

abbrev pub invariant-loop-i : goal.invariant-loop-i
invariant-loop-i l = l.packet.items ≡ l.initial.packet.items ++ payload l.fn.draw l.i
