use Rattle.schc_bits.specs.Bits.{octets}
use Rattle.frag_wire.specs.Layouts.{payload_in}
use Rattle.sessions.specs.Clocks.{left_of}
use Rattle.sessions.proofs.MoveLemmas.{taken-exact}
use Rattle.sessions.proofs.ReceiverLemmas.{taken-keeps}
use Rattle.sessions.proofs.moves.take_message.Goals as goal

pub returns-clause-exact : goal.returns-clause-exact
returns-clause-exact c =
    taken-exact c.args.ticks.now c.args.message.now
    (payload_in c.args.message.now (octets c.args.bytes.now)) c.args.receiver.now
    c.take-note.new.self c.take-note.result c.phase-before.result c.phase.result c.args.clock
    c.args.clocks.now c.receiver_moved.new.self c.take-note.ensures.taken c.phase-before.ensures
    c.phase.ensures c.receiver_moved.ensures

pub returns-clause-keeps : goal.returns-clause-keeps
returns-clause-keeps c =
    taken-keeps c.args.ticks.now c.args.message.now
    (payload_in c.args.message.now (octets c.args.bytes.now)) c.args.receiver.now
    c.take-note.new.self (left_of c.args.clock c.args.clocks.now)
    (left_of c.args.clock c.receiver_moved.new.self) c.take-note.result (returns-clause-exact c)
