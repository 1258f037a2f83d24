use Rattle.aoe_sender.proofs.SessionLemmas.{packet-arrives}
use Rattle.aoe_sender.proofs.laws.packet_arrives.Goals as goal

pub returns : goal.returns
returns c = packet-arrives
