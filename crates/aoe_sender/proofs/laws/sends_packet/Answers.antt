use Rattle.aoe_sender.proofs.LawsLemmas.{sends-packet}
use Rattle.aoe_sender.proofs.laws.sends_packet.Goals as goal

pub returns : goal.returns
returns c = sends-packet
