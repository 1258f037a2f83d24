use Rattle.aoe_sender.proofs.LawsLemmas.{tiles-packet}
use Rattle.aoe_sender.proofs.laws.tiles_are_packet.Goals as goal

pub returns : goal.returns
returns c = tiles-packet
