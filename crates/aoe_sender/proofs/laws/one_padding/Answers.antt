use Rattle.aoe_sender.proofs.SessionLemmas.{packet-padding}
use Rattle.aoe_sender.proofs.laws.one_padding.Goals as goal

pub returns : goal.returns
returns c = packet-padding
