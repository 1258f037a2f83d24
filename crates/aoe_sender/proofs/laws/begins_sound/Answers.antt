use Rattle.aoe_sender.proofs.KeepsLemmas.{begun-keeps}
use Rattle.aoe_sender.proofs.laws.begins_sound.Goals as goal

pub returns : goal.returns
returns c = begun-keeps
