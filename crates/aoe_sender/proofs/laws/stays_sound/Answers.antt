use Rattle.aoe_sender.proofs.LawsLemmas.{steps-sound}
use Rattle.aoe_sender.proofs.laws.stays_sound.Goals as goal

pub returns : goal.returns
returns c = steps-sound
