use Rattle.packer.proofs.ChosenLemmas.{packed-chosen}
use Rattle.packer.proofs.laws.packs_chosen.Goals as goal

pub returns : goal.returns
returns c = packed-chosen
