use Rattle.packer.proofs.reading.UnpackedLemmas.{unpacks_exactly}
use Rattle.packer.proofs.laws.unpacks_exactly.Goals as goal

pub returns : goal.returns
returns c = unpacks_exactly
