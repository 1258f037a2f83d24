use Rattle.packer.proofs.WrittenLemmas.{reads_what_was_written}
use Rattle.packer.proofs.laws.reads_what_was_written.Goals as goal

pub returns : goal.returns
returns c = reads_what_was_written
