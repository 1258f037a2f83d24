use Rattle.packer.proofs.reading.OnePacketLemmas.{one_restored_packet}
use Rattle.packer.proofs.laws.one_restored_packet.Goals as goal

pub returns : goal.returns
returns c = one_restored_packet
