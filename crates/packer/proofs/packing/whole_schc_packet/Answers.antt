use Rattle.std.proofs.Common.{arith}
use Rattle.packer.proofs.writing.SchcPacketLemmas.{with_id, with-more}
use Rattle.packer.proofs.packing.whole_schc_packet.Goals as goal

pub invariant_of-result : goal.invariant_of-result
invariant_of-result c = (
  omega arith,
  with-more c.push_bits.new.self _ c.push_bytes.new.self c.in_ok-push_bytes.ensures.ok
      (with_id _ _ c.push_bits.new.self c.in_ok-push_bits.ensures.ok),
)
