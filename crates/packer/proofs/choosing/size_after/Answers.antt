use Rattle.std.proofs.Common.{arith}
use Rattle.packer.proofs.HeadersLemmas.{size_after-below}
use Rattle.packer.proofs.choosing.size_after.Goals as goal

pub overflow_cast-result : goal.overflow_cast-result
overflow_cast-result c = omega (arith, size_after-below c.args.packet.now c.requires)
