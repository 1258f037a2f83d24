use Rattle.std.proofs.Common.{arith}
use Rattle.packer.proofs.HeadersLemmas.{size_after-below}
use Rattle.packer.proofs.writing.SplitsLemmas.{behind-within}
use Rattle.packer.proofs.splits.add_coap.Goals as goal

pub overflow_add-split : goal.overflow_add-split
overflow_add-split c =
    omega (
      arith,
      behind-within _ c.split_at.result.1.now _ c.in-Ok.ensures.ok,
      c.split_at.ensures.back_len,
      size_after-below c.args.packet.now c.requires.udp.ipv6,
    )
