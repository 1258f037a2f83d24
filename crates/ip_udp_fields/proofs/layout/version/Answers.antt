use Rattle.std.proofs.Common.{sym, arith}
use Rattle.ip_udp_fields.proofs.PieceLemmas.{number_in-first_half}
use Rattle.ip_udp_fields.proofs.layout.version.Goals as goal

pub returns : goal.returns
returns c =
    sym (number_in-first_half c.args.packet.now c.requires (omega (arith, c.type_inv.packet 0)))
