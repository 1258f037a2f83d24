use Rattle.std.proofs.Common.{sym, arith}
use Rattle.ip_udp_fields.proofs.PieceLemmas.{number_in-byte}
use Rattle.ip_udp_fields.proofs.layout.one_byte.Goals as goal

pub returns : goal.returns
returns c =
    sym (number_in-byte c.args.place c.args.packet.now c.requires
    (omega (arith, c.type_inv.packet c.args.place)))
