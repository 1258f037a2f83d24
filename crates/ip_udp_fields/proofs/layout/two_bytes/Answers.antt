use Rattle.std.proofs.Common.{◌+◌, sym, arith}
use Rattle.ip_udp_fields.proofs.PieceLemmas.{number_in-two_bytes}
use Rattle.ip_udp_fields.proofs.layout.two_bytes.Goals as goal

pub returns : goal.returns
returns c =
    rw (c.from.ensures, c.from-2.ensures)
    (sym (number_in-two_bytes c.args.place c.args.packet.now c.requires
    (omega (arith, c.type_inv.packet c.args.place))
    (omega (arith, c.type_inv.packet (c.args.place + 1)))))
