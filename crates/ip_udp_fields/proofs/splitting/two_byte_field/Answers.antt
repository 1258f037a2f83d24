use Rattle.ip_udp_fields.proofs.ExtendLemmas.{two_bytes-field}
use Rattle.ip_udp_fields.proofs.splitting.two_byte_field.Goals as goal

pub returns : goal.returns
returns c =
    rw c.at_name.ensures
    (two_bytes-field c.args.from c.args.packet.now c.args.name c.in_ok-value.value
    c.in_ok-value.ensures)
