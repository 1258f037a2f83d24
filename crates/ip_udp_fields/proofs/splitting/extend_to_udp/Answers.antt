use Rattle.std.proofs.Common.{sym}
use Rattle.ip_udp_fields.proofs.ExtendLemmas.{refused-udp, extended}
use Rattle.ip_udp_fields.proofs.splitting.extend_to_udp.Goals as goal

pub returns-in-Some-clause-refused : goal.returns-in-Some-clause-refused
returns-in-Some-clause-refused c =
    refused-udp c.args.packet.now c.in-Some.fault c.requires.ipv6 (sym c.in-Some.ensures)

pub returns-in-Ok-clause-ok : goal.returns-in-Ok-clause-ok
returns-in-Ok-clause-ok c =
    extended c.args.direction c.args.packet.now c.args.fields.now.items
    c.put_udp_fields.new.fields.items c.requires.ipv6 (sym c.in-None.ensures) c.requires.fields
    c.in-Ok.ensures.ok
