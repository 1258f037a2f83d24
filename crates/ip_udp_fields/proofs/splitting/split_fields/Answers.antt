use Rattle.std.proofs.Common.{◌∙◌}
use Rattle.ip_udp_fields.proofs.FieldsLemmas.{fields_in-of_header, length-header}
use Rattle.ip_udp_fields.proofs.splitting.split_fields.Goals as goal

pub fields_of-requires-clause-long : goal.fields_of-requires-clause-long
fields_of-requires-clause-long c =
    rw (c.in_ok-header.ensures, c.header_size-payload_from.ensures)
    (length-header c.args.stack c.args.packet.now c.requires.long)

pub returns-clause-fields : goal.returns-clause-fields
returns-clause-fields c =
    c.in_ok-fields.ensures
    ∙ rw (c.in_ok-header.ensures, c.header_size-payload_from.ensures)
    (fields_in-of_header c.args.stack c.args.direction c.args.packet.now c.requires.coap)
