use Rattle.schc_ids.specs.declared.names.FieldName.TheVariants.{IpVersion}
use Rattle.ip_udp_fields.proofs.PlaceLemmas.{place-within}
use Rattle.ip_udp_fields.proofs.FieldsLemmas.{fields-next}
use Rattle.ip_udp_fields.proofs.splitting.fields_of.Goals as goal

pub slice-requires-clause-within : goal.slice-requires-clause-within
slice-requires-clause-within c =
    rw (c.place-from.ensures, c.bits_of.ensures.value, c.requires.long)
    (place-within c.args.stack c.args.direction c.fields_in_packet_order-name-items.result.now
    c.loop-name.name-index IpVersion c.requires.coap c.fields_in_packet_order-name-items.ensures
    c.loop-name-test.true)

pub loop-name-preserved : goal.loop-name-preserved
loop-name-preserved c =
    rw (c.in_ok-push.ensures.ok, c.at_name.ensures)
    (fields-next c.args.direction c.args.header.now c.loop-name.fields.items _
    c.fields_in_packet_order-name-items.result.now c.loop-name.name-index IpVersion
    c.place-from.result c.bits_of.result c.in_ok-value.value c.loop-name-test.true
    c.place-from.ensures c.bits_of.ensures.value c.in_ok-value.ensures c.loop-name.invariant)
