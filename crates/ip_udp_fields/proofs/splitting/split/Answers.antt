use Rattle.std.proofs.Common.{sym}
use Rattle.ip_udp_fields.proofs.RefusalLemmas.{refusal-is_packet, header_size-is_packet}
use Rattle.ip_udp_fields.proofs.splitting.split.Goals as goal

pub split_fields-requires-clause-long : goal.split_fields-requires-clause-long
split_fields-requires-clause-long c =
    header_size-is_packet c.args.stack c.args.packet.now
    (refusal-is_packet c.args.stack c.args.packet.now c.requires (sym c.in-None.ensures))

pub returns-in-Ok-clause-ok : goal.returns-in-Ok-clause-ok
returns-in-Ok-clause-ok c =
    record {
      is_packet =
          refusal-is_packet c.args.stack c.args.packet.now c.requires (sym c.in-None.ensures);
      its_fields = c.in-Ok.ensures.fields;
      its_payload = c.in-Ok.ensures.payload;
    }
