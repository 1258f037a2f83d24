use Rattle.std.proofs.Common.{◌≡◌, ap, Some, sym, ◌∙◌, subst}
use Rattle.schc_ids.specs.declared.names.Stack.TheVariants as stack
use Rattle.rule_model.specs.SplitData.{SplitData}
use Rattle.packer.specs.Packets.{split_of}
use Rattle.packer.proofs.writing.SplitsLemmas.{split-fields, udp-split, refused-none}
use Rattle.packer.proofs.splits.add_udp.Goals as goal

pub extend_to_udp-requires-clause-ipv6 : goal.extend_to_udp-requires-clause-ipv6
extend_to_udp-requires-clause-ipv6 c =
    (split-fields stack.Ip c.args.direction c.args.packet.now c.args.split.now tt
    c.requires).is_packet

pub extend_to_udp-requires-clause-fields : goal.extend_to_udp-requires-clause-fields
extend_to_udp-requires-clause-fields c =
    ap (λ (s : SplitData). s.fields) c.split.view_is
    ∙ (split-fields stack.Ip c.args.direction c.args.packet.now c.args.split.now tt
    c.requires).its_fields

pub returns-in-Ok-clause-added : goal.returns-in-Ok-clause-added
returns-in-Ok-clause-added c =
    udp-split c.args.direction c.args.packet.now c.extend_to_udp.new.fields.items c.in-Ok.ensures.ok

pub returns-else-is_memory-clause-added : goal.returns-else-is_memory-clause-added
returns-else-is_memory-clause-added c =
    sym (refused-none stack.IpUdp c.args.direction c.args.packet.now c.in-Err.fault tt
    c.in-Err.ensures.refused (sym c.is_memory.ensures ∙ c.if-is_memory.false))
