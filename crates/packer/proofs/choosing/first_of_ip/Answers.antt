use Rattle.std.proofs.Common.{◌≡◌, Some, sym, subst}
use Rattle.schc_ids.specs.declared.names.Stack.TheVariants as stack
use Rattle.rule_model.specs.SplitData.{SplitData}
use Rattle.packer.specs.Packets.{split_of}
use Rattle.packer.proofs.writing.SplitsLemmas.{next-header-width, split-fields}
use Rattle.packer.proofs.writing.SuspectLemmas.{can-be-tried, computed-ip}
use Rattle.packer.proofs.choosing.first_of_ip.Goals as goal

pub key_value-requires : goal.key_value-requires
key_value-requires c =
    next-header-width c.args.direction c.args.packet.now _
    (subst (λ (s : SplitData). split_of stack.Ip c.args.direction c.args.packet.now ≡ Some s)
    (sym c.split.view_is) c.requires)

pub over_ip-requires : goal.over_ip-requires
over_ip-requires c =
    (split-fields stack.Ip c.args.direction c.args.packet.now c.args.split.now tt
    c.requires).is_packet

pub first_candidate-requires : goal.first_candidate-requires
first_candidate-requires c =
    can-be-tried c.args.edition.now.rules c.args.direction c.args.packet.now stack.Ip
    c.key_value.result c.args.split.now c.over_ip.result c.suspects-ids.result.now
    c.suspects-ids.ensures.sound.ascending c.suspects-ids.ensures.suspects c.requires
    (computed-ip c.args.edition.now.rules c.args.direction c.args.packet.now c.key_value.result
    c.over_ip.result c.suspects-ids.result.now
    c.suspects-ids.ensures.sound.ascending c.suspects-ids.ensures.suspects c.over_ip.ensures)
