use Rattle.std.proofs.Common.{ap, sym, ◌∙◌, subst, drop}
use Rattle.schc_ids.specs.declared.names.Stack.TheVariants as stack
use Rattle.rule_model.specs.SplitData.{SplitData}
use Rattle.coap_fields.specs.Reading.{message_in}
use Rattle.packer.specs.Packets.{with_message, split_of}
use Rattle.packer.specs.Packing.{candidate_under, smallest_of}
use Rattle.packer.specs.Searching.{IsSplitFarEnough}
use Rattle.packer.proofs.coap.CoapHeadersLemmas.{headers-there}
use Rattle.packer.proofs.writing.SplitsLemmas.{split-fields, where-none, where-some}
use Rattle.packer.proofs.writing.SuspectLemmas.{can-be-tried, coap-empty, coap-suspects, far-coap}
use Rattle.packer.proofs.writing.SuspectLemmas.{far-udp, no-suspects}
use Rattle.packer.proofs.choosing.first_of_coap.Goals as goal

pub returns-then-is_empty-clause-first : goal.returns-then-is_empty-clause-first
returns-then-is_empty-clause-first c =
    ap (smallest_of
    (candidate_under c.args.edition.now.rules c.args.iids c.args.direction c.args.packet.now))
    (sym (coap-empty c.args.edition.now.rules c.args.direction c.args.packet.now c.args.split.now
    c.args.ids.now c.requires.udp c.requires.ids (sym c.is_empty.ensures ∙ c.if-is_empty.true)))

pub returns-then-is_empty-clause-far : goal.returns-then-is_empty-clause-far
returns-then-is_empty-clause-far c =
    far-udp c.args.edition.now.rules c.args.direction c.args.packet.now c.args.split.now
    c.requires.udp
    (coap-empty c.args.edition.now.rules c.args.direction c.args.packet.now c.args.split.now
    c.args.ids.now c.requires.udp c.requires.ids (sym c.is_empty.ensures ∙ c.if-is_empty.true))

pub add_coap-requires-clause-udp : goal.add_coap-requires-clause-udp
add_coap-requires-clause-udp c =
    (split-fields stack.IpUdp c.args.direction c.args.packet.now c.args.split.now tt
    c.requires.udp).is_packet

pub add_coap-requires-clause-from : goal.add_coap-requires-clause-from
add_coap-requires-clause-from c =
    (split-fields stack.IpUdp c.args.direction c.args.packet.now c.args.split.now tt
    c.requires.udp).its_payload

pub returns-then-not-branch-clause-first : goal.returns-then-not-branch-clause-first
returns-then-not-branch-clause-first c =
    ap (smallest_of
    (candidate_under c.args.edition.now.rules c.args.iids c.args.direction c.args.packet.now))
    (sym (no-suspects c.args.edition.now.rules c.args.direction c.args.packet.now stack.IpUdpCoap
    (headers-there c.args.direction c.args.packet.now c.args.split.now
    (split-fields stack.IpUdp c.args.direction c.args.packet.now c.args.split.now tt
    c.requires.udp)
    ∙ where-none c.in_ok-add_coap.field-0 c.add_coap.new.split _ c.if-not-branch.true
    c.in_ok-add_coap.ensures.added)))

pub returns-then-not-branch-clause-far : goal.returns-then-not-branch-clause-far
returns-then-not-branch-clause-far c =
    subst (IsSplitFarEnough c.args.edition.now.rules c.args.direction c.args.packet.now)
    (sym (c.in_ok-add_coap.ensures.kept c.if-not-branch.true))
    (far-udp c.args.edition.now.rules c.args.direction c.args.packet.now c.args.split.now
    c.requires.udp
    (no-suspects c.args.edition.now.rules c.args.direction c.args.packet.now stack.IpUdpCoap
    (headers-there c.args.direction c.args.packet.now c.args.split.now
    (split-fields stack.IpUdp c.args.direction c.args.packet.now c.args.split.now tt
    c.requires.udp)
    ∙ where-none c.in_ok-add_coap.field-0 c.add_coap.new.split _ c.if-not-branch.true
    c.in_ok-add_coap.ensures.added)))

pub first_candidate-requires : goal.first_candidate-requires
first_candidate-requires c =
    can-be-tried c.args.edition.now.rules c.args.direction c.args.packet.now stack.IpUdpCoap _
    c.add_coap.new.split c.args.computed.now c.args.ids.now
    c.requires.sound.ascending c.requires.ids
    (headers-there c.args.direction c.args.packet.now c.args.split.now
    (split-fields stack.IpUdp c.args.direction c.args.packet.now c.args.split.now tt
    c.requires.udp)
    ∙ where-some c.in_ok-add_coap.field-0 c.add_coap.new.split _ c.if-not-branch.false
    c.in_ok-add_coap.ensures.added)
    c.requires.computed

pub returns-clause-first : goal.returns-clause-first
returns-clause-first c =
    let message =
    where-some c.in_ok-add_coap.field-0 c.add_coap.new.split
    (with_message c.args.split.now (message_in (drop 48 c.args.packet.now)))
    c.if-not-branch.false c.in_ok-add_coap.ensures.added in
    c.first_candidate.ensures
    ∙ ap (smallest_of
    (candidate_under c.args.edition.now.rules c.args.iids c.args.direction c.args.packet.now))
    (c.requires.ids
    ∙ sym (coap-suspects c.args.edition.now.rules c.args.direction c.args.packet.now
    c.args.split.now c.add_coap.new.split c.requires.udp message
    (headers-there c.args.direction c.args.packet.now c.args.split.now
    (split-fields stack.IpUdp c.args.direction c.args.packet.now c.args.split.now tt
    c.requires.udp) ∙ message)))

pub returns-clause-far : goal.returns-clause-far
returns-clause-far c =
    let message =
    where-some c.in_ok-add_coap.field-0 c.add_coap.new.split
    (with_message c.args.split.now (message_in (drop 48 c.args.packet.now)))
    c.if-not-branch.false c.in_ok-add_coap.ensures.added in
    far-coap c.args.edition.now.rules c.args.direction c.args.packet.now c.args.split.now
    c.add_coap.new.split c.requires.udp message
    (headers-there c.args.direction c.args.packet.now c.args.split.now
    (split-fields stack.IpUdp c.args.direction c.args.packet.now c.args.split.now tt
    c.requires.udp) ∙ message)
