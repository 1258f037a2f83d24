use Rattle.std.proofs.Common.{◌≡◌, ap, Some, sym, ◌∙◌, subst}
use Rattle.std.proofs.lemmas.Bool.{or_left, or_right}
use Rattle.schc_ids.specs.declared.names.Stack.TheVariants as stack
use Rattle.rule_model.specs.SplitData.{SplitData}
use Rattle.editions.specs.Suspects.{key_value, suspects}
use Rattle.packer.specs.Packets.{split_of}
use Rattle.packer.specs.Packing.{candidate_under, smaller, smallest_of}
use Rattle.packer.specs.Searching.{IsSplitFarEnough, suspects_of}
use Rattle.packer.proofs.writing.FirstLemmas.{smallest-append}
use Rattle.packer.proofs.writing.SplitsLemmas.{port-width, split-fields, where-none, where-some}
use Rattle.packer.proofs.writing.SuspectLemmas.{can-be-tried, computed-udp, far-ip, no-udp-suspects}
use Rattle.packer.proofs.writing.SuspectLemmas.{some-suspects}
use Rattle.packer.proofs.choosing.first_of_udp.Goals as goal

pub returns-then-not-branch-clause-first : goal.returns-then-not-branch-clause-first
returns-then-not-branch-clause-first c =
    ap (smallest_of
    (candidate_under c.args.edition.now.rules c.args.iids c.args.direction c.args.packet.now))
    (sym (no-udp-suspects c.args.edition.now.rules c.args.direction c.args.packet.now
    (where-none c.in_ok-add_udp.field-0 c.add_udp.new.split _ c.if-not-branch.true
    c.in_ok-add_udp.ensures.added)))

pub returns-then-not-branch-clause-far : goal.returns-then-not-branch-clause-far
returns-then-not-branch-clause-far c =
    subst (IsSplitFarEnough c.args.edition.now.rules c.args.direction c.args.packet.now)
    (sym (c.in_ok-add_udp.ensures.kept c.if-not-branch.true))
    (far-ip c.args.edition.now.rules c.args.direction c.args.packet.now c.args.split.now c.requires
    (where-none c.in_ok-add_udp.field-0 c.add_udp.new.split _ c.if-not-branch.true
    c.in_ok-add_udp.ensures.added))

pub key_value-key-requires : goal.key_value-key-requires
key_value-key-requires c =
    port-width c.args.direction c.args.packet.now _
    (subst (λ (s : SplitData). split_of stack.IpUdp c.args.direction c.args.packet.now ≡ Some s)
    (sym c.split.view_is)
    (where-some c.in_ok-add_udp.field-0 c.add_udp.new.split _ c.if-not-branch.false
    c.in_ok-add_udp.ensures.added))

pub over_udp-computed-requires : goal.over_udp-computed-requires
over_udp-computed-requires c =
    (split-fields stack.IpUdp c.args.direction c.args.packet.now c.add_udp.new.split tt
    (where-some c.in_ok-add_udp.field-0 c.add_udp.new.split _ c.if-not-branch.false
    c.in_ok-add_udp.ensures.added)).is_packet

pub first_candidate-first-requires : goal.first_candidate-first-requires
first_candidate-first-requires c =
    can-be-tried c.args.edition.now.rules c.args.direction c.args.packet.now stack.IpUdp
    c.key_value-key.result c.add_udp.new.split c.over_udp-computed.result
    c.suspects-ids.result.now
    c.suspects-ids.ensures.sound.ascending c.suspects-ids.ensures.suspects
    (where-some c.in_ok-add_udp.field-0 c.add_udp.new.split _ c.if-not-branch.false
    c.in_ok-add_udp.ensures.added)
    (computed-udp c.args.edition.now.rules c.args.direction c.args.packet.now stack.IpUdp
    c.key_value-key.result c.either_computes-sums.result c.over_udp-computed.result
    c.suspects-ids.result.now
    c.suspects-ids.ensures.sound.ascending (λ e. absurd (cc)) c.suspects-ids.ensures.suspects
    c.over_udp-computed.ensures
    (λ some. c.either_computes-sums.ensures ∙ or_left _ _ some))

pub first_of_coap-requires-clause-computed : goal.first_of_coap-requires-clause-computed
first_of_coap-requires-clause-computed c =
    computed-udp c.args.edition.now.rules c.args.direction c.args.packet.now stack.IpUdpCoap
    c.key_value-key.result c.either_computes-sums.result c.over_udp-computed.result
    c.suspects-with_coap.result.now
    c.suspects-with_coap.ensures.sound.ascending (λ e. absurd (cc))
    c.suspects-with_coap.ensures.suspects c.over_udp-computed.ensures
    (λ some. c.either_computes-sums.ensures ∙ or_right _ _ some)

pub returns-clause-first : goal.returns-clause-first
returns-clause-first c =
    let udp = suspects_of c.args.edition.now.rules c.args.direction c.args.packet.now stack.IpUdp in
    let coap =
    suspects_of c.args.edition.now.rules c.args.direction c.args.packet.now stack.IpUdpCoap in
    let ids_are : c.suspects-ids.result.now ≡ udp =
    c.suspects-ids.ensures.suspects
    ∙ ap (suspects c.args.edition.now.rules c.args.direction stack.IpUdp)
    (c.key_value-key.ensures
    ∙ ap (λ (s : SplitData). key_value stack.IpUdp s.fields) c.split.view_is)
    ∙ sym (some-suspects c.args.edition.now.rules c.args.direction c.args.packet.now stack.IpUdp
    c.add_udp.new.split
    (where-some c.in_ok-add_udp.field-0 c.add_udp.new.split _ c.if-not-branch.false
    c.in_ok-add_udp.ensures.added))
    in
    c.smaller.ensures
    ∙ ap (λ o. smaller o c.in_ok-other.other)
    (c.first_candidate-first.ensures
    ∙ ap (smallest_of
    (candidate_under c.args.edition.now.rules c.args.iids c.args.direction c.args.packet.now))
    ids_are)
    ∙ ap (smaller
    (smallest_of
    (candidate_under c.args.edition.now.rules c.args.iids c.args.direction c.args.packet.now) udp))
    c.in_ok-other.ensures.first
    ∙ sym (smallest-append
    (candidate_under c.args.edition.now.rules c.args.iids c.args.direction c.args.packet.now) udp
    coap)
