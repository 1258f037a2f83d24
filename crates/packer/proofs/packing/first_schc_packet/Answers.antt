use Rattle.std.proofs.Common.{◌≡◌, arith, ap, sym, ◌∙◌, subst, option_copied}
use Rattle.std.proofs.lemmas.Result.{IfOk-weaker}
use Rattle.schc_bits.proofs.Octets.{AreBytes-from_each}
use Rattle.schc_ids.specs.declared.names.Stack.{Stack}
use Rattle.rule_model.specs.SplitData.{SplitData}
use Rattle.rule_model.specs.Cover.{stack_of}
use Rattle.rule_model.proofs.TestLemmas.{does_match-true}
use Rattle.packer.specs.Packets.{computed_over}
use Rattle.packer.specs.Searching.{cut_to}
use Rattle.packer.proofs.SplitLemmas.{split_of-packet}
use Rattle.packer.proofs.writing.SuspectLemmas.{IsOwnSchcPacket, own-schc_packet}
use Rattle.packer.proofs.packing.first_schc_packet.Goals as goal

pub schc_packet_under-requires-clause-of_stack : goal.schc_packet_under-requires-clause-of_stack
schc_packet_under-requires-clause-of_stack c =
    let own =
    subst (λ (s : SplitData). IsOwnSchcPacket c.requires.first.0 c.args.direction c.args.packet.now
    c.unwrap-listed.result.now s c.requires.first.1.schc_packet)
    (sym (c.cut_to-own.ensures ∙ ap (λ (of : Stack). cut_to of c.args.split) c.stack.ensures))
    (own-schc_packet c.args.edition.now c.requires.first.0 c.args.direction c.args.packet.now
    c.args.rule_id c.args.split c.unwrap-listed.result.now c.lookup.ensures.sound
    (AreBytes-from_each c.args.packet.now (λ k. omega (arith, c.type_inv.packet k))) c.requires.far
    (sym c.lookup.ensures.listed ∙ ap option_copied c.unwrap-listed.ensures) c.requires.first.1)
    in
    split_of-packet (stack_of c.unwrap-listed.result.now.rule) c.args.direction c.args.packet.now
    c.cut_to-own.result
    (AreBytes-from_each c.args.packet.now (λ k. omega (arith, c.type_inv.packet k)))
    own.is_split

pub schc_packet_under-requires-clause-matching : goal.schc_packet_under-requires-clause-matching
schc_packet_under-requires-clause-matching c =
    let own =
    subst (λ (s : SplitData). IsOwnSchcPacket c.requires.first.0 c.args.direction c.args.packet.now
    c.unwrap-listed.result.now s c.requires.first.1.schc_packet)
    (sym (c.cut_to-own.ensures ∙ ap (λ (of : Stack). cut_to of c.args.split) c.stack.ensures))
    (own-schc_packet c.args.edition.now c.requires.first.0 c.args.direction c.args.packet.now
    c.args.rule_id c.args.split c.unwrap-listed.result.now c.lookup.ensures.sound
    (AreBytes-from_each c.args.packet.now (λ k. omega (arith, c.type_inv.packet k))) c.requires.far
    (sym c.lookup.ensures.listed ∙ ap option_copied c.unwrap-listed.ensures) c.requires.first.1)
    in (
      c.requires.first.0,
      computed_over (stack_of c.unwrap-listed.result.now.rule) c.args.packet.now,
      does_match-true c.unwrap-listed.result.now.rule c.requires.first.0 c.args.direction
          c.cut_to-own.result.fields
          (computed_over (stack_of c.unwrap-listed.result.now.rule) c.args.packet.now) own.passes,
    )

pub returns : goal.returns
returns c =
    IfOk-weaker c.schc_packet_under.result _ _
    (λ schc_packet is iids first.
    let own =
    subst (λ (s : SplitData). IsOwnSchcPacket iids c.args.direction c.args.packet.now
    c.unwrap-listed.result.now s first.schc_packet)
    (sym (c.cut_to-own.ensures ∙ ap (λ (of : Stack). cut_to of c.args.split) c.stack.ensures))
    (own-schc_packet c.args.edition.now iids c.args.direction c.args.packet.now c.args.rule_id
    c.args.split c.unwrap-listed.result.now c.lookup.ensures.sound
    (AreBytes-from_each c.args.packet.now (λ k. omega (arith, c.type_inv.packet k))) c.requires.far
    (sym c.lookup.ensures.listed ∙ ap option_copied c.unwrap-listed.ensures) first)
    in
    is ∙ sym own.is)
    c.schc_packet_under.ensures
