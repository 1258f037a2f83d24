use Rattle.std.proofs.Common.{◌≡◌, arith, ap, sym, ◌∙◌, subst, Option, IfOk}
use Rattle.std.specs.Option.{option_map}
use Rattle.std.proofs.lemmas.Result.{IfOk-weaker}
use Rattle.schc_bits.proofs.Octets.{AreBytes-from_each}
use Rattle.packer.specs.Packing.{SchcPacketData, candidate_of, schc_packet_or_whole, shortest}
use Rattle.packer.proofs.writing.CandidateLemmas.{first-schc_packet, none-candidate}
use Rattle.packer.proofs.writing.SuspectLemmas.{tried-shortest}
use Rattle.packer.proofs.packing.schc_packet_of_split.Goals as goal

pub first_schc_packet-requires-clause-first : goal.first_schc_packet-requires-clause-first
first_schc_packet-requires-clause-first c = (
  c.args.iids,
  first-schc_packet c.args.edition.now.rules c.args.iids c.args.direction c.args.packet.now
      c.in-Some.first c.first_of_ip-plain.ensures.sound.ascending
      (sym (tried-shortest c.args.edition.now c.args.iids c.args.direction c.args.packet.now
      c.first_of_ip-plain.result c.in_ok-other.other c.first_of_ip-plain.ensures.sound
      (AreBytes-from_each c.args.packet.now (λ k. omega (arith, c.type_inv.packet k)))
      c.first_of_ip-plain.ensures.first c.in_ok-other.ensures.first)
      ∙ sym c.smaller.ensures ∙ c.in-Some.is),
)

pub returns-in-Some : goal.returns-in-Some
returns-in-Some c =
    let first =
    first-schc_packet c.args.edition.now.rules c.args.iids c.args.direction c.args.packet.now
    c.in-Some.first c.first_of_ip-plain.ensures.sound.ascending
    (sym (tried-shortest c.args.edition.now c.args.iids c.args.direction c.args.packet.now
    c.first_of_ip-plain.result c.in_ok-other.other c.first_of_ip-plain.ensures.sound
    (AreBytes-from_each c.args.packet.now (λ k. omega (arith, c.type_inv.packet k)))
    c.first_of_ip-plain.ensures.first c.in_ok-other.ensures.first)
    ∙ sym c.smaller.ensures ∙ c.in-Some.is)
    in
    IfOk-weaker c.first_schc_packet.result _ _
    (λ schc_packet is. is c.args.iids first
    ∙ sym (ap (schc_packet_or_whole c.args.packet.now) first.is_shortest))
    c.first_schc_packet.ensures

pub returns-in-None : goal.returns-in-None
returns-in-None c =
    subst (λ (o : Option SchcPacketData). IfOk c.whole_schc_packet.result
    (λ schc_packet. schc_packet ≡ schc_packet_or_whole c.args.packet.now o))
    (sym (none-candidate
    (shortest c.args.iids c.args.direction c.args.packet.now c.args.edition.now.rules)
    (sym (tried-shortest c.args.edition.now c.args.iids c.args.direction c.args.packet.now
    c.first_of_ip-plain.result c.in_ok-other.other c.first_of_ip-plain.ensures.sound
    (AreBytes-from_each c.args.packet.now (λ k. omega (arith, c.type_inv.packet k)))
    c.first_of_ip-plain.ensures.first c.in_ok-other.ensures.first)
    ∙ sym c.smaller.ensures ∙ c.in-None.is)))
    c.whole_schc_packet.ensures
