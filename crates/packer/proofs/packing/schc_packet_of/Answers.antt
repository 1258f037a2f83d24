use Rattle.std.proofs.Common.{◌≡◌, arith, sym, ◌∙◌, subst, Option, IfOk}
use Rattle.schc_bits.proofs.Octets.{AreBytes-from_each}
use Rattle.packer.specs.Packing.{SchcPacketData, schc_packet_or_whole}
use Rattle.packer.proofs.writing.SuspectLemmas.{none-shortest}
use Rattle.packer.proofs.packing.schc_packet_of.Goals as goal

pub returns-in-None : goal.returns-in-None
returns-in-None c =
    subst (λ (o : Option SchcPacketData). IfOk c.whole_schc_packet-in-None.result
    (λ schc_packet. schc_packet ≡ schc_packet_or_whole c.args.packet.now o))
    (sym (none-shortest c.args.edition.now c.args.iids c.args.direction c.args.packet.now
    c.rules.ensures.sound
    (AreBytes-from_each c.args.packet.now (λ k. omega (arith, c.type_inv.packet k)))
    (sym c.in_ok-split.ensures ∙ c.in-None.is)))
    c.whole_schc_packet-in-None.ensures
