use Rattle.std.proofs.Common.{◌≤◌, length, arith, refl, sym, ◌∙◌, subst}
use Rattle.schc_bits.proofs.Octets.{AreBytes-from_each}
use Rattle.packer.specs.Schc.{IsChosen}
use Rattle.packer.specs.Packing.{SchcPacketData, shortest}
use Rattle.packer.proofs.ChosenLemmas.{chosen-by}
use Rattle.packer.proofs.writing.SuspectLemmas.{schc_packet-short}
use Rattle.packer.proofs.packing.pack.Goals as goal

pub returns-clause-chosen : goal.returns-clause-chosen
returns-clause-chosen c =
    subst (λ (f : SchcPacketData). IsChosen c.args.edition.now c.args.iids c.args.direction
    c.args.packet.now f.rule_id f.bits)
    (sym (c.schc_packet.view_is ∙ c.in_ok-schc_packet.ensures))
    (chosen-by c.args.edition.now c.args.iids c.args.direction c.args.packet.now
    (shortest c.args.iids c.args.direction c.args.packet.now c.args.edition.now.rules)
    (AreBytes-from_each c.args.packet.now (λ k. omega (arith, c.type_inv.packet k))) refl)

pub returns-clause-short : goal.returns-clause-short
returns-clause-short c =
    λ few.
    subst (λ (f : SchcPacketData). length f.bits ≤ 12068)
    (sym (c.schc_packet.view_is ∙ c.in_ok-schc_packet.ensures))
    (schc_packet-short c.args.edition.now c.args.iids c.args.direction c.args.packet.now
    (shortest c.args.iids c.args.direction c.args.packet.now c.args.edition.now.rules)
    c.number.ensures.sound
    (AreBytes-from_each c.args.packet.now (λ k. omega (arith, c.type_inv.packet k))) few refl)
