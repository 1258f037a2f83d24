use Rattle.std.proofs.Common.{arith, ap, sym, subst, length}
use Rattle.schc_bits.proofs.Octets.{AreBytes-from_each}
use Rattle.rule_model.specs.SplitData.{SplitData}
use Rattle.rule_model.specs.Residue.{residue_of}
use Rattle.packer.proofs.TriedLemmas.{HasBits, has-bits}
use Rattle.packer.proofs.choosing.bits_under.Goals as goal

pub residue_len-requires : goal.residue_len-requires
residue_len-requires c =
    let h =
    (subst (HasBits c.args.rule.now c.args.direction c.args.packet.now) (sym c.split.view_is)
    (has-bits c.args.rule.now c.requires.matching.0 c.args.direction c.args.packet.now
    c.args.split.now c.requires.admitted
    (AreBytes-from_each c.args.packet.now (λ k. omega (arith, c.type_inv.packet k)))
    c.requires.split c.requires.matching.1))
    in
    omega (arith, h.residue)

pub overflow_add-result : goal.overflow_add-result
overflow_add-result c =
    let h =
    (subst (HasBits c.args.rule.now c.args.direction c.args.packet.now) (sym c.split.view_is)
    (has-bits c.args.rule.now c.requires.matching.0 c.args.direction c.args.packet.now
    c.args.split.now c.requires.admitted
    (AreBytes-from_each c.args.packet.now (λ k. omega (arith, c.type_inv.packet k)))
    c.requires.split c.requires.matching.1))
    in
    omega (arith, h.residue, c.residue_len.ensures)

pub overflow_sub-result : goal.overflow_sub-result
overflow_sub-result c =
    let h =
    (subst (HasBits c.args.rule.now c.args.direction c.args.packet.now) (sym c.split.view_is)
    (has-bits c.args.rule.now c.requires.matching.0 c.args.direction c.args.packet.now
    c.args.split.now c.requires.admitted
    (AreBytes-from_each c.args.packet.now (λ k. omega (arith, c.type_inv.packet k)))
    c.requires.split c.requires.matching.1))
    in
    h.within

pub overflow_mul-result : goal.overflow_mul-result
overflow_mul-result c =
    let h =
    (subst (HasBits c.args.rule.now c.args.direction c.args.packet.now) (sym c.split.view_is)
    (has-bits c.args.rule.now c.requires.matching.0 c.args.direction c.args.packet.now
    c.args.split.now c.requires.admitted
    (AreBytes-from_each c.args.packet.now (λ k. omega (arith, c.type_inv.packet k)))
    c.requires.split c.requires.matching.1))
    in
    omega (arith, h.size)

pub overflow_add-result-2 : goal.overflow_add-result-2
overflow_add-result-2 c =
    let h =
    (subst (HasBits c.args.rule.now c.args.direction c.args.packet.now) (sym c.split.view_is)
    (has-bits c.args.rule.now c.requires.matching.0 c.args.direction c.args.packet.now
    c.args.split.now c.requires.admitted
    (AreBytes-from_each c.args.packet.now (λ k. omega (arith, c.type_inv.packet k)))
    c.requires.split c.requires.matching.1))
    in
    omega (arith, h.residue, h.size, c.residue_len.ensures)

pub returns : goal.returns
returns c =
    let b =
    has-bits c.args.rule.now c.requires.matching.0 c.args.direction c.args.packet.now
    c.args.split.now c.requires.admitted
    (AreBytes-from_each c.args.packet.now (λ k. omega (arith, c.type_inv.packet k)))
    c.requires.split c.requires.matching.1
    in
    omega (
      arith,
      b.bits,
      c.residue_len.ensures,
      ap (λ (s : SplitData). length (residue_of c.args.rule.now c.args.direction s.fields))
          c.split.view_is,
      ap (λ (s : SplitData). s.payload_from) c.split.view_is,
    )
