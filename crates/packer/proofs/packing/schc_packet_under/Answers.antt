use Rattle.std.proofs.Common.{subst, sym, ◌≤◌, length}
use Rattle.rule_model.specs.SplitData.{SplitData}
use Rattle.rule_model.specs.Cover.{stack_of}
use Rattle.rule_model.specs.Residue.{IsSized}
use Rattle.packer.proofs.writing.SchcPacketLemmas.{with_id, with-more}
use Rattle.packer.proofs.HeadersLemmas.{from-within}
use Rattle.packer.proofs.writing.SizedFieldsLemmas.{sized-packet}
use Rattle.packer.proofs.packing.schc_packet_under.Goals as goal

pub residue-requires : goal.residue-requires
residue-requires c =
    subst (λ (s : SplitData). IsSized c.args.rule.now c.args.direction s.fields)
    (sym c.split.view_is)
    (sized-packet c.args.rule.now c.requires.matching.0 c.args.direction (stack_of c.args.rule.now)
    c.args.packet.now c.args.split.now.fields c.args.split.now.payload_from
    c.requires.matching.1 c.id_of-rule_id.ensures.admitted c.requires.of_stack
    c.requires.matching.2)

pub invariant_of-result : goal.invariant_of-result
invariant_of-result c = (
  c.id_of-rule_id.ensures.small,
  with-more c.residue.new.out _ c.push_bytes.new.self c.in_ok-push_bytes.ensures.ok
      (with-more c.push_bits.new.self _ c.residue.new.out c.in_ok-residue.ensures.ok
      (with_id _ _ c.push_bits.new.self c.in_ok-push_bits.ensures.ok)),
)

pub slice_bounds-push_bytes-count : goal.slice_bounds-push_bytes-count
slice_bounds-push_bytes-count c =
    subst (λ (s : SplitData). s.payload_from ≤ length c.args.packet.now) (sym c.split.view_is)
    (from-within (stack_of c.args.rule.now) c.args.direction c.args.packet.now
    c.args.split.now.fields c.args.split.now.payload_from c.requires.of_stack)

pub slice_bounds-push_bytes-start : goal.slice_bounds-push_bytes-start
slice_bounds-push_bytes-start c =
    subst (λ (s : SplitData). s.payload_from ≤ length c.args.packet.now) (sym c.split.view_is)
    (from-within (stack_of c.args.rule.now) c.args.direction c.args.packet.now
    c.args.split.now.fields c.args.split.now.payload_from c.requires.of_stack)
