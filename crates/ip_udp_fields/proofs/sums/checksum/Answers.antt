use Rattle.std.proofs.Common.{arith, drop, ◌∙◌}
use Rattle.std.proofs.lemmas.List.{length-take}
use Rattle.ip_udp_fields.proofs.SumLemmas.{length-below, checksum-from_sums}
use Rattle.ip_udp_fields.proofs.sums.checksum.Goals as goal

pub words_sum-requires : goal.words_sum-requires
words_sum-requires c =
    omega (arith, length-below c.args.packet.now c.requires, c.split_at.ensures.back_len)

pub overflow_add-addresses-4 : goal.overflow_add-addresses-4
overflow_add-addresses-4 c =
    omega (
      arith,
      length-below c.args.packet.now c.requires,
      c.split_at.ensures.back_len,
      c.words_sum-addresses.ensures.bound,
      c.words_sum-header.ensures.bound,
      c.words_sum.ensures.bound,
      length-take 32 (drop 8 c.args.packet.now),
      length-take 6
          (drop 40 c.args.packet.now),
    )

pub returns : goal.returns
returns c =
    c.complement.ensures
    ∙ checksum-from_sums c.args.packet.now c.split_at.result.1.now c.words_sum-addresses.result
    c.words_sum-header.result c.words_sum.result c.requires c.words_sum-addresses.ensures.value
    c.words_sum-header.ensures.value c.words_sum.ensures.value c.split_at.ensures.back
