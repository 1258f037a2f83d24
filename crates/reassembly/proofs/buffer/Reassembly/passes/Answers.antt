use Rattle.std.proofs.Common.{◌/◌, ◌++◌, length, take, drop, arith, ap, ◌∙◌}
use Rattle.std.proofs.lemmas.List.{length-drop}
use Rattle.schc_bits.specs.Bits.{octets}
use Rattle.reassembly.proofs.KeptLemmas.{part-sums, checked, has-room, length-tail}
use Rattle.reassembly.proofs.buffer.Reassembly.passes.Goals as goal

pub overflow_mul-rest : goal.overflow_mul-rest
overflow_mul-rest c =
    let room =
    has-room c.args.self.now (drop c.args.from (octets c.args.bytes.now)) c.requires.room in
    let size = ap length c.split_at.ensures.back in
    omega (
      arith,
      room,
      size,
      length-tail c.args.from c.args.bytes.now,
      length-drop
          (c.args.from / 8) c.args.bytes.now,
    )

pub returns : goal.returns
returns c =
    let part = drop c.args.from (octets c.args.bytes.now) in
    let view = ap (λ bytes. take c.self.inside.count (octets bytes)) c.as_slice.ensures.value
    ∙ c.self.view_is in
    let sums =
    part-sums c.new-register.result c.add.new.self c.add-2.new.self c.args.self.now
    c.as_slice.result.now c.args.bytes.now c.split_at.result.1.now c.self.inside.count
    c.args.from
    c.requires.within c.split_at.ensures.back view c.new-register.ensures c.add.ensures
    c.add-2.ensures
    in
    checked c.value.result c.args.rcs c.args.self.now part
    (c.value.ensures (c.args.self.now ++ part) sums)
