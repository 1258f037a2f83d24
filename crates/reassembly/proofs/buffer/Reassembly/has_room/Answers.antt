use Rattle.std.proofs.Common.{◌≡◌, ◌+◌, ◌-◌, ◌*◌, ◌%◌, ◌/◌, length, drop, arith, ap, sym, ◌∙◌}
use Rattle.std.specs.Prelude.{nat_le}
use Rattle.schc_bits.specs.Bits.{octets}
use Rattle.reassembly.specs.Joining.{has_room}
use Rattle.reassembly.proofs.KeptLemmas.{length-kept, part-left, has-no-room, length-tail}
use Rattle.reassembly.proofs.buffer.Reassembly.has_room.Goals as goal

pub returns-then-whole : goal.returns-then-whole
returns-then-whole c =
    has-no-room c.args.self.now (drop c.args.from (octets c.args.bytes.now))
    (omega (arith, c.if-whole.true, length-tail c.args.from c.args.bytes.now))

pub returns : goal.returns
unfolding has_room
returns c =
    let size : length c.args.self.now ≡ c.self.inside.count = ap length (sym c.self.view_is)
    ∙ length-kept c.self.inside.count c.self.inside.buffer.items
    (omega (arith, c.self.invariant.0, c.self.invariant.1)) in
    ap (λ n. nat_le (n + (8 * (length c.args.bytes.now - c.args.from / 8) - c.args.from % 8)) 20240)
    (sym size)
    ∙ ap (λ n. nat_le (length c.args.self.now + n) 20240)
    (part-left c.args.from c.args.bytes.now c.requires.within)
