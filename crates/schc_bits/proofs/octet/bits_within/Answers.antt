use Rattle.std.proofs.Common.{◌-◌, ◌/◌, ◌%◌, ◌^◌, arith, ap, ◌∙◌}
use Rattle.schc_bits.specs.Bits.{number_bits}
use Rattle.schc_bits.proofs.NumberBits.{within-bits, one-shl}
use Rattle.schc_bits.proofs.octet.bits_within.Goals as goal

pub returns-clause-bits : goal.returns-clause-bits
returns-clause-bits c =
    let one = one-shl c.args.width (omega (arith, c.requires.within)) in
    ap (λ n. number_bits c.args.width (c.from.result / 2 ^ (8 - c.args.first - c.args.width) % n))
    one
    ∙ ap (λ byte. number_bits c.args.width
    (byte / 2 ^ (8 - c.args.first - c.args.width) % 2 ^ c.args.width)) c.from.ensures
    ∙ within-bits c.args.byte c.args.first c.args.width (8 - c.args.first - c.args.width)
    (omega (arith, c.requires.within))
