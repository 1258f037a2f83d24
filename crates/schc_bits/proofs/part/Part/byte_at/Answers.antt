use Rattle.std.proofs.Common.{◌≡◌, ◌+◌, ◌-◌, ◌*◌, ◌^◌, ◌<◌, arith, subst}
use Rattle.std.proofs.lemmas.Nat.{shl_below}
use Rattle.schc_bits.proofs.part.Part.byte_at.Goals as goal

pub overflow_cast-result : goal.overflow_cast-result
overflow_cast-result c =
    let sum : c.args.count + (8 - c.args.count) ≡ 8 = omega (arith, c.requires.width) in
    let below : c.read_at.result * 2 ^ (8 - c.args.count) < 2 ^ 8 =
    subst (λ n. c.read_at.result * 2 ^ (8 - c.args.count) < 2 ^ n) sum
    (shl_below c.read_at.result c.args.count (8 - c.args.count) c.read_at.ensures.below)
    in
    omega (arith, below)
