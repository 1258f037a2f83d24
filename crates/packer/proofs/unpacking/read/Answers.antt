use Rattle.std.proofs.Common.{arith, ap, subst, sym, ◌∙◌, ◌≡◌, ◌≤◌, ◌<◌, ◌^◌, List, Bool, length}
use Rattle.std.proofs.Common.{take}
use Rattle.std.proofs.lemmas.List.{length-take-le}
use Rattle.schc_bits.specs.Bits.{bits_value}
use Rattle.schc_bits.proofs.NumberBits.{bits_value-below}
use Rattle.packer.proofs.unpacking.read.Goals as goal

pub overflow_cast-rule_id : goal.overflow_cast-rule_id
overflow_cast-rule_id c =
    let long : 8 ≤ length c.args.bits.now =
    omega (arith, c.if-len-lt-RULE_ID.false, c.len.ensures) in
    let size : length c.front.result ≡ 8 =
    ap (λ (bits : List Bool). length bits)
    (c.front.ensures ∙ ap (λ (bits : List Bool). take 8 bits) c.as_part.ensures)
    ∙ length-take-le 8 c.args.bits.now long
    in
    let below : bits_value c.front.result < 2 ^ 8 =
    subst (λ n. bits_value c.front.result < 2 ^ n) size (bits_value-below c.front.result) in
    omega (arith, c.number-rule_id.ensures.value, below)
