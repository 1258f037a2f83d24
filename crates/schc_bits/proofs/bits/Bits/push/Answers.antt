use Rattle.std.proofs.Common.{◌≡◌, ◌∙◌, ◌∷◌, [], ap}
use Rattle.schc_bits.specs.Bits.{number_bits}
use Rattle.schc_bits.proofs.NumberBits.{number_bits-bit}
use Rattle.schc_bits.proofs.bits.Bits.push.Goals as goal

pub returns-clause-ok : goal.returns-clause-ok
returns-clause-ok c =
    let one : number_bits 1 c.from.result ≡ c.args.bit ∷ [] =
    ap (λ n. number_bits 1 n) c.from.ensures ∙ number_bits-bit c.args.bit in
    rw one at c.push_bits.ensures.ok
