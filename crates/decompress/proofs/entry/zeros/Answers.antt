use Rattle.std.proofs.Common.{◌≡◌, Bool, false, List, ap, ◌∙◌}
use Rattle.std.specs.Prelude.{replicate}
use Rattle.std.proofs.lemmas.Result.{IfOk-weaker}
use Rattle.schc_bits.specs.Bits.{number_bits}
use Rattle.schc_bits.proofs.NumberBits.{number_bits-zero}
use Rattle.decompress.proofs.entry.zeros.Goals as goal

pub returns : goal.returns
returns c =
    IfOk-weaker c.from_number.result (λ (bits : List Bool). bits ≡ number_bits c.from.result 0)
    (λ (bits : List Bool). bits ≡ replicate c.args.count false)
    (λ bits e. e ∙ number_bits-zero c.from.result ∙ ap (λ n. replicate n false) c.from.ensures)
    c.from_number.ensures
