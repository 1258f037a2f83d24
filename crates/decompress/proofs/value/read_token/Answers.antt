use Rattle.std.proofs.Common.{◌^◌, ap, min, ◌∙◌}
use Rattle.schc_bits.specs.Bits.{bits_value}
use Rattle.decompress.proofs.TokenLemmas.{taken_at-more}
use Rattle.decompress.proofs.value.read_token.Goals as goal

pub returns-then-left-bytes-clause-err : goal.returns-then-left-bytes-clause-err
returns-then-left-bytes-clause-err c =
    taken_at-more (2 ^ 61) _ c.capped_number-bytes.result c.left.result c.args.reader.now
    (c.capped_number-bytes.ensures
    ∙ ap (λ value. min (bits_value value) (2 ^ 61)) c.value_of.ensures) c.left.ensures
    c.if-left-bytes.true
