use Rattle.std.proofs.Common.{rules, ◌∙◌, ap}
use Rattle.std.proofs.lemmas.Result.{IfOk-weaker}
use Rattle.schc_bits.specs.Bits.{padded, bytes_of}
use Rattle.frag_wire.proofs.WrittenLemmas.{IsWritten-written}
use Rattle.frag_wire.proofs.writing.write.Goals as goal

pub returns-clause-spells : goal.returns-clause-spells
returns-clause-spells c =
    IfOk-weaker c.to_padded_bytes.result _ _
    (λ bytes e. IsWritten-written _ _ _ _ _ c.requires.row c.requires.spelt
    (e ∙ ap (λ bits. bytes_of (padded bits)) (search rules)))
    c.to_padded_bytes.ensures
