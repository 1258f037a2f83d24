use Rattle.std.proofs.Common.{ap, refl, ◌∙◌}
use Rattle.rcs.specs.Words.{byte_step}
use Rattle.rcs.proofs.TableLemmas.{table-step}
use Rattle.rcs.proofs.words.next_word.Goals as goal

pub returns : goal.returns
returns c = table-step c.args.word c.from.result _ refl
    ∙ ap (λ byte. byte_step c.args.word byte) c.from.ensures
