use Rattle.std.proofs.Common.{ap, ◌∙◌}
use Rattle.rcs.specs.Division.{low_bits}
use Rattle.rcs.proofs.TableLemmas.{table-at, steps-divide}
use Rattle.rcs.proofs.words.table_is_right.Goals as goal

pub returns : goal.returns
returns c = λ k h. ap (λ word. low_bits 32 word) (table-at k 0 h) ∙ steps-divide k h
