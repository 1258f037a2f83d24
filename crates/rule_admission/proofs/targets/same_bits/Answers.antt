use Rattle.rule_model.proofs.ResidueLemmas.{same_bits-is}
use Rattle.rule_admission.proofs.targets.same_bits.Goals as goal

pub returns : goal.returns
returns c = same_bits-is _ _ _ c.same.ensures
