-- what is written begins with its RuleID
use Rattle.std.proofs.Common.{sym, subst}
use Rattle.std.proofs.lemmas.Result.{IfOk-weaker}
use Rattle.packer.proofs.PackedLemmas.{BeginsWithId, packed-begins}
use Rattle.end_core.proofs.end.End.form_of.Goals as goal

pub returns-clause-begins : goal.returns-clause-begins
returns-clause-begins c =
    IfOk-weaker c.pack.result _ BeginsWithId
    (λ written e. subst BeginsWithId (sym e) (packed-begins _ _ _ _)) c.pack.ensures.as_packed
