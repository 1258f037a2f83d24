use Rattle.script_lang.proofs.SpellingLemmas.{reads-back}
use Rattle.script_lang.proofs.laws.spelling_reads_back.Goals as goal

pub returns : goal.returns
returns c = reads-back
