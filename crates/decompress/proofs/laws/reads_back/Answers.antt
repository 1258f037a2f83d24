use Rattle.decompress.proofs.MatchedLemmas.{reads_back as back}
use Rattle.decompress.proofs.laws.reads_back.Goals as goal

pub returns : goal.returns
returns c rule iids direction fields computed rest admitted matches sized =
    back rule iids direction fields computed rest admitted matches sized
