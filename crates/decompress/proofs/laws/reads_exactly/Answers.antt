use Rattle.decompress.proofs.LawLemmas.{reads_exactly as exact}
use Rattle.decompress.proofs.laws.reads_exactly.Goals as goal

pub returns : goal.returns
returns c rule iids direction fields bits rest admitted =
    exact rule iids direction fields bits rest admitted
