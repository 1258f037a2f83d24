-- every event keeps what the laws of lanes need
use Rattle.two_ends.proofs.HeadlineLemmas.{headline}
use Rattle.two_ends.proofs.laws.headline.Goals as goal

pub returns : goal.returns
returns c params events fits = headline params events fits
