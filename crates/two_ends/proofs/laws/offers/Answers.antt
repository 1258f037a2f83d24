-- it is so in every world that events lead to
use Rattle.two_ends.proofs.OffersLemmas.{run-offers}
use Rattle.two_ends.proofs.laws.offers.Goals as goal

pub returns : goal.returns
returns c params events fits role number = run-offers params events role number fits
