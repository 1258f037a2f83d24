use Rattle.ip_udp_fields.proofs.SplitLemmas.{one-split}
use Rattle.ip_udp_fields.proofs.laws.joined_then_split.Goals as goal

pub returns : goal.returns
returns c = one-split
