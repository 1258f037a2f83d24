use Rattle.ip_udp_fields.proofs.SplitLemmas.{refuses-exactly}
use Rattle.ip_udp_fields.proofs.laws.split_refuses_exactly.Goals as goal

pub returns : goal.returns
returns c = refuses-exactly
