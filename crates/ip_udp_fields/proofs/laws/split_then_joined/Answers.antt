use Rattle.ip_udp_fields.proofs.SplitLemmas.{joins-again, one_packet}
use Rattle.ip_udp_fields.proofs.laws.split_then_joined.Goals as goal

pub returns-clause-joins : goal.returns-clause-joins
returns-clause-joins c = joins-again

pub returns-clause-one : goal.returns-clause-one
returns-clause-one c = one_packet
