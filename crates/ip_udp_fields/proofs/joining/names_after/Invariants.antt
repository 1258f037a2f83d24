use Rattle.std.proofs.Common.{◌≡◌, length}
use Rattle.ip_udp_fields.specs.Join.{names_after}
use Rattle.ip_udp_fields.proofs.joining.names_after.Given as goal

abbrev pub invariant-loop-rest : goal.invariant-loop-rest
invariant-loop-rest l = names_after l.at l.rest ≡ names_after l.at l.fn.names

abbrev pub decreases-loop-rest : goal.decreases-loop-rest
decreases-loop-rest l = length l.rest
