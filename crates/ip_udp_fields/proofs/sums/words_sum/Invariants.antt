use Rattle.std.proofs.Common.{◌≡◌, ◌+◌, ◌*◌, ◌≤◌, length, sum}
use Rattle.ip_udp_fields.specs.Checksum.{words}
use Rattle.ip_udp_fields.proofs.sums.words_sum.Given as goal

abbrev pub invariant-loop-rest : goal.invariant-loop-rest
invariant-loop-rest l =
    (l.total + sum (words l.rest) ≡ sum (words l.fn.bytes))
    × (l.total + 65535 * length l.rest ≤ 65535 * length l.fn.bytes)

abbrev pub decreases-loop-rest : goal.decreases-loop-rest
decreases-loop-rest l = length l.rest
