use Rattle.std.proofs.Common.{◌≡◌, ◌-◌, ◌≤◌, ◌^◌, ◌<◌, take, drop}
use Rattle.schc_bits.specs.Bits.{bits_value, octets}
use Rattle.frag_wire.proofs.fields.number_in.Given as goal

-- the number of the bits that were passed
abbrev pub invariant-loop-passed : goal.invariant-loop-passed
invariant-loop-passed l =
    (l.passed ≤ l.count) × (l.number ≡ bits_value (take l.passed (drop l.from (octets l.bytes))))
    × (l.number < 2 ^ l.passed)

abbrev pub decreases-loop-passed : goal.decreases-loop-passed
decreases-loop-passed l = l.count - l.passed
