use Rattle.std.proofs.Common.{◌≤◌, ◌-◌, Bool, List, ◌++◌, take, drop}
use Rattle.schc_bits.specs.Bits.{octets}
use Rattle.rcs.specs.Words.{Sums}
use Rattle.rcs.proofs.register.Register.add.Given as goal

-- the bits up to the place are added
abbrev pub invariant-loop-at : goal.invariant-loop-at
invariant-loop-at l =
    ((bits : List Bool) → Sums l.fn.self bits
    → Sums l.self (bits ++ take (l.at - l.fn.from) (drop l.fn.from (octets l.bytes))))
    × (l.fn.from ≤ l.at)
    × (l.at ≤ l.to)

abbrev pub decreases-loop-at : goal.decreases-loop-at
decreases-loop-at l = l.to - l.at
