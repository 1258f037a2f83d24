use Rattle.std.proofs.Common.{◌≡◌, ◌-◌, ◌^◌, min, take}
use Rattle.editions.specs.Follows.{entry_octets}
use Rattle.editions.proofs.limits.entry_octets.Given as goal

-- the targets passed are counted
abbrev pub invariant-loop-target : goal.invariant-loop-target
invariant-loop-target l =
    l.octets ≡ min (entry_octets (record l.entry { targets = take l.target-index l.target-items }))
    (2 ^ 64 - 1)
