use Rattle.std.proofs.Common.{◌≡◌, ◌-◌, ◌^◌, min, take, sum_by}
use Rattle.editions.specs.Follows.{entry_octets}
use Rattle.editions.proofs.limits.rule_octets.Given as goal

-- the entries passed are counted
abbrev pub invariant-loop-entry : goal.invariant-loop-entry
invariant-loop-entry l =
    l.octets ≡ min (sum_by entry_octets (take l.entry-index l.entry-items)) (2 ^ 64 - 1)
