use Rattle.std.proofs.Common.{◌≡◌, ◌-◌, ◌^◌, min, take}
use Rattle.editions.specs.Data.{AreAdmitted}
use Rattle.editions.specs.Follows.{target_octets}
use Rattle.editions.proofs.limits.target_octets.Given as goal

-- the rules passed are counted, and they are admitted
abbrev pub invariant-loop-listed : goal.invariant-loop-listed
invariant-loop-listed l =
    (l.octets ≡ min (target_octets (take l.listed-index l.rules)) (2 ^ 64 - 1))
    × AreAdmitted (take l.listed-index l.rules)
