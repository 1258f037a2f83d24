use Rattle.std.proofs.Common.{◌≡◌, ◌++◌, ◌+◌, ◌-◌, ◌*◌, length, map, vec_len}
use Rattle.std.specs.List.{AllByRecursion}
use Rattle.gw_top.specs.Groups.{joined, IsEven}
use Rattle.gw_top.proofs.GroupLemmas.{now_of}
use Rattle.gw_top.proofs.groups.groups.Given as goal

-- the groups so far and what is left are the devices, and what is left is enough for the other
-- groups
abbrev pub invariant-loop-place : goal.invariant-loop-place
invariant-loop-place l =
    (joined (map now_of l.groups.items) ++ l.left ≡ l.devices)
    × (vec_len l.groups ≡ l.place)
    × AllByRecursion (λ group. IsEven l.size group.now) l.groups.items
    × (length l.left ≡ (l.workers - l.place) * l.size + (l.longer - l.place))
