use Rattle.std.proofs.Common.{◌≡◌, ◌≤◌, ◌+◌, length, drop}
use Rattle.std.specs.List.{filter}
use Rattle.rule_commands.proofs.checking.live_rules.Given as goal

-- the rules so far, and those that are left
abbrev pub invariant-loop-listed : goal.invariant-loop-listed
invariant-loop-listed l =
    (l.count ≤ l.listed-index)
    × (l.count + length (filter (λ listed. listed.live) (drop l.listed-index l.rules)) ≡ length
    (filter (λ listed. listed.live) l.rules))
