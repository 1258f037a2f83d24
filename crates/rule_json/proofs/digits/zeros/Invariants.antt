use Rattle.std.specs.Prelude.{◌≡◌, ◌≤◌, false, replicate}
use Rattle.rule_json.proofs.digits.zeros.Given as goal

abbrev pub invariant-loop : goal.invariant-loop
invariant-loop l = (l.counter ≤ l.count) × (l.bits ≡ replicate l.counter false)
