use Rattle.std.proofs.Common.{◌≡◌, ℕ, take, is_some, IfSome}
use Rattle.std.specs.List.{list_any}
use Rattle.std.specs.Ordering.{nat_cmp}
use Rattle.std.specs.BTreeMap.{get}
use Rattle.editions.specs.Keys.{wants_only, ids_wanting}
use Rattle.editions.proofs.tables.rows.Given as goal

-- beside each key stand the RuleIDs of those that take it, and the keys are those that the
-- candidates passed ask for
abbrev pub invariant-loop-candidate : goal.invariant-loop-candidate
invariant-loop-candidate l =
    ((key : ℕ) → IfSome (get nat_cmp l.rows key) (λ ids. ids.items ≡ ids_wanting key l.these))
    × ((key : ℕ)
    → is_some (get nat_cmp l.rows key) ≡ list_any (λ c. wants_only key c.wanted)
    (take l.candidate-index l.these))
