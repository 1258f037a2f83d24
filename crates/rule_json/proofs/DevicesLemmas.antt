-- Lists that aren't four timers.
use Rattle.std.proofs.Common.{◌≡◌, ◌+◌, ◌<◌, ◌≤◌, List, [], ◌∷◌, length, map, Option, Some, None}
use Rattle.std.proofs.Common.{refl, arith}
use Rattle.serde_json.specs.View.{view, items_view}
use Rattle.serde_json.specs.declared.value.Value.{Value}
use Rattle.rule_json.specs.Devices.{timers_from}

-- a list of fewer than four values isn't read as timers
pub timers-few : (vs : List Value) → length vs < 4 → timers_from (items_view vs) ≡ None
unfolding timers_from
timers-few [] h = refl
timers-few (a ∷ []) h = refl
timers-few (a ∷ b ∷ []) h = refl
timers-few (a ∷ b ∷ c ∷ []) h = refl
timers-few (a ∷ b ∷ c ∷ d ∷ vs) h = absurd (omega (arith, h))

-- a list of more than four values isn't read as timers
pub timers-many : (vs : List Value) → 4 < length vs → timers_from (items_view vs) ≡ None
unfolding timers_from
timers-many [] h = absurd (omega (arith, h))
timers-many (a ∷ []) h = absurd (omega (arith, h))
timers-many (a ∷ b ∷ []) h = absurd (omega (arith, h))
timers-many (a ∷ b ∷ c ∷ []) h = absurd (omega (arith, h))
timers-many (a ∷ b ∷ c ∷ d ∷ []) h = absurd (omega (arith, h))
timers-many (a ∷ b ∷ c ∷ d ∷ e ∷ vs) h = refl
