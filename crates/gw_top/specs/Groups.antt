-- Devices shared out among workers.
use Rattle.std.specs.Prelude.{◌≡◌, ℕ, ◌+◌, ◌≤◌, List, [], ◌∷◌, ◌++◌, length, map, Option, Some}
use Rattle.std.specs.Prelude.{None, option_map, Result, Ok, Err, IfOk, Vec}
use Rattle.rule_model.specs.declared.raw.DeviceLine.{DeviceLine}
use Rattle.event_data.specs.declared.outcomes.Line.{Line}

-- the groups, one after the other
abbrev pub joined : {A : Type 0} → List (List A) → List A
joined [] = []
joined (group ∷ groups) = group ++ joined groups

-- a group has so many devices, or one more
abbrev pub IsEven : ℕ → List DeviceLine → Type 0
IsEven size group = (size ≤ length group) × (length group ≤ size + 1)

-- a worker made the share of each device of its group, if memory was there
abbrev pub IsShared : {A E : Type 0} → (DeviceLine → ℕ × List Line) → List DeviceLine
    → Result (Vec (ℕ × List Line) A) E → Type 0
IsShared share group made = IfOk made (λ shares. shares.items ≡ map share group)

-- the shares of all groups, one after the other; none where one of them lacked memory
abbrev pub shares_in : {A E : Type 0} → List (Result (Vec (ℕ × List Line) A) E)
    → Option (List (ℕ × List Line))
shares_in [] = Some []
shares_in (Ok shares ∷ made) = option_map (λ others. shares.items ++ others) (shares_in made)
shares_in (Err fault ∷ made) = None
