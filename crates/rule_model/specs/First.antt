-- The first of a list of conditions that holds.
use Rattle.std.specs.Prelude.{Bool, if◌then◌else◌, List, [], ◌∷◌, Option, Some, None}

-- what stands beside the first condition that holds
abbrev pub first_held : {A : Type 0} → List (Bool × A) → Option A
first_held [] = None
first_held (condition ∷ conditions) =
    if condition.0 then Some condition.1 else first_held conditions
