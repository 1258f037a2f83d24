-- No condition of two lists holds.
use Rattle.std.specs.Prelude.{◌≡◌, Bool, true, false, List, [], ◌∷◌, ◌++◌, None}
use Rattle.std.proofs.Common.{refl}
use Rattle.rule_model.specs.First.{first_held}

-- where no condition of the two lists together holds, none of either holds
pub append-none : {A : Type 0} (these those : List (Bool × A)) → first_held (these ++ those) ≡ None
    → (first_held these ≡ None) × (first_held those ≡ None)
append-none [] those h = (refl, h)
append-none ((true, x) ∷ these) those h = absurd (cc)
append-none ((false, x) ∷ these) those h = append-none these those h
