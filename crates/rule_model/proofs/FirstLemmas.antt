-- The first of a list of conditions that holds.
use Rattle.std.specs.Prelude.{◌≡◌, Bool, true, false, List, [], ◌∷◌, ◌++◌, Some, None}
use Rattle.std.specs.List.{AllByRecursion}
use Rattle.std.proofs.Common.{refl, sym}
use Rattle.std.proofs.lemmas.Bool.{false≢true}
use Rattle.rule_model.specs.First.{first_held}

-- where a condition of the first list holds, what comes behind the list changes nothing
pub first_held-append_some : {A : Type 0} (these those : List (Bool × A)) (found : A)
    → first_held these ≡ Some found → first_held (these ++ those) ≡ Some found
first_held-append_some [] those found e = absurd (cc)
first_held-append_some ((true, x) ∷ these) those found e = e
first_held-append_some ((false, x) ∷ these) those found e =
    first_held-append_some these those found e

-- where no condition of the first list holds, the answer is that of the second
pub first_held-append_none : {A : Type 0} (these those : List (Bool × A)) → first_held these ≡ None
    → first_held (these ++ those) ≡ first_held those
first_held-append_none [] those e = refl
first_held-append_none ((true, x) ∷ these) those e = absurd (cc)
first_held-append_none ((false, x) ∷ these) those e = first_held-append_none these those e

-- no condition of the first list holds
pub first_held-front : {A : Type 0} (these those : List (Bool × A))
    → first_held (these ++ those) ≡ None → first_held these ≡ None
first_held-front [] those e = refl
first_held-front ((true, x) ∷ these) those e = absurd (cc)
first_held-front ((false, x) ∷ these) those e = first_held-front these those e

-- where the answer is none, no condition holds
pub first_held-none : {A : Type 0} (conditions : List (Bool × A)) → first_held conditions ≡ None
    → AllByRecursion (λ (c : Bool × A). c.0 ≡ false) conditions
first_held-none [] e = tt
first_held-none ((true, x) ∷ conditions) e = absurd (cc)
first_held-none ((false, x) ∷ conditions) e = (refl, first_held-none conditions e)

-- where no condition holds, the answer is none
pub first_held-from_none : {A : Type 0} (conditions : List (Bool × A))
    → AllByRecursion (λ (c : Bool × A). c.0 ≡ false) conditions → first_held conditions ≡ None
first_held-from_none [] h = refl
first_held-from_none ((true, x) ∷ conditions) h = absurd (false≢true (sym h.0))
first_held-from_none ((false, x) ∷ conditions) h = first_held-from_none conditions h.1
