-- Timers as a list with a place for each key: the ticks that are left of an armed timer, and none
-- where no timer is armed.
use Rattle.std.specs.Prelude.{ℕ, ◌-◌, Bool, false, ◌==◌, Option, None, Some, List, map, position}
use Rattle.std.specs.Prelude.{slice_set}

-- one tick passes: what is due stays due
abbrev pub ticked : Option ℕ → Option ℕ
ticked None = None
ticked (Some left) = Some (left - 1)

-- no ticks are left
abbrev pub is_due : Option ℕ → Bool
is_due None = false
is_due (Some left) = left == 0

-- one tick passes at each key
abbrev pub tick_step : List (Option ℕ) → List (Option ℕ)
tick_step timers = map ticked timers

-- the lowest key whose timer is due
abbrev pub first_due : List (Option ℕ) → Option ℕ
first_due timers = position is_due timers

-- the timers where that of a key, if one is named, is no longer armed; at a key out of range
-- nothing changes
abbrev pub without : List (Option ℕ) → Option ℕ → List (Option ℕ)
without timers None = timers
without timers (Some key) = slice_set timers key None
