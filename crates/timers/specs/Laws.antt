-- What holds of the timers of every set.
use Rattle.std.specs.Prelude.{ℕ, zero, suc, ◌≡◌, ◌<◌, ◌≤◌, ◌↔◌, ◌≢◌, true, false, Option, None}
use Rattle.std.specs.Prelude.{Some, List, length, slice_index_or, slice_set}
use Rattle.timers.specs.Timers.{is_due, tick_step, first_due, without}

-- so many ticks pass
abbrev pub ticks_pass : ℕ → List (Option ℕ) → List (Option ℕ)
ticks_pass zero timers = timers
ticks_pass (suc n) timers = ticks_pass n (tick_step timers)

-- a timer armed with t is due after n ticks exactly where n is at least t
abbrev pub DueAtItsTick : Type 0
DueAtItsTick =
    (timers : List (Option ℕ)) (key t n : ℕ) → key < length timers →
    (is_due (slice_index_or (ticks_pass n (slice_set timers key (Some t))) key None) ≡ true) ↔
    (t ≤ n)

-- the key that is taken out is due, and none below it is
abbrev pub TakesTheLowest : Type 0
TakesTheLowest =
    (timers : List (Option ℕ)) (key : ℕ) → first_due timers ≡ Some key →
    (is_due (slice_index_or timers key None) ≡ true) ×
    ((lower : ℕ) → lower < key → is_due (slice_index_or timers lower None) ≡ false)

-- where none is taken out, none is due
abbrev pub NoneIsDue : Type 0
NoneIsDue =
    (timers : List (Option ℕ)) → first_due timers ≡ None →
    (key : ℕ) → is_due (slice_index_or timers key None) ≡ false

-- a key that was taken out or cancelled isn't due, and each other key is as before
abbrev pub WithoutOne : Type 0
WithoutOne =
    (timers : List (Option ℕ)) (key other : ℕ) →
    (is_due (slice_index_or (without timers (Some key)) key None) ≡ false) ×
    (other ≢ key
    → slice_index_or (without timers (Some key)) other None ≡ slice_index_or timers other None)
