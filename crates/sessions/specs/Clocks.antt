-- The timers of an end: one for the session that it sends, and one for each receiver. Each has the
-- ticks that are left, or isn't armed.
use Rattle.std.specs.Prelude.{ℕ, ◌+◌, ◌==◌, Bool, true, false, ◌||◌, if◌then◌else◌, List, Option}
use Rattle.std.specs.Prelude.{Some, None, slice_index_or}
use Rattle.timers.specs.Timers.{ticked, is_due}
use Rattle.sessions.specs.declared.clocks.Clock.{Clock}
use Rattle.sessions.specs.declared.clocks.Clock.TheVariants.{Sending, Answering, Silent}
use Rattle.sessions.specs.declared.clocks.Due.{Due}

pub record ClocksData : Type 0 where
  pub sending : Option ℕ
  pub answering : Option ℕ
  pub silent : Option ℕ

-- the timers of a list, by their keys
abbrev pub clocks_of : List (Option ℕ) → ClocksData
clocks_of timers = record {
  sending = slice_index_or timers 0 None;
  answering = slice_index_or timers 1 None;
  silent = slice_index_or timers 2 None;
}

abbrev pub key_of : Clock → ℕ
key_of Sending = 0
key_of Answering = 1
key_of Silent = 2

unfoldable pub clock_at : ℕ → Clock
clock_at key = if key == 0 then Sending else if key == 1 then Answering else Silent

abbrev pub no_clocks : ClocksData
no_clocks = record { sending = None; answering = None; silent = None }

abbrev pub left_of : Clock → ClocksData → Option ℕ
left_of Sending clocks = clocks.sending
left_of Answering clocks = clocks.answering
left_of Silent clocks = clocks.silent

-- the timer has so many ticks left, or isn't armed
abbrev pub set_clock : Clock → Option ℕ → ClocksData → ClocksData
set_clock Sending left clocks = record clocks { sending = left }
set_clock Answering left clocks = record clocks { answering = left }
set_clock Silent left clocks = record clocks { silent = left }

-- one tick passes
abbrev pub all_ticked : ClocksData → ClocksData
all_ticked clocks =
    record {
      sending = ticked clocks.sending;
      answering = ticked clocks.answering;
      silent =
          ticked clocks.silent;
    }

-- a timer that is due is taken out
unfoldable pub unless_due : Option ℕ → Option ℕ
unless_due left = if is_due left then None else left

abbrev pub cleared : ClocksData → ClocksData
cleared clocks =
    record {
      sending = unless_due clocks.sending;
      answering = unless_due clocks.answering;
      silent =
          unless_due clocks.silent;
    }

-- which timers are due
abbrev pub due_in : ClocksData → Due
due_in clocks =
    record {
      sending = is_due clocks.sending;
      answering = is_due clocks.answering;
      silent =
          is_due clocks.silent;
    }

-- those that were due, and those that are
abbrev pub both : Due → Due → Due
both first second = record {
  sending = first.sending || second.sending;
  answering = first.answering || second.answering;
  silent = first.silent || second.silent;
}

abbrev pub with_clock : Due → Clock → Due
with_clock due Sending = record due { sending = true }
with_clock due Answering = record due { answering = true }
with_clock due Silent = record due { silent = true }

-- how many are due
unfoldable pub one_if : Bool → ℕ
one_if true = 1
one_if false = 0

unfoldable pub count_due : ClocksData → ℕ
count_due clocks =
    one_if (is_due clocks.sending) + (one_if (is_due clocks.answering) + one_if
    (is_due clocks.silent))

-- the first timer that is due
unfoldable pub first_clock : ClocksData → Option Clock
first_clock clocks =
    if is_due clocks.sending then Some Sending
    else if is_due clocks.answering then Some Answering
    else if is_due clocks.silent then Some Silent
    else None

-- the timers without this one
abbrev pub without_clock : Option Clock → ClocksData → ClocksData
without_clock None clocks = clocks
without_clock (Some clock) clocks = set_clock clock None clocks
