-- The first place that is due, found from the front on.
use Rattle.std.proofs.Common.{sym, ℕ, ◌≡◌, List, Option}
use Rattle.std.specs.List.{position_from}
use Rattle.std.proofs.lemmas.Iterator.Adapters.{position_from-zero}
use Rattle.timers.specs.Timers.{is_due, first_due}

-- what is found from the front on is the first place
pub first_due-from-zero : (timers : List (Option ℕ))
    → position_from is_due 0 timers ≡ first_due timers
first_due-from-zero timers = sym (position_from-zero is_due timers)
