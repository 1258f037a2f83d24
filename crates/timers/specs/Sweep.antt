-- Taking out what is due, key by key, in a layer that keeps more than the timers.
use Rattle.std.specs.Prelude.{ℕ, zero, suc, ◌≡◌, ◌≢◌, Bool, true, false, Option, None, List}
use Rattle.std.specs.Prelude.{slice_index_or}
use Rattle.timers.specs.Timers.{is_due}

-- what the layer does at a key: it fires where the timer is due
abbrev pub met : {S : Type 0} → (ℕ → S → S) → ℕ → S → Bool → S
met fire key s true = fire key s
met fire key s false = s

-- whether the timer of the key is due, where `lefts` are the timers of the layer
abbrev pub due_at : {S : Type 0} → (S → List (Option ℕ)) → ℕ → S → Bool
due_at lefts key s = is_due (slice_index_or (lefts s) key None)

-- n keys from `at` on are met, each once and in ascending order
abbrev pub sweep : {S : Type 0} → (S → List (Option ℕ)) → (ℕ → S → S) → ℕ → ℕ → S → S
sweep lefts fire zero at s = s
sweep lefts fire (suc n) at s = sweep lefts fire n (suc at) (met fire at s (due_at lefts at s))

-- firing leaves its own key not due, and makes no other key due
pub record Settles {S : Type 0} (lefts : S → List (Option ℕ)) (fire : ℕ → S → S) : Type 0 where
  pub own : (key : ℕ) (s : S) → due_at lefts key (fire key s) ≡ false
  pub others : (key other : ℕ) (s : S) → other ≢ key
      → due_at lefts other (fire key s) ≡ due_at lefts other s
