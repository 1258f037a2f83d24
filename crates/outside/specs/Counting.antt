-- Counts of faults and of calls, which stand still at 2^64 - 1.
use Rattle.std.specs.Prelude.{◌≡◌, ℕ, ◌+◌, ◌-◌, ◌^◌, ◌<◌, ◌⊎◌, min}

-- a count has risen, where one that stands at its greatest number counts as risen
abbrev pub Rose : ℕ → ℕ → Type 0
Rose old new = (old < new) ⊎ (new ≡ 2 ^ 64 - 1)

-- a count that stands at its greatest number stays there
abbrev pub StaysAtEnd : ℕ → ℕ → Type 0
StaysAtEnd old new = old ≡ 2 ^ 64 - 1 → new ≡ 2 ^ 64 - 1

-- a count after one more
abbrev pub next_count : ℕ → ℕ
next_count count = min (count + 1) (2 ^ 64 - 1)
