use Rattle.std.proofs.Common.{ℕ, ◌≡◌, ◌<◌, ◌≤◌, length}
use Rattle.timers.specs.KeyLists.{at_node}
use Rattle.timers.proofs.key_lists.number_heads.Given as goal

-- the heads up to here have their places
abbrev pub invariant-loop-place : goal.invariant-loop-place
invariant-loop-place l =
    (length l.places ≡ length l.fn.places)
    × ((x : ℕ) → x < l.place → at_node l.places x ≡ x)
    × ((x : ℕ) → 128 ≤ x → at_node l.places x ≡ at_node l.fn.places x)
