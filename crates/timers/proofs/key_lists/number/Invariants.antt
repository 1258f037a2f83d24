use Rattle.std.proofs.Common.{ℕ, ◌≡◌, ◌<◌, length}
use Rattle.timers.specs.KeyLists.{at_node}
use Rattle.timers.proofs.key_lists.number.Given as goal

-- the places up to here have their numbers
abbrev pub invariant-loop-i : goal.invariant-loop-i
invariant-loop-i l = (length l.list ≡ length l.fn.list) × ((x : ℕ) → x < l.i → at_node l.list x ≡ x)
