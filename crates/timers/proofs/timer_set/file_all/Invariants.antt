use Rattle.std.proofs.Common.{ℕ, ◌≡◌, ◌<◌, length}
use Rattle.timers.specs.Wheel.{IsKeyFiled}
use Rattle.timers.proofs.timer_set.file_all.Given as goal

-- the keys up to here are filed
abbrev pub invariant-loop-key : goal.invariant-loop-key
invariant-loop-key l =
    (length l.due ≡ length l.fn.due)
    × (length l.lists ≡ length l.fn.lists)
    × ((k : ℕ) → k < l.key → IsKeyFiled l.now 4 l.deadlines l.due l.lists k)
