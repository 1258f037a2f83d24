use Rattle.std.proofs.Common.{◌≡◌, ◌+◌, drop, length}
use Rattle.compress.specs.Turns.{joined}
use Rattle.compress.proofs.length.entries_len.Given as goal

abbrev pub invariant-loop-entry : goal.invariant-loop-entry
invariant-loop-entry l =
    l.total + length (joined l.direction l.fields.items (drop l.entry-index l.entries)) ≡ length
    (joined l.direction l.fields.items l.fn.entries)
