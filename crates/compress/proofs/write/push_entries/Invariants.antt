use Rattle.std.proofs.Common.{◌≡◌, ◌++◌, drop}
use Rattle.compress.specs.Turns.{KeepsFront, TurnsHold, joined}
use Rattle.compress.proofs.write.push_entries.Given as goal

abbrev pub invariant-loop-entry : goal.invariant-loop-entry
invariant-loop-entry l = record {
  so_far : l.out ++ joined l.direction l.fields.items
      (drop l.entry-index l.entries) ≡ l.fn.out ++ joined l.direction l.fields.items l.fn.entries;
  hold : TurnsHold l.direction l.fields.items (drop l.entry-index l.entries);
  front : KeepsFront l.fn.out l.out;
}
