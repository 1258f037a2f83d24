use Rattle.std.proofs.Common.{◌≡◌, ◌+◌, [], drop}
use Rattle.decompress.specs.Reading.{restore_from}
use Rattle.decompress.proofs.fields.read_fields.Given as goal

abbrev pub invariant-loop-i : goal.invariant-loop-i
invariant-loop-i l =
    restore_from l.iids l.direction (l.i + 1) l.fields.items (drop l.i l.entries)
    l.reader ≡ restore_from l.iids l.direction 1 [] l.fn.entries l.fn.reader
