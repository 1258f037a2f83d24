-- What a write, and the writing of a whole text, does to what was written, where the sink tells it.
use Rattle.std.specs.Prelude.{◌≡◌, ℕ, ◌<◌, ◌≤◌, List, length, take, Result, Ok, Err}
use Rattle.std.specs.Io.KnownBytes.{Appends, Keeps}
use Rattle.outside.specs.Counting.{Rose}
use Rattle.outside.specs.States.{SinkState}
use Rattle.outside.specs.declared.sinks.Wrote.{Wrote}
use Rattle.outside.specs.declared.sinks.Wrote.TheVariants.{Took, Failed}

-- at `Took n` the first n bytes of the piece were appended, at `Failed` none
abbrev pub Writes : Wrote → List ℕ → SinkState → SinkState → Type 0
Writes (Took n) piece old new = (n ≤ length piece) × Appends old.written new.written (take n piece)
Writes Failed piece old new = Keeps old.written new.written

-- the count of faults rose at `Failed`, and where nothing was taken of a piece that isn't empty
abbrev pub CountsFailedWrite : Wrote → List ℕ → SinkState → SinkState → Type 0
CountsFailedWrite (Took n) piece old new = n ≡ 0 → 0 < length piece → Rose old.faults new.faults
CountsFailedWrite Failed piece old new = Rose old.faults new.faults

-- the text was appended, or, at a fault, the first bytes of it and not all
abbrev pub WritesAll : {E : Type 0} → Result Unit E → List ℕ → SinkState → SinkState → Type 0
WritesAll (Ok done) text old new = Appends old.written new.written text
WritesAll (Err fault) text old new = (n : ℕ) × (n < length text)
    × Appends old.written new.written (take n text)
