-- What a read, and the reading of a whole source, does to what is left, where the source tells it.
use Rattle.std.specs.Prelude.{◌≡◌, ℕ, ◌+◌, ◌<◌, ◌≤◌, List, length, take, Option, None, Some, Result}
use Rattle.std.specs.Prelude.{Ok, Err, Vec}
use Rattle.std.specs.Io.KnownBytes.{Consumes, Keeps, IsAtEnd}
use Rattle.outside.specs.Counting.{Rose}
use Rattle.outside.specs.States.{SourceState}
use Rattle.outside.specs.declared.sources.Read.{Read}
use Rattle.outside.specs.declared.sources.Read.TheVariants.{Got, End, Failed}
use Rattle.outside.specs.declared.loops.ReadAllFault.{ReadAllFault}
use Rattle.outside.specs.declared.loops.ReadAllFault.TheVariants.{Fault, TooLong, Memory}

-- at `Got n` the first n bytes of the room, one at least, are the next n bytes; at `End` nothing is
-- left; and at `End` and `Failed` what is left stays
abbrev pub Reads : Read → List ℕ → SourceState → SourceState → Type 0
Reads (Got n) room old new = (1 ≤ n) × (n ≤ length room) × Consumes old.left new.left (take n room)
Reads End room old new = Keeps old.left new.left × IsAtEnd new.left
Reads Failed room old new = Keeps old.left new.left

-- at `Failed` the count of faults rose
abbrev pub CountsFailedRead : Read → SourceState → SourceState → Type 0
CountsFailedRead (Got n) old new = Unit {0}
CountsFailedRead End old new = Unit {0}
CountsFailedRead Failed old new = Rose old.faults new.faults

-- where the source tells, these bytes are all that it has
abbrev pub IsContent : Option (List ℕ) → List ℕ → Type 0
IsContent None bytes = Unit {0}
IsContent (Some left) bytes = left ≡ bytes

-- where the source tells, it has more than this number of bytes
abbrev pub HasMore : Option (List ℕ) → ℕ → Type 0
HasMore None limit = Unit {0}
HasMore (Some left) limit = limit < length left

-- at `Ok` the bytes are all that the source had, at most `limit`, and nothing is left; at `TooLong`
-- it had more than `limit`, and `limit + 1` of them were read; at `Fault` and `Memory` some were
-- read
abbrev pub ReadsAll : {A : Type 0} → Result (Vec ℕ A) ReadAllFault → ℕ → SourceState → SourceState
    → Type 0
ReadsAll (Ok bytes) limit old new =
    (length bytes.items ≤ limit)
    × IsContent old.left bytes.items
    × Consumes old.left new.left bytes.items
    × IsAtEnd new.left
ReadsAll (Err Fault) limit old new = (front : List ℕ) × (length front ≤ limit)
    × Consumes old.left new.left front
ReadsAll (Err TooLong) limit old new =
    HasMore old.left limit
    × ((front : List ℕ) × (length front ≡ limit + 1) × Consumes old.left new.left front)
ReadsAll (Err Memory) limit old new = (front : List ℕ) × (length front ≤ limit + 1)
    × Consumes old.left new.left front

-- at `Fault` the count of faults rose
abbrev pub CountsFailedReading : {T : Type 0} → Result T ReadAllFault → SourceState → SourceState
    → Type 0
CountsFailedReading result old new = result ≡ Err Fault → Rose old.faults new.faults
