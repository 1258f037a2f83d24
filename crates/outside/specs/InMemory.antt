-- The source and the sink in memory.
use Rattle.std.specs.Prelude.{ℕ, ◌-◌, min, Bool, ◌&&◌, ◌==◌, if◌then◌else◌, List, ◌++◌, length}
use Rattle.std.specs.Prelude.{take, drop, nat_lt, Some}
use Rattle.std.specs.List.{list_any}
use Rattle.outside.specs.Counting.{next_count}
use Rattle.outside.specs.States.{SourceState, SinkState}
use Rattle.outside.specs.declared.sources.Read.{Read}
use Rattle.outside.specs.declared.sources.Read.TheVariants as read
use Rattle.outside.specs.declared.sinks.Wrote.{Wrote}
use Rattle.outside.specs.declared.sinks.Wrote.TheVariants as wrote

-- a source: the bytes left, the numbers of the reads that fail, and how many reads and faults there
-- were
pub record SourceData : Type 0 where
  pub left : List ℕ
  pub failing : List ℕ
  pub reads : ℕ
  pub faults : ℕ

-- a sink: the bytes written, how many it can hold, the numbers of the writes that fail, and how
-- many writes and faults there were
pub record SinkData : Type 0 where
  pub written : List ℕ
  pub capacity : ℕ
  pub failing : List ℕ
  pub writes : ℕ
  pub faults : ℕ

-- a source and a sink in memory tell all
abbrev pub source_state : SourceData → SourceState
source_state source = record { left = Some source.left; faults = source.faults }

abbrev pub sink_state : SinkData → SinkState
sink_state sink = record { written = Some sink.written; faults = sink.faults }

-- the call with this number is among those that fail
abbrev pub fails : List ℕ → ℕ → Bool
fails failing number = list_any (λ n. n == number) failing

-- n bytes come from the source, which is at its end where none does
abbrev pub gives : SourceData → ℕ → Read × SourceData
gives source n =
    if n == 0 then (read.End, source) else (read.Got n, record source { left = drop n source.left })

-- one read into room for `size` bytes
abbrev pub read_step : SourceData → ℕ → Read × SourceData
read_step source size =
    let counted = record source { reads = next_count source.reads } in
    if fails source.failing counted.reads
    then (read.Failed, record counted { faults = next_count source.faults })
    else gives counted (min (length source.left) size)

-- the room after a read: the bytes that came, and then what it held
abbrev pub room_after : Read → List ℕ → List ℕ → List ℕ
room_after (read.Got n) left room = take n left ++ drop n room
room_after read.End left room = room
room_after read.Failed left room = room

-- n bytes of the piece go to the sink: to take none of a piece that isn't empty is a fault
abbrev pub takes : SinkData → List ℕ → ℕ → Wrote × SinkData
takes sink piece n = (
  wrote.Took n,
  record sink {
    written = sink.written ++ take n piece;
    faults = if (n == 0) && nat_lt 0 (length piece) then next_count sink.faults else sink.faults;
  },
)

-- one write of a piece, of which the sink takes what still fits
abbrev pub write_step : SinkData → List ℕ → Wrote × SinkData
write_step sink piece =
    let counted = record sink { writes = next_count sink.writes } in
    if fails sink.failing counted.writes
    then (wrote.Failed, record counted { faults = next_count sink.faults })
    else takes counted piece (min (length piece) (sink.capacity - length sink.written))
