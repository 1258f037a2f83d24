-- What `run` answers, and what it did to its source and its sink.
use Rattle.std.specs.Prelude.{◌≡◌, ◌↔◌, ℕ, ◌+◌, ◌<◌, ◌≤◌, ◌⊎◌, nat_lt, if◌then◌else◌, Bool, true}
use Rattle.std.specs.Prelude.{false, List, [], length, take, map, String, string_bytes, Option}
use Rattle.std.specs.Prelude.{Some, None, Result, Ok, Err, Vec}
use Rattle.std.specs.Io.KnownBytes.{Consumes, Appends, IsAtEnd}
use Rattle.outside.specs.Counting.{Rose}
use Rattle.outside.specs.States.{SourceState, SinkState}
use Rattle.outside.specs.Reading.{HasMore, ReadsAll, CountsFailedReading}
use Rattle.outside.specs.declared.loops.ReadAllFault.{ReadAllFault}
use Rattle.schc_ids.specs.Limits.{max_input}
use Rattle.rule_model.specs.declared.finding.Finding.{Finding}
use Rattle.rule_commands.specs.OutputData.{OutputData}
use Rattle.script_lang.specs.ScriptData.{ScriptData}
use Rattle.script_lang.specs.Parsing.{ParsesTo}
use Rattle.gw_top.specs.Run.{run_of, printed, IsSafeRun}
use Rattle.load_maker.specs.Load.{load}
use Rattle.gw_top.specs.Output.{output_of, load_line}
use Rattle.gw_top.specs.Words.{command_of, reads_input}
use Rattle.gw_top.specs.declared.words.Command.{Command}
use Rattle.gw_top.specs.declared.words.Command.TheVariants.{Check, Pack, Unpack, Sim, Load}
use Rattle.script_lang.specs.declared.parsing.Counted.{Counted}
use Rattle.script_lang.specs.declared.parsing.Counted.TheVariants.{Bytes}
use Rattle.script_lang.specs.declared.parsing.ScriptFault.{ScriptFault}
use Rattle.script_lang.specs.declared.parsing.ScriptFault.TheVariants.{BadLine, TooMany, Memory}
use Rattle.gw_top.specs.declared.status.Status.{Status}
use Rattle.gw_top.specs.declared.status.Status.TheVariants as status

-- what a call of `run` was given, and what it left: its words, and its source and its sink, each
-- before and after
pub record Call : Type 0 where
  pub words : List (List ℕ)
  pub source : SourceState
  pub source_after : SourceState
  pub sink : SinkState
  pub sink_after : SinkState

-- a call with these words
abbrev pub call : {Z : Type 0} → List (String Z) → SourceState → SourceState → SinkState → SinkState
    → Call
call words source source_after sink sink_after =
    record {
      words = map string_bytes words;
      source = source;
      source_after = source_after;
      sink = sink;
      sink_after = sink_after;
    }

-- the words name a command that reads its input
pub record ReadsInput (call : Call) : Type 0 where
  pub command : Command
  pub named : command_of call.words ≡ Ok command
  pub reads : reads_input command ≡ true

-- the source was read to its end, and this text, which is within the limit, is what it had
pub record IsRead (call : Call) (text : List ℕ) : Type 0 where
  pub consumed : Consumes call.source.left call.source_after.left text
  pub ended : IsAtEnd call.source_after.left
  pub within : length text ≤ max_input

-- the input of a command: all that the source had, where the command reads; else no bytes, and the
-- source is as before
abbrev pub IsInput : Bool → Call → List ℕ → Type 0
IsInput true call text = IsRead call text
IsInput false call text = (text ≡ []) × (call.source_after ≡ call.source)

-- what `input_of` answers: the reading of the whole source; or no bytes and never a fault, where
-- the command doesn't read
abbrev pub GivesInput : {A : Type 0} → Bool → Result (Vec ℕ A) ReadAllFault → SourceState
    → SourceState → Type 0
GivesInput true result old new = ReadsAll result max_input old new
    × CountsFailedReading result old new
GivesInput false (Ok text) old new = (text.items ≡ []) × (new ≡ old)
GivesInput false (Err _) old new = ⊥

-- the words name a command, which has this input, and this is what it makes of it
pub record IsOutputOf (call : Call) (output : OutputData) : Type 0 where
  pub command : Command
  pub named : command_of call.words ≡ Ok command
  pub text : List ℕ
  pub input : IsInput (reads_input command) call text
  pub means : output_of command text ≡ Ok output

-- the source was read to its end, the command makes this of the text without a finding, and all of
-- it was written
pub record WritesAll (command : Command) (call : Call) : Type 0 where
  pub text : List ℕ
  pub read : IsRead call text
  pub output : OutputData
  pub means : output_of command text ≡ Ok output
  pub no_finding : output.refused ≡ None
  pub written : Appends call.sink.written call.sink_after.written output.text

-- the source was read to its end, its text is a script, the print of the script's run was written,
-- and that run is safe
pub record IsSimulated (call : Call) : Type 0 where
  pub text : List ℕ
  pub read : IsRead call text
  pub script : ScriptData
  pub parses : ParsesTo text script
  pub written : Appends call.sink.written call.sink_after.written (printed script (run_of script))
  pub safe : IsSafeRun script

-- nothing was read, the line of the run of the script that the load makes was written, and that run
-- is safe
pub record IsLoaded (devices start : ℕ) (call : Call) : Type 0 where
  pub source : call.source_after ≡ call.source
  pub written : Appends call.sink.written call.sink_after.written (load_line (load devices start))
  pub safe : IsSafeRun (load devices start)

-- what holds where a command ends with `Ok`
abbrev pub Completes : Command → Call → Type 0
Completes Check call = WritesAll Check call
Completes Pack call = WritesAll Pack call
Completes Unpack call = WritesAll Unpack call
Completes (Sim workers) call = IsSimulated call
Completes (Load devices start workers) call = IsLoaded devices start call

-- the words name a command, which is done
pub record IsDone (call : Call) : Type 0 where
  pub command : Command
  pub named : command_of call.words ≡ Ok command
  pub completes : Completes command call

-- the command ends without a finding, and the first bytes of what it prints were written, and not
-- all
pub record WritesFront (call : Call) : Type 0 where
  pub output : OutputData
  pub its_output : IsOutputOf call output
  pub no_finding : output.refused ≡ None
  pub size : ℕ
  pub not_all : size < length output.text
  pub written : Appends call.sink.written call.sink_after.written (take size output.text)

-- the command ends with this finding, and what it prints up to there was written: all of it, or the
-- first bytes where a write failed
pub record IsRefused (call : Call) (finding : Finding) : Type 0 where
  pub output : OutputData
  pub its_output : IsOutputOf call output
  pub the_finding : output.refused ≡ Some finding
  pub size : ℕ
  pub all_or_fault : (length output.text ≤ size) ⊎ Rose call.sink.faults call.sink_after.faults
  pub written : Appends call.sink.written call.sink_after.written (take size output.text)

-- the words name a command, which has this input, and by this fault the text is no input for it
pub record IsNoInput (call : Call) (fault : ScriptFault) : Type 0 where
  pub command : Command
  pub named : command_of call.words ≡ Ok command
  pub text : List ℕ
  pub input : IsInput (reads_input command) call text
  pub no_output : output_of command text ≡ Err fault

-- the source has more bytes than the limit, of which one more than the limit was read
pub record IsTooLong (call : Call) : Type 0 where
  pub more : HasMore call.source.left max_input
  pub front : List ℕ
  pub one_more : length front ≡ max_input + 1
  pub consumed : Consumes call.source.left call.source_after.left front

-- what is counted is the bytes of the source, of which it has too many, or the devices or events of
-- a script, of which a line makes one too many, where no earlier line is outside the grammar
abbrev pub IsPastLimit : Counted → ℕ → Call → Type 0
IsPastLimit counted number call =
    ((counted ≡ Bytes) × (number ≡ max_input + 1) × ReadsInput call × IsTooLong call)
    ⊎ IsNoInput call (TooMany counted number)

-- no more than this number of bytes was read, the first ones, and the sink is as it was
pub record ReadsFront (call : Call) (most : ℕ) : Type 0 where
  pub front : List ℕ
  pub within : length front ≤ most
  pub consumed : Consumes call.source.left call.source_after.left front
  pub sink : call.sink_after ≡ call.sink

-- the most bytes that are read, by whether the command reads its input
abbrev pub most_read : Bool → ℕ
most_read true = max_input + 1
most_read false = 0

-- the source is as it was, where the command reads no input
abbrev pub LeavesUnread : Bool → SourceState → SourceState → Type 0
LeavesUnread true old new = Unit {0}
LeavesUnread false old new = new ≡ old

-- the words name a command, of whose input no more was read than it may, and the sink is as it was
pub record LacksMemory (call : Call) : Type 0 where
  pub command : Command
  pub named : command_of call.words ≡ Ok command
  pub front : ReadsFront call (most_read (reads_input command))
  pub unread : LeavesUnread (reads_input command) call.source call.source_after

-- nothing was read, and nothing was written
pub record TouchesNothing (call : Call) : Type 0 where
  pub source : call.source_after ≡ call.source
  pub sink : call.sink_after ≡ call.sink

-- what each status says of the call
abbrev pub Answers : Status → Call → Type 0
Answers status.Ok call = IsDone call
Answers (status.Refused finding) call = IsRefused call finding
Answers (status.Usage place) call = (command_of call.words ≡ Err place) × TouchesNothing call
Answers (status.BadInput line) call =
    IsNoInput call (BadLine line) × (call.sink_after ≡ call.sink)
Answers status.ReadFault call =
    ReadsInput call × Rose call.source.faults call.source_after.faults × ReadsFront call max_input
Answers status.WriteFault call = Rose call.sink.faults call.sink_after.faults × WritesFront call
Answers status.Memory call = LacksMemory call
Answers (status.Limit counted number) call =
    IsPastLimit counted number call × (call.sink_after ≡ call.sink)

-- the status for what a command makes of its input, want of memory and faults aside
abbrev pub status_with : Option Finding → Status
status_with None = status.Ok
status_with (Some finding) = status.Refused finding

-- the status for an input that is none for its command
abbrev pub fault_status : ScriptFault → Status
fault_status (BadLine line) = status.BadInput line
fault_status (TooMany counted number) = status.Limit counted number
fault_status Memory = status.Memory

-- the status for what a command makes of its input, or for why it is none
abbrev pub status_of : Result OutputData ScriptFault → Status
status_of (Ok output) = status_with output.refused
status_of (Err fault) = fault_status fault

-- the same for a text, by its length first
abbrev pub expected : Command → List ℕ → Status
expected command text =
    if nat_lt max_input (length text) then status.Limit Bytes (max_input + 1) else status_of
    (output_of command text)

-- what completeness asks of the source: that it tells its text and no call failed; where the
-- command doesn't read, nothing
abbrev pub IsGiven : Bool → Call → List ℕ → Type 0
IsGiven true call text = (call.source.left ≡ Some text)
    × (¬ (Rose call.source.faults call.source_after.faults))
IsGiven false call text = text ≡ []

-- where the words name a command, which is given its input, and no call of the sink failed, the
-- status is the one for that input, want of memory aside
abbrev pub IsComplete : Status → Call → Type 0
IsComplete answer call =
    (command : Command) (text : List ℕ) → command_of call.words ≡ Ok command
    → IsGiven (reads_input command) call text →
    ¬ (Rose call.sink.faults call.sink_after.faults) →
    (answer ≡ status.Memory) ⊎ (answer ≡ expected command text)

-- the place of the first word outside the grammar is answered exactly where there is one
abbrev pub IsUsage : {Z : Type 0} → Status → List (String Z) → Type 0
IsUsage answer words = (place : ℕ)
    → (answer ≡ status.Usage place) ↔ (command_of (map string_bytes words) ≡ Err place)
