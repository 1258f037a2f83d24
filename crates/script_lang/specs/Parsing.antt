-- What the text of a script means: the script that it is, or its first line that is outside the
-- grammar or past a limit.
use Rattle.std.specs.Prelude.{◌≡◌, ℕ, ◌+◌, nat_lt, if◌then◌else◌, List, [], ◌∷◌, ◌++◌, length}
use Rattle.std.specs.Prelude.{Option, Some, None, Result, Ok}
use Rattle.std.specs.Prelude.{Err}
use Rattle.script_lang.specs.Text.{lines_of}
use Rattle.script_lang.specs.ScriptData.{ScriptData}
use Rattle.script_lang.specs.Ranges.{max_devices, max_events}
use Rattle.script_lang.specs.Grammar.{told_by}
use Rattle.script_lang.specs.declared.lines.Told.{Told}
use Rattle.script_lang.specs.declared.lines.Told.TheVariants.{Nothing, Declares, Happens}
use Rattle.script_lang.specs.declared.parsing.Counted.TheVariants.{Devices, Events}
use Rattle.script_lang.specs.declared.parsing.ScriptFault.{ScriptFault}
use Rattle.script_lang.specs.declared.parsing.ScriptFault.TheVariants.{BadLine, TooMany, Memory}

-- the script with what one more line tells, where that isn't one device or one event too many
abbrev pub with_told : ScriptData → Told → Result ScriptData ScriptFault
with_told script Nothing = Ok script
with_told script (Declares device) =
    if nat_lt (length script.devices) max_devices
    then Ok (record script { devices = script.devices ++ device ∷ [] })
    else Err (TooMany Devices (max_devices + 1))
with_told script (Happens event) =
    if nat_lt (length script.events) max_events
    then Ok (record script { events = script.events ++ event ∷ [] })
    else Err (TooMany Events (max_events + 1))

-- goes on with the script so far, where there is one
infixl 10 ◌>>=◌
abbrev pub ◌>>=◌ : Result ScriptData ScriptFault → (ScriptData → Result ScriptData ScriptFault)
    → Result ScriptData ScriptFault
Ok script >>= later = later script
Err fault >>= later = Err fault

-- the script with what the line of this number tells. A blank line or a comment tells `Nothing`; a
-- line of which nothing at all can be told is outside the grammar
abbrev pub with_line : ℕ → ScriptData → Option Told → Result ScriptData ScriptFault
with_line number script None = Err (BadLine number)
with_line number script (Some told) = with_told script told

-- the script with these lines, the first of which has this number; or why not, the earliest line
-- first
abbrev pub with_lines : ℕ → List (List ℕ) → ScriptData → Result ScriptData ScriptFault
with_lines number [] script = Ok script
with_lines number (line ∷ lines) script =
    with_line number script (told_by script.devices line) >>= λ next. with_lines (number + 1) lines
    next

-- the script without devices and events
abbrev pub empty_script : ScriptData
empty_script = record { devices = []; events = [] }

-- the script that a text is, or its first line that is outside the grammar or past a limit; lines
-- are counted from 1. The fault is never `Memory`, of which a text can't tell
abbrev pub script_of : List ℕ → Result ScriptData ScriptFault
script_of text = with_lines 1 (lines_of text) empty_script

-- the text is the script
abbrev pub ParsesTo : List ℕ → ScriptData → Type 0
ParsesTo text script = script_of text ≡ Ok script

-- the answer to a text: the script that it is, or why it is none
abbrev pub IsReadOf : List ℕ → Result ScriptData ScriptFault → Type 0
IsReadOf text (Ok script) = ParsesTo text script
IsReadOf text (Err (BadLine number)) = script_of text ≡ Err (BadLine number)
IsReadOf text (Err (TooMany counted number)) = script_of text ≡ Err (TooMany counted number)
IsReadOf text (Err Memory) = Unit {0}
