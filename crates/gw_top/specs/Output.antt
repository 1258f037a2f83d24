-- What a command makes of its input.
use Rattle.std.specs.Prelude.{ℕ, List, length, Option, Some, None, Result, Ok, Err}
use Rattle.rule_commands.specs.OutputData.{OutputData}
use Rattle.rule_commands.specs.Checking.{check_of}
use Rattle.rule_commands.specs.Packets.{pack_of, unpack_of}
use Rattle.script_lang.specs.ScriptData.{ScriptData}
use Rattle.script_lang.specs.Parsing.{script_of, ParsesTo}
use Rattle.script_lang.specs.declared.parsing.ScriptFault.{ScriptFault}
use Rattle.script_lang.specs.declared.parsing.ScriptFault.TheVariants.{BadLine}
use Rattle.load_maker.specs.Load.{load}
use Rattle.load_totals.specs.Totals.{totals, totals_text}
use Rattle.gw_top.specs.Run.{run_of, printed, IsSafeRun}
use Rattle.gw_top.specs.declared.words.Command.{Command}
use Rattle.gw_top.specs.declared.words.Command.TheVariants.{Check, Pack, Unpack, Sim, Load}

-- the output of `sim`: the print of the script's run, or why the text is no script
abbrev pub simulated : Result ScriptData ScriptFault → Result OutputData ScriptFault
simulated (Ok script) = Ok (record { text = printed script (run_of script); refused = None })
simulated (Err fault) = Err fault

-- the line that `load` prints for a script: its devices and events, and the sums over the lines of
-- its run
abbrev pub load_line : ScriptData → List ℕ
load_line script =
    totals_text (length script.devices) (length script.events) (totals (run_of script).outcomes)

-- the output of `load`
abbrev pub loaded : ℕ → ℕ → OutputData
loaded devices start = record { text = load_line (load devices start); refused = None }

-- the output for a text in which lines are not told apart: where it is outside the grammar, its
-- line is 0
abbrev pub unless_bad : Option OutputData → Result OutputData ScriptFault
unless_bad None = Err (BadLine 0)
unless_bad (Some output) = Ok output

-- the output of the command for an input, or why the input is none for it. How many workers there
-- are makes no difference
unfoldable pub output_of : Command → List ℕ → Result OutputData ScriptFault
output_of Check text = unless_bad (check_of text)
output_of Pack text = unless_bad (pack_of text)
output_of Unpack text = unless_bad (unpack_of text)
output_of (Sim workers) text = simulated (script_of text)
output_of (Load devices start workers) text = Ok (loaded devices start)

-- the headline: the run of the script that `sim` reads, and that of the script that `load` makes,
-- is safe
abbrev pub IsSafeFor : Command → List ℕ → Type 0
IsSafeFor (Sim workers) text = (script : ScriptData) → ParsesTo text script → IsSafeRun script
IsSafeFor (Load devices start workers) text = IsSafeRun (load devices start)
IsSafeFor Check text = Unit {0}
IsSafeFor Pack text = Unit {0}
IsSafeFor Unpack text = Unit {0}
