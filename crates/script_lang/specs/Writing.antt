-- How a script is spelled: its devices with all their options, and then its events, a line each.
use Rattle.std.specs.Prelude.{ℕ, Bool, true, false, List, [], ◌∷◌, ◌++◌, map, codes}
use Rattle.std.specs.Int.{to_be_bytes}
use mir.Syntax.{w64}
use Rattle.std.specs.Fmt.{decimal}
use Rattle.hex.specs.Hex.{encode_lower}
use Rattle.schc_ids.specs.declared.ends.EndParams.{EndParams}
use Rattle.schc_ids.specs.declared.ends.LastTile.{LastTile}
use Rattle.schc_ids.specs.declared.ends.LastTile.TheVariants.{InAll1, InRegular}
use Rattle.schc_ids.specs.declared.ends.TimerTicks.{TimerTicks}
use Rattle.rule_model.specs.declared.raw.DeviceLine.{DeviceLine}
use Rattle.script_lang.specs.ScriptData.{ScriptEventData, ScriptData}
use Rattle.script_lang.specs.Spelling.{spelled}

-- the word for an interface identifier: 16 hex digits, the highest first
unfoldable pub iid_word : ℕ → List ℕ
iid_word iid = encode_lower (to_be_bytes w64 iid)

-- the word after `mode`: whether fragments are answered
abbrev pub mode_word : Bool → List ℕ
mode_word true = codes "acked"
mode_word false = codes "noack"

-- the word after `last`: where the last tile goes
abbrev pub last_word : LastTile → List ℕ
last_word InAll1 = codes "all1"
last_word InRegular = codes "regular"

-- the words after `timers`
unfoldable pub timers_words : TimerTicks → List ℕ
timers_words ticks =
    decimal ticks.retransmission
    ++ (codes " "
    ++ (decimal
    ticks.inactivity ++ (codes
    " " ++ (decimal ticks.linger ++ (codes " " ++ decimal ticks.quiet)))))

-- the options of a device, all of them
unfoldable pub options_words : EndParams → List ℕ
options_words params =
    codes "mtu "
    ++ (decimal params.mtu
    ++ (codes " mode "
    ++ (mode_word params.acked
    ++ (codes
    " last " ++ (last_word params.last ++ (codes " timers " ++ timers_words params.ticks))))))

-- the line that declares a device
unfoldable pub device_line : DeviceLine → List ℕ
device_line device =
    codes "device "
    ++ (decimal device.number
    ++ (codes " "
    ++ (iid_word device.params.iids.dev
    ++ (codes
    " " ++ (iid_word device.params.iids.app ++ (codes " " ++ options_words device.params))))))

-- the line that tells an event
abbrev pub event_line : ScriptEventData → List ℕ
event_line e = spelled e.device e.event

-- the text of some lines, each of which ends with a line feed
abbrev pub text_of_lines : List (List ℕ) → List ℕ
text_of_lines [] = []
text_of_lines (line ∷ lines) = line ++ 10 ∷ text_of_lines lines

-- the lines of a script
abbrev pub script_lines : ScriptData → List (List ℕ)
script_lines script = map device_line script.devices ++ map event_line script.events

-- the text of a script
abbrev pub script_text : ScriptData → List ℕ
script_text script = text_of_lines (script_lines script)
