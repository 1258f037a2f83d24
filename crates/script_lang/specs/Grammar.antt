-- What a line of a script tells: a device, an edition of rules that is published, or what happens
-- to the device's two ends.
use Rattle.std.specs.Prelude.{ℕ, ◌^◌, ◌==◌, Bool, true, if◌then◌else◌, List, [], ◌∷◌, take, drop}
use Rattle.std.specs.Prelude.{Option, Some, None, codes}
use Rattle.std.specs.Option.{option_map}
use Rattle.std.specs.Str.{bytes_eq}
use Rattle.schc_ids.specs.declared.ends.Role.{Role}
use Rattle.schc_ids.specs.declared.ends.Role.TheVariants.{Device, Gateway}
use Rattle.schc_ids.specs.declared.ends.Direction.{Direction}
use Rattle.schc_ids.specs.declared.ends.Direction.TheVariants as way
use Rattle.rule_model.specs.declared.raw.DeviceLine.{DeviceLine}
use Rattle.rule_json.specs.Texts.{edition_of}
use Rattle.event_data.specs.declared.events.Target.{Target}
use Rattle.event_data.specs.declared.events.Target.TheVariants as target
use Rattle.event_data.specs.Events.{Event, Down, Slot, Deliver, Tick, Abort, Publish, Offer, Allow}
use Rattle.script_lang.specs.Text.{◌>>=◌, words_of, number_of, packet_in}
use Rattle.script_lang.specs.Devices.{device_in}
use Rattle.script_lang.specs.ScriptData.{ScriptEventData}
use Rattle.script_lang.specs.Ranges.{is_declared}
use Rattle.script_lang.specs.declared.lines.Told.{Told}
use Rattle.script_lang.specs.declared.lines.Told.TheVariants.{Nothing, Declares, Happens}

-- the end that a word names
abbrev pub role_of : List ℕ → Option Role
role_of word =
    if bytes_eq word (codes "dev") then Some Device
    else if bytes_eq word (codes "gw") then Some Gateway
    else None

-- the ends at which a tick passes that a word names
abbrev pub target_of : List ℕ → Option Target
target_of word =
    if bytes_eq word (codes "dev") then Some target.Device
    else if bytes_eq word (codes "gw") then Some target.Gateway
    else if bytes_eq word (codes "both") then Some target.Both
    else None

-- the direction that a word names
abbrev pub direction_of : List ℕ → Option Direction
direction_of word =
    if bytes_eq word (codes "up") then Some way.Up
    else if bytes_eq word (codes "down") then Some way.Down
    else None

-- the event of `slot N E`, after its N
unfoldable pub slot_event : List ℕ → Option Event
slot_event end = do
  role ← role_of end
  Some (Slot role)

-- the event of `abort N E`, after its N
unfoldable pub abort_event : List ℕ → Option Event
abort_event end = do
  role ← role_of end
  Some (Abort role)

-- the event of `tick N dev|gw|both`, after its N
unfoldable pub tick_event : List ℕ → Option Event
tick_event ends = do
  at ← target_of ends
  Some (Tick at)

-- the event of `hand N E HEX`, after its N
unfoldable pub hand_event : List ℕ → List ℕ → Option Event
hand_event end hex = do
  role ← role_of end
  packet ← packet_in hex
  Some (Down role packet)

-- the event of `deliver N up|down K`, after its N
unfoldable pub deliver_event : List ℕ → List ℕ → Option Event
deliver_event way place = do
  direction ← direction_of way
  k ← number_of (2 ^ 64) place
  Some (Deliver direction k)

-- the end and the number of an edition that two words name
unfoldable pub end_and_edition : List ℕ → List ℕ → Option (Role × ℕ)
end_and_edition end edition = do
  role ← role_of end
  number ← number_of (2 ^ 32) edition
  Some (role, number)

-- the event of `offer N E NUMBER`, after its N
unfoldable pub offer_event : List ℕ → List ℕ → Option Event
offer_event end edition = do
  named ← end_and_edition end edition
  Some (Offer named.0 named.1)

-- the event of `allow N E NUMBER`, after its N
unfoldable pub allow_event : List ℕ → List ℕ → Option Event
allow_event end edition = do
  named ← end_and_edition end edition
  Some (Allow named.0 named.1)

-- the event that words tell: the name of what happens, and what follows the device's number
unfoldable pub told_event : List ℕ → List (List ℕ) → Option Event
told_event name (x ∷ []) =
    if bytes_eq name (codes "slot") then slot_event x
    else if bytes_eq name (codes "tick") then tick_event x
    else if bytes_eq name (codes "abort") then abort_event x
    else None
told_event name (x ∷ y ∷ []) =
    if bytes_eq name (codes "hand") then hand_event x y
    else if bytes_eq name (codes "deliver") then deliver_event x y
    else if bytes_eq name (codes "offer") then offer_event x y
    else if bytes_eq name (codes "allow") then allow_event x y
    else None
told_event name words = None

-- the event of the device with this number that words tell, where it is declared
unfoldable pub device_event : List DeviceLine → ℕ → List ℕ → List (List ℕ) → Option ScriptEventData
device_event devices number name words =
    if is_declared devices number
    then (told_event name words >>= λ event. Some (record { device = number; event = event }))
    else None

-- the event that a line of these words tells, where these devices are declared
unfoldable pub event_in : List DeviceLine → List (List ℕ) → Option ScriptEventData
event_in devices (name ∷ number ∷ words) =
    number_of (2 ^ 16) number >>= λ n. device_event devices n name words
event_in devices words = None

-- the text after `publish` and one space
unfoldable pub published_text : List ℕ → Option (List ℕ)
published_text line = if bytes_eq (take 8 line) (codes "publish ") then Some (drop 8 line) else None

-- a publication of the edition that a text is
unfoldable pub publication : List ℕ → Option ScriptEventData
publication text = do
  raw ← edition_of text
  Some (record { device = 0; event = Publish raw })

-- an empty line, or one that begins with `#`, is passed over
abbrev pub is_passed_over : List ℕ → Bool
is_passed_over [] = true
is_passed_over (byte ∷ bytes) = byte == 35

-- a device that a line declares, where its number isn't declared before
abbrev pub own_device : List DeviceLine → DeviceLine → Option Told
own_device devices device =
    if is_declared devices device.number then None else Some (Declares device)

-- what words tell: a device where they declare one, else an event
unfoldable pub told_by_words : List DeviceLine → Option DeviceLine → List (List ℕ) → Option Told
told_by_words devices (Some device) words = own_device devices device
told_by_words devices None words = option_map Happens (event_in devices words)

-- what a line tells that isn't passed over: a publication where it begins so, else what its words
-- tell
unfoldable pub told_by_text : List DeviceLine → Option (List ℕ) → List ℕ → Option Told
told_by_text devices (Some text) line = option_map Happens (publication text)
told_by_text devices None line = told_by_words devices (device_in (words_of line)) (words_of line)

-- what a line tells, where these devices are declared before it
unfoldable pub told_by : List DeviceLine → List ℕ → Option Told
told_by devices line =
    if is_passed_over line then Some Nothing else told_by_text devices (published_text line) line
