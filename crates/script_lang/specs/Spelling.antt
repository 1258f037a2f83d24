-- How an event is spelled as a line of a script.
use Rattle.std.specs.Prelude.{◌≡◌, ◌≢◌, ◌<◌, ◌^◌, ℕ, true, List, [], ◌++◌, Some, codes}
use Rattle.std.specs.Fmt.{decimal}
use Rattle.hex.specs.Hex.{IsBytes, encode_lower}
use Rattle.schc_ids.specs.declared.ends.Role.{Role}
use Rattle.schc_ids.specs.declared.ends.Role.TheVariants.{Device, Gateway}
use Rattle.schc_ids.specs.declared.ends.Direction.{Direction}
use Rattle.schc_ids.specs.declared.ends.Direction.TheVariants as way
use Rattle.rule_model.specs.declared.raw.DeviceLine.{DeviceLine}
use Rattle.rule_json.specs.Written.{edition_text}
use Rattle.rule_json.specs.Texts.{edition_of}
use Rattle.event_data.specs.declared.events.Target.{Target}
use Rattle.event_data.specs.declared.events.Target.TheVariants as target
use Rattle.event_data.specs.Events.{Event, Down, Slot, Deliver, Tick, Abort, Publish, Offer, Allow}
use Rattle.script_lang.specs.Ranges.{is_declared}
use Rattle.script_lang.specs.Grammar.{told_by}
use Rattle.script_lang.specs.declared.lines.Told.TheVariants.{Happens}

-- the word for an end
abbrev pub role_word : Role → List ℕ
role_word Device = codes "dev"
role_word Gateway = codes "gw"

-- the word for a direction
abbrev pub direction_word : Direction → List ℕ
direction_word way.Up = codes "up"
direction_word way.Down = codes "down"

-- the word for the ends at which a tick passes
abbrev pub target_word : Target → List ℕ
target_word target.Device = codes "dev"
target_word target.Gateway = codes "gw"
target_word target.Both = codes "both"

-- the line of an event of the device with this number
unfoldable pub spelled : ℕ → Event → List ℕ
spelled device (Down role packet) =
    codes "hand " ++ (decimal
    device ++ (codes " " ++ (role_word role ++ (codes " " ++ encode_lower packet))))
spelled device (Slot role) = codes "slot " ++ (decimal device ++ (codes " " ++ role_word role))
spelled device (Deliver direction place) =
    codes "deliver " ++ (decimal
    device ++ (codes " " ++ (direction_word direction ++ (codes " " ++ decimal place))))
spelled device (Tick at) = codes "tick " ++ (decimal device ++ (codes " " ++ target_word at))
spelled device (Abort role) = codes "abort " ++ (decimal device ++ (codes " " ++ role_word role))
spelled device (Publish raw) = codes "publish " ++ edition_text raw
spelled device (Offer role number) =
    codes "offer " ++ (decimal
    device ++ (codes " " ++ (role_word role ++ (codes " " ++ decimal number))))
spelled device (Allow role number) =
    codes "allow " ++ (decimal
    device ++ (codes " " ++ (role_word role ++ (codes " " ++ decimal number))))

-- a device with this number is declared
pub record IsDevice (devices : List DeviceLine) (device : ℕ) : Type 0 where
  pub small : device < 2 ^ 16
  pub declared : is_declared devices device ≡ true

-- an event that a line can spell, where these devices are declared: its numbers are in their
-- ranges, a packet is one byte at least, and the text of an edition that is published reads as that
-- edition
abbrev pub CanBeSpelled : List DeviceLine → ℕ → Event → Type 0
CanBeSpelled devices device (Down role packet) = IsDevice devices device × IsBytes packet
    × (packet ≢ [])
CanBeSpelled devices device (Slot role) = IsDevice devices device
CanBeSpelled devices device (Deliver direction place) = IsDevice devices device × (place < 2 ^ 64)
CanBeSpelled devices device (Tick at) = IsDevice devices device
CanBeSpelled devices device (Abort role) = IsDevice devices device
CanBeSpelled devices device (Publish raw) = (device ≡ 0)
    × (edition_of (edition_text raw) ≡ Some raw)
CanBeSpelled devices device (Offer role number) = IsDevice devices device × (number < 2 ^ 32)
CanBeSpelled devices device (Allow role number) = IsDevice devices device × (number < 2 ^ 32)

-- the spelling of an event reads back as that event
abbrev pub ReadsBack : Type 0
ReadsBack =
    (devices : List DeviceLine) (device : ℕ) (event : Event) → CanBeSpelled devices device event →
    told_by devices (spelled device event) ≡ Some
    (Happens (record { device = device; event = event }))
