-- The layout of the files of the commands: contexts and work.
use Rattle.std.specs.Prelude.{ℕ, ◌&&◌, ◌==◌, nat_le, not, Bool, true, if◌then◌else◌, List, [], ◌∷◌}
use Rattle.std.specs.Prelude.{length, Option, Some, None, codes}
use Rattle.std.specs.List.{list_any}
use Rattle.serde_json.specs.Data.{Data}
use Rattle.serde_json.specs.Find.{get, as_object}
use Rattle.schc_ids.specs.Limits.{max_devices}
use Rattle.rule_model.specs.declared.raw.DeviceLine.{DeviceLine}
use Rattle.rule_model.specs.RawData.{RawEditionData}
use Rattle.rule_json.specs.Data.{ContextData, WorkData}
use Rattle.rule_json.specs.Values.{◌>>=◌, member_in, default_or, list_of}
use Rattle.rule_json.specs.Words.{direction_of}
use Rattle.rule_json.specs.Digits.{iid_of, packet_of}
use Rattle.rule_json.specs.Layout.{text_in, edition_in}
use Rattle.rule_json.specs.Devices.{device_in}

-- no device has the number of a later one
abbrev pub have_own_numbers : List DeviceLine → Bool
have_own_numbers [] = true
have_own_numbers (device ∷ devices) =
    not (list_any (λ other. other.number == device.number) devices) && have_own_numbers devices

-- at most 1,024 devices, each with a number of its own
unfoldable pub distinct_devices : List DeviceLine → Option (List DeviceLine)
distinct_devices devices =
    if nat_le (length devices) max_devices && have_own_numbers devices then Some devices else None

-- `devices` of a context, which may be absent and is then empty
unfoldable pub devices_in : Data → Option (List DeviceLine)
devices_in d = default_or [] (list_of device_in) (get (codes "devices") d) >>= distinct_devices

-- `editions` of a context, which may be absent and is then empty
unfoldable pub editions_in : Data → Option (List RawEditionData)
editions_in d = default_or [] (list_of edition_in) (get (codes "editions") d)

-- a context is an object
unfoldable pub context_in : Data → Option ContextData
context_in d = do
  members ← as_object d
  devices ← devices_in d
  editions ← editions_in d
  Some (record { devices = devices; editions = editions })

-- work
unfoldable pub work_in : Data → Option WorkData
work_in d = do
  editions ← member_in (codes "editions") (list_of edition_in) d
  dev ← member_in (codes "dev-iid") (text_in iid_of) d
  app ← member_in (codes "app-iid") (text_in iid_of) d
  direction ← member_in (codes "direction") (text_in direction_of) d
  packets ← member_in (codes "packets") (list_of (text_in packet_of)) d
  Some (record {
    editions = editions;
    iids = record { dev = dev; app = app };
    direction =
        direction;
    packets = packets;
  })
