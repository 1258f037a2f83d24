-- The layout of a device: its number, its interface identifiers, and the members that may be
-- absent.
use Rattle.std.specs.Prelude.{ℕ, ◌+◌, ◌^◌, Bool, nat_le, if◌then◌else◌, List, Option, Some, None}
use Rattle.std.specs.Prelude.{codes}
use Rattle.serde_json.specs.Data.{Data, Items, no_items, item}
use Rattle.serde_json.specs.Find.{get, as_array}
use Rattle.schc_ids.specs.declared.ends.EndParams.{EndParams}
use Rattle.schc_ids.specs.declared.ends.Iids.{Iids}
use Rattle.schc_ids.specs.declared.ends.LastTile.{LastTile}
use Rattle.schc_ids.specs.declared.ends.TimerTicks.{TimerTicks}
use Rattle.schc_ids.specs.Limits.{min_mtu, max_mtu, max_ticks}
use Rattle.schc_ids.specs.Params.{default_params}
use Rattle.rule_model.specs.declared.raw.DeviceLine.{DeviceLine}
use Rattle.rule_json.specs.Values.{◌>>=◌, number_below, member_in, default_or}
use Rattle.rule_json.specs.Words.{acked_of, last_tile_of}
use Rattle.rule_json.specs.Digits.{iid_of}
use Rattle.rule_json.specs.Layout.{text_in}

-- the most bytes of a frame, which are 15 to 242
unfoldable pub mtu_number : Data → Option ℕ
mtu_number d = do
  mtu ← number_below (max_mtu + 1) d
  if nat_le min_mtu mtu then Some mtu else None

-- the ticks for which a timer runs, which are 1 to 1,000,000
unfoldable pub ticks_number : Data → Option ℕ
ticks_number d = do
  ticks ← number_below (max_ticks + 1) d
  if nat_le 1 ticks then Some ticks else None

-- the ticks of the four timers: retransmission, inactivity, linger and quiet
unfoldable pub timers_from : Items → Option TimerTicks
timers_from (item a (item b (item c (item d no_items)))) = do
  r ← ticks_number a
  i ← ticks_number b
  l ← ticks_number c
  q ← ticks_number d
  Some (record { retransmission = r; inactivity = i; linger = l; quiet = q })
timers_from _ = None

unfoldable pub timers_list : Data → Option TimerTicks
timers_list d = as_array d >>= timers_from

-- the members of a device that may be absent, and then are as it is where nothing is said: `mtu`,
-- `mode`, `last`, `timers`
unfoldable pub mtu_in : ℕ → Data → Option ℕ
mtu_in default d = default_or default mtu_number (get (codes "mtu") d)

unfoldable pub mode_in : Bool → Data → Option Bool
mode_in default d = default_or default (text_in acked_of) (get (codes "mode") d)

unfoldable pub last_in : LastTile → Data → Option LastTile
last_in default d = default_or default (text_in last_tile_of) (get (codes "last") d)

unfoldable pub timers_in : TimerTicks → Data → Option TimerTicks
timers_in default d = default_or default timers_list (get (codes "timers") d)

-- the parameters of a device's ends
unfoldable pub params_in : EndParams → Data → Option EndParams
params_in default d = do
  mtu ← mtu_in default.mtu d
  acked ← mode_in default.acked d
  last ← last_in default.last d
  ticks ← timers_in default.ticks d
  Some (record { iids = default.iids; mtu = mtu; acked = acked; last = last; ticks = ticks })

-- a device
unfoldable pub device_in : Data → Option DeviceLine
device_in d = do
  number ← member_in (codes "device") (number_below (2 ^ 16)) d
  dev ← member_in (codes "dev-iid") (text_in iid_of) d
  app ← member_in (codes "app-iid") (text_in iid_of) d
  params ← params_in (default_params (record { dev = dev; app = app })) d
  Some (record { number = number; params = params })
