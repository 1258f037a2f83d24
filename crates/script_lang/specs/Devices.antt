-- The lines that declare a device: `device N DEVIID APPIID`, and then, each where it is given and
-- in this order, `mtu M`,
-- `mode acked|noack`, `last all1|regular` and `timers A B C D`.
use Rattle.std.specs.Prelude.{ℕ, ◌+◌, ◌^◌, nat_le, if◌then◌else◌, List, [], ◌∷◌, Option, Some, None}
use Rattle.std.specs.Prelude.{codes}
use Rattle.std.specs.Str.{bytes_eq}
use Rattle.schc_ids.specs.declared.ends.EndParams.{EndParams}
use Rattle.schc_ids.specs.declared.ends.Iids.{Iids}
use Rattle.schc_ids.specs.declared.ends.TimerTicks.{TimerTicks}
use Rattle.schc_ids.specs.Limits.{min_mtu, max_mtu, max_ticks}
use Rattle.schc_ids.specs.Params.{default_params}
use Rattle.rule_model.specs.declared.raw.DeviceLine.{DeviceLine}
use Rattle.rule_json.specs.Words.{acked_of, last_tile_of}
use Rattle.script_lang.specs.Text.{◌>>=◌, number_of, iid_of}

-- the number of bytes that an `mtu` says: 15 to 242
unfoldable pub mtu_of : List ℕ → Option ℕ
mtu_of word = do
  mtu ← number_of (max_mtu + 1) word
  if nat_le min_mtu mtu then Some mtu else None

-- the ticks for which a timer runs: 1 to 1,000,000
unfoldable pub ticks_of : List ℕ → Option ℕ
ticks_of word = do
  ticks ← number_of (max_ticks + 1) word
  if nat_le 1 ticks then Some ticks else None

-- the ticks of the four timers: retransmission, inactivity, linger and quiet
unfoldable pub timers_of : List ℕ → List ℕ → List ℕ → List ℕ → Option TimerTicks
timers_of a b c d = do
  r ← ticks_of a
  i ← ticks_of b
  l ← ticks_of c
  q ← ticks_of d
  Some (record { retransmission = r; inactivity = i; linger = l; quiet = q })

-- the interface identifiers that two words spell
unfoldable pub iids_of : List ℕ → List ℕ → Option Iids
iids_of dev app = do
  d ← iid_of dev
  a ← iid_of app
  Some (record { dev = d; app = a })

-- an option with one value: where the words begin with its name, what the next word is read as,
-- else `default`; and the words after it
abbrev pub option_in : {A : Type 0} → List ℕ → (List ℕ → Option A) → A → List (List ℕ)
    → Option (A × List (List ℕ))
option_in name read default [] = Some (default, [])
option_in name read default (word ∷ []) = Some (default, word ∷ [])
option_in name read default (word ∷ value ∷ words) =
    if bytes_eq word name then (read value >>= λ x. Some (x, words)) else Some
    (default, word ∷ value ∷ words)

-- `timers A B C D`, where it is given, and no word after it
unfoldable pub timers_in : TimerTicks → List (List ℕ) → Option TimerTicks
timers_in default [] = Some default
timers_in default (name ∷ a ∷ b ∷ c ∷ d ∷ []) =
    if bytes_eq name (codes "timers") then timers_of a b c d else None
timers_in default words = None

-- the parameters that options give; what isn't given is as in `default`
unfoldable pub params_in : EndParams → List (List ℕ) → Option EndParams
params_in default words = do
  mtu ← option_in (codes "mtu") mtu_of default.mtu words
  acked ← option_in (codes "mode") acked_of default.acked mtu.1
  last ← option_in (codes "last") last_tile_of default.last acked.1
  ticks ← timers_in default.ticks last.1
  Some (record { iids = default.iids; mtu = mtu.0; acked = acked.0; last = last.0; ticks = ticks })

-- the device of `device N DEVIID APPIID` with these options
unfoldable pub declared_device : List ℕ → List ℕ → List ℕ → List (List ℕ) → Option DeviceLine
declared_device number dev app options = do
  n ← number_of (2 ^ 16) number
  iids ← iids_of dev app
  params ← params_in (default_params iids) options
  Some (record { number = n; params = params })

-- the device that a line of these words declares
unfoldable pub device_in : List (List ℕ) → Option DeviceLine
device_in (name ∷ number ∷ dev ∷ app ∷ options) =
    if bytes_eq name (codes "device") then declared_device number dev app options else None
device_in words = None
