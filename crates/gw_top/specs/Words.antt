-- The words of a call: a command, what it needs, and an option after that.
use Rattle.std.specs.Prelude.{ℕ, ◌+◌, ◌^◌, ◌<◌, ◌≤◌, nat_le, if◌then◌else◌, Bool, true, false, List}
use Rattle.std.specs.Prelude.{[], ◌∷◌, Option, Some, None, Result, Ok, Err, codes}
use Rattle.std.specs.Str.{bytes_eq}
use Rattle.schc_ids.specs.Limits.{max_devices}
use Rattle.script_lang.specs.Text.{number_of}
use Rattle.gw_top.specs.declared.words.Command.{Command}
use Rattle.gw_top.specs.declared.words.Command.TheVariants.{Check, Pack, Unpack, Sim, Load}

-- the most workers
abbrev pub max_workers : ℕ
max_workers = 8

-- how many starts a load can have: one for each state of its generator
abbrev pub load_starts : ℕ
load_starts = 2 ^ 31

-- the number, where it is 1 or more
unfoldable pub from_one : Option ℕ → Option ℕ
from_one None = None
from_one (Some n) = if nat_le 1 n then Some n else None

-- the number from 1 to `most` that a word spells
unfoldable pub count_of : ℕ → List ℕ → Option ℕ
count_of most word = from_one (number_of (most + 1) word)

-- devices can be shared out among so many workers
abbrev pub AreWorkers : ℕ → Type 0
AreWorkers workers = (1 ≤ workers) × (workers ≤ max_workers)

-- a load can have so many devices, and this start
abbrev pub AreLoadNumbers : ℕ → ℕ → Type 0
AreLoadNumbers devices start = (1 ≤ devices) × (devices ≤ max_devices) × (start < load_starts)

-- the numbers of the command are in their limits
abbrev pub IsInLimits : Command → Type 0
IsInLimits Check = Unit {0}
IsInLimits Pack = Unit {0}
IsInLimits Unpack = Unit {0}
IsInLimits (Sim workers) = AreWorkers workers
IsInLimits (Load devices start workers) = AreLoadNumbers devices start × AreWorkers workers

-- the command reads its input: all but a load do
abbrev pub reads_input : Command → Bool
reads_input Check = true
reads_input Pack = true
reads_input Unpack = true
reads_input (Sim workers) = true
reads_input (Load devices start workers) = false

-- the command with so many workers
abbrev pub with_workers : Command → ℕ → Command
with_workers Check workers = Check
with_workers Pack workers = Pack
with_workers Unpack workers = Unpack
with_workers (Sim one) workers = Sim workers
with_workers (Load devices start one) workers = Load devices start workers

-- A word is looked at with its place, counted from 1. An `Err` is the place of the first word that
-- is outside the grammar, or one past the last where one lacks.

-- no word stands at this place
abbrev pub ended : ℕ → Command → List (List ℕ) → Result Command ℕ
ended place command [] = Ok command
ended place command (word ∷ words) = Err place

-- the number of workers stands at this place, and nothing after it
unfoldable pub workers_read : ℕ → Command → Option ℕ → List (List ℕ) → Result Command ℕ
workers_read place command None words = Err place
workers_read place command (Some workers) words =
    ended (place + 1) (with_workers command workers) words

abbrev pub workers_at : ℕ → Command → List (List ℕ) → Result Command ℕ
workers_at place command [] = Err place
workers_at place command (word ∷ words) =
    workers_read place command (count_of max_workers word) words

-- `--workers W` stands at this place, or nothing
abbrev pub option_at : ℕ → Command → List (List ℕ) → Result Command ℕ
option_at place command [] = Ok command
option_at place command (word ∷ words) =
    if bytes_eq word (codes "--workers") then workers_at (place + 1) command words else Err place

-- the start of a load stands at the third place, and an option may stand after it
unfoldable pub start_read : ℕ → Option ℕ → List (List ℕ) → Result Command ℕ
start_read devices None words = Err 3
start_read devices (Some start) words = option_at 4 (Load devices start 1) words

abbrev pub start_at : ℕ → List (List ℕ) → Result Command ℕ
start_at devices [] = Err 3
start_at devices (word ∷ words) = start_read devices (number_of load_starts word) words

-- its number of devices stands at the second place, and its start after it
unfoldable pub devices_read : Option ℕ → List (List ℕ) → Result Command ℕ
devices_read None words = Err 2
devices_read (Some devices) words = start_at devices words

abbrev pub load_at : List (List ℕ) → Result Command ℕ
load_at [] = Err 2
load_at (word ∷ words) = devices_read (count_of max_devices word) words

-- the command of these words, the first of which names it
unfoldable pub command_after : List ℕ → List (List ℕ) → Result Command ℕ
command_after word words =
    if bytes_eq word (codes "check") then ended 2 Check words
    else if bytes_eq word (codes "pack") then ended 2 Pack words
    else if bytes_eq word (codes "unpack") then ended 2 Unpack words
    else if bytes_eq word (codes "sim") then option_at 2 (Sim 1) words
    else if bytes_eq word (codes "load") then load_at words
    else Err 1

unfoldable pub command_of : List (List ℕ) → Result Command ℕ
command_of [] = Err 1
command_of (word ∷ words) = command_after word words
