-- What is left of the outcomes at a place of a script, by whose they are.
use Rattle.std.specs.Prelude.{◌≡◌, ℕ, ◌==◌, if◌then◌else◌, Bool, true, false, List, [], ◌∷◌, Option}
use Rattle.std.specs.Prelude.{Some, None}
use Rattle.std.specs.Option.{option_or}
use Rattle.rule_model.specs.declared.raw.DeviceLine.{DeviceLine}
use Rattle.event_data.specs.declared.outcomes.Line.{Line}
use Rattle.script_lang.specs.Ranges.{is_declared}
use Rattle.script_lang.specs.ScriptData.{ScriptEventData}
use Rattle.gw_top.specs.Run.{is_publication, chain_of, world_of}
use Rattle.gw_top.specs.Shares.{own_lines, published_lines}

-- the device of an event that isn't a publication is declared
abbrev pub IsOwned : List DeviceLine → ScriptEventData → Type 0
IsOwned devices e = is_publication e.event ≡ false → is_declared devices e.device ≡ true

-- what is left where these events are left: the publications' lines, and those of each declared
-- device's own events
pub record IsLeft (devices : List DeviceLine) (before rest : List ScriptEventData)
    (published : List Line) (own : ℕ → Option (List Line)) : Type 0 where
  pub publications : published ≡ published_lines (chain_of before) rest
  pub each : (number : ℕ) → is_declared devices number ≡ true
      → own number ≡ Some (own_lines number (world_of number devices before) rest)

-- the last of the shares with this number
abbrev pub share_in : ℕ → List (ℕ × List Line) → Option (List Line)
share_in number [] = None
share_in number (share ∷ shares) =
    option_or (share_in number shares) (if share.0 == number then Some share.1 else None)
