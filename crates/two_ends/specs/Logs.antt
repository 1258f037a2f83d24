-- What came to pass: logs of packets that were handed down and up, and of sessions. They stand
-- beside the world, and no outcome depends on them.
use Rattle.std.specs.Prelude.{ℕ, List, [], ◌∷◌, Option, Some, None}
use Rattle.std.specs.List.{flat_map}
use Rattle.schc_ids.specs.declared.ends.Direction.{Direction}
use Rattle.event_data.specs.Records.{HandUpData}
use Rattle.event_data.specs.declared.outcomes.Accepted.{Accepted}
use Rattle.lanes.specs.Lane.{Begun, Check, LaneReport, session_place}
use Rattle.two_ends.specs.Keys.{Key, Keyed, same_key, piece}
use Rattle.two_ends.specs.Labels.{Label}

-- a packet that was handed down and taken: by which event (counted from 0), for which direction,
-- and how it goes: with which edition of rules it is written, under which RuleID, and in how many
-- bits
pub record HandedDown : Type 0 where
  pub place : ℕ
  pub direction : Direction
  pub packet : List ℕ
  pub accepted : Accepted

-- a packet that was handed up: by which event (counted from 0), from which direction, with which
-- edition of rules and under which RuleID it was read, and the label of the whole frame, or of the
-- All-1 whose check passed
pub record HandedUp : Type 0 where
  pub place : ℕ
  pub direction : Direction
  pub packet : List ℕ
  pub edition : ℕ
  pub rule_id : ℕ
  pub label : Option Label

-- a session that began, and the place of the packet that it carries among those that were handed
-- down. The session is known by its own place among those that began, also where numbers of
-- sessions stay at the greatest
pub record Began : Type 0 where
  pub key : Key
  pub it : Begun
  pub down : ℕ

-- everything that was handed down and up, and of sessions each that began, each check that was
-- made, each that passed, and each report; the first first
pub record Logs : Type 0 where
  pub downs : List HandedDown
  pub ups : List HandedUp
  pub begins : List Began
  pub checks : List (Keyed Check)
  pub joins : List (Keyed Check)
  pub reports : List (Keyed LaneReport)

abbrev pub no_logs : Logs
no_logs = record { downs = []; ups = []; begins = []; checks = []; joins = []; reports = [] }

-- the sessions that began with the key, and the place of the last one
unfoldable pub begins_of : Key → List Began → List Begun
begins_of key begins = flat_map (λ b. piece (same_key key b.key) b.it) begins

abbrev pub session_of : Key → List Began → Option ℕ
session_of key begins = session_place (begins_of key begins)

-- the log entry of a packet that was handed down
abbrev pub handed_down : ℕ → Direction → List ℕ → Accepted → HandedDown
handed_down place direction packet accepted =
    record { place = place; direction = direction; packet = packet; accepted = accepted }

-- the log entry of a packet that was handed up
abbrev pub handed_up : ℕ → Direction → HandUpData → Option Label → HandedUp
handed_up place direction up label =
    record {
      place = place;
      direction = direction;
      packet = up.packet;
      edition =
          up.edition;
      rule_id = up.rule_id;
      label = label;
    }

-- what a frame adds to the packets that were handed up
abbrev pub up_entries : ℕ → Direction → Option HandUpData → Option Label → List HandedUp
up_entries place direction None label = []
up_entries place direction (Some up) label = handed_up place direction up label ∷ []
