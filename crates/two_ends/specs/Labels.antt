-- Labels say what a packet that waits, a frame that was sent and a receiver carry. They stand
-- beside the world, and no outcome depends on them.
use Rattle.std.specs.Prelude.{ℕ, List, [], ◌∷◌, Option, Some, None, unwrap_or}
use Rattle.schc_ids.specs.PerDirection.{PerDirection, at_direction, put_direction}
use Rattle.schc_ids.specs.PerRole.{PerRole}
use Rattle.event_data.specs.Records.{FrameData}
use Rattle.lanes.specs.Lane.{Msg}
use Rattle.sessions.specs.Keys.{Entry, found, put_in}
use Rattle.two_ends.specs.Keys.{Key}

-- a whole packet, by its place among those that were handed down, or a session, by its place among
-- those that began
pub data Label : Type 0 where
  Whole : ℕ → Label
  Session : ℕ → Label

-- a frame that was sent: it carries whole the packet that was handed down as this one, or it is a
-- message of a session
pub data Mark : Type 0 where
  WholeFrame : ℕ → FrameData → Mark
  MessageOf : Key → Msg → Mark

abbrev pub marked_frame : Mark → FrameData
marked_frame (WholeFrame place frame) = frame
marked_frame (MessageOf key m) = record { port = key.id.port; bytes = m.bytes }

-- the session of the last message that a receiver took otherwise than as a remnant, and that of its
-- kept All-1
pub record Held : Type 0 where
  pub last : Option ℕ
  pub kept : Option ℕ

abbrev pub nothing_held : Held
nothing_held = record { last = None; kept = None }

-- for each packet that waits at an end its place among those that were handed down, for each frame
-- that was sent what it carries, and for each receiver what it keeps, by the direction of the
-- fragments and by their key
pub record Labels : Type 0 where
  pub queued : PerRole (List ℕ)
  pub sent : PerDirection (List Mark)
  pub held : PerDirection (List (Entry Held))

-- nothing waits, nothing was sent, and nothing is kept
abbrev pub no_labels : Labels
no_labels = record {
  queued = record { device = []; gateway = [] };
  sent = record { up = []; down = [] };
  held = record { up = []; down = [] };
}

-- what the receiver of the key keeps
unfoldable pub held_by : Key → Labels → Held
held_by key labels = unwrap_or (found key.id (at_direction labels.held key.way)) nothing_held

unfoldable pub hold : Key → Held → PerDirection (List (Entry Held))
    → PerDirection (List (Entry Held))
hold key new held =
    put_direction held key.way (put_in key.id (Some new) (at_direction held key.way))

-- the place of the first packet that waits
abbrev pub first_place : List ℕ → ℕ
first_place [] = 0
first_place (place ∷ places) = place
