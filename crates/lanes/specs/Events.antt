-- What can come to pass on a lane.
use Rattle.std.specs.Prelude.{ℕ, ◌≡◌, ◌<◌, ◌≤◌, Bool, List, length, None}
use Rattle.std.specs.List.{AllByRecursion}
use Rattle.schc_ids.specs.Limits.{min_cut_bits, max_session_bits}
use Rattle.tiles_bitmap.specs.Places.{Among}
use Rattle.lanes.specs.Lane.{Lane, Msg}

-- a session begins, with its place, its number and its bits, and gives its first message; the
-- sender gives a message, or the receiver an answer; one of the sender's messages, or an answer, is
-- delivered; a tick passes at the sender's end, or at the receiver's; the session is given up
pub data LaneEvent : Type 0 where
  Begin : ℕ → ℕ → List Bool → LaneEvent
  Send : LaneEvent
  Answer : LaneEvent
  Fragment : Msg → LaneEvent
  Ack : Msg → LaneEvent
  SenderTick : LaneEvent
  ReceiverTick : LaneEvent
  Abort : LaneEvent

-- the bits may go as a session
pub record CanBegin (bits : List Bool) : Type 0 where
  pub least : min_cut_bits ≤ length bits
  pub most : length bits ≤ max_session_bits

-- the event can come to pass at this time: a session begins where there is none, at a place above
-- all before; a message that is delivered was sent, and what it belongs to came earlier
abbrev pub Possible : ℕ → Lane → LaneEvent → Type 0
Possible time l (Begin place number bits) =
    (l.sender ≡ None) × AllByRecursion (λ begun. begun.place < place) l.begins × CanBegin bits
Possible time l Send = Unit {0}
Possible time l Answer = Unit {0}
Possible time l (Fragment m) = Among m l.out × AllByRecursion (λ begun. begun.time < time) l.begins
Possible time l (Ack m) = Among m l.back × AllByRecursion (λ join. join.time < time) l.joins
Possible time l SenderTick = Unit {0}
Possible time l ReceiverTick = Unit {0}
Possible time l Abort = Unit {0}
