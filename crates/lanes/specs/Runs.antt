-- Runs of a lane.
use Rattle.std.specs.Prelude.{ℕ, List, [], ◌∷◌}
use Rattle.lanes.specs.Events.{LaneEvent, Possible}
use Rattle.lanes.specs.Lane.{Lane, LaneParams, new_lane}
use Rattle.lanes.specs.Step.{lane_step}

-- after events of one time, and after events that each have a time
abbrev pub lane_steps : ℕ → Lane → List LaneEvent → Lane
lane_steps time l [] = l
lane_steps time l (event ∷ events) = lane_steps time (lane_step time l event) events

abbrev pub lane_run : Lane → List (ℕ × LaneEvent) → Lane
lane_run l [] = l
lane_run l (event ∷ events) = lane_run (lane_step event.0 l event.1) events

-- the events, each at this time
abbrev pub timed : ℕ → List LaneEvent → List (ℕ × LaneEvent)
timed time [] = []
timed time (event ∷ events) = (time, event) ∷ timed time events

-- each of the events is so where it comes
abbrev pub Along : (ℕ → Lane → LaneEvent → Type 0) → ℕ → Lane → List LaneEvent → Type 0
Along Q time l [] = Unit {0}
Along Q time l (event ∷ events) = Q time l event × Along Q time (lane_step time l event) events

abbrev pub AlongRun : (ℕ → Lane → LaneEvent → Type 0) → Lane → List (ℕ × LaneEvent) → Type 0
AlongRun Q l [] = Unit {0}
AlongRun Q l (event ∷ events) = Q event.0 l event.1
    × AlongRun Q (lane_step event.0 l event.1) events

-- the events can come to pass on a lane on which no session has begun
abbrev pub ArePossible : LaneParams → List (ℕ × LaneEvent) → Type 0
ArePossible params events = AlongRun Possible (new_lane params) events

-- the lane after them
abbrev pub lane_after : LaneParams → List (ℕ × LaneEvent) → Lane
lane_after params events = lane_run (new_lane params) events
