-- The lanes of a world: what of a history belongs to one key, and what an event is on that key's
-- lane.
use Rattle.std.specs.Prelude.{ℕ, ◌≡◌, Bool, true, false, List, [], ◌∷◌, ◌++◌, length}
use Rattle.std.specs.List.{flat_map}
use Rattle.schc_ids.specs.Ends.{sent_direction, other_direction}
use Rattle.schc_ids.specs.PerDirection.{at_direction}
use Rattle.schc_ids.specs.PerRole.{at_role}
use Rattle.schc_ids.specs.declared.ends.EndParams.{EndParams}
use Rattle.schc_ids.specs.declared.ends.Role.{Role}
use Rattle.schc_ids.specs.declared.ends.Role.TheVariants.{Device, Gateway}
use Rattle.event_data.specs.Events.{Event}
use Rattle.event_data.specs.declared.events.Target.TheVariants as target
use Rattle.lanes.specs.Events as lane
use Rattle.lanes.specs.Events.{LaneEvent, Possible}
use Rattle.lanes.specs.Lane.{Lane, Msg}
use Rattle.lanes.specs.Runs.{lane_steps, timed, Along}
use Rattle.two_ends.specs.Fits.{Fits}
use Rattle.two_ends.specs.Happening.{Given, Answers, Goes, Opens, Carries, NoFrame, Happening}
use Rattle.two_ends.specs.Happening.{Nothing, Waits, Gives, Arrives, Fragment, Answer, Ticks}
use Rattle.two_ends.specs.Happening.{GivesUp}
use Rattle.two_ends.specs.History.{History, happening, sender_at, reception_at, next, start, run}
use Rattle.two_ends.specs.Keys.{Key, sent_key, taken_key, same_way, same_key, piece, of_key}
use Rattle.two_ends.specs.Keys.{lane_params}
use Rattle.two_ends.specs.Labels.{Mark, WholeFrame, MessageOf, held_by}
use Rattle.two_ends.specs.Logs.{begins_of}
use Rattle.two_ends.specs.World.{sender, taker}

-- the messages of the key among the frames
abbrev pub message_piece : Key → Mark → List Msg
message_piece key (WholeFrame place frame) = []
message_piece key (MessageOf other m) = piece (same_key key other) m

unfoldable pub messages : Key → List Mark → List Msg
messages key marks = flat_map (message_piece key) marks

-- the key's sender and receiver, its messages, and its part of the logs
unfoldable pub lane_of : EndParams → Key → History → Lane
lane_of params key h = record {
  params = lane_params params key;
  sender = sender_at h.world key;
  reception = reception_at h.world key;
  label = (held_by key h.labels).last;
  kept_label = (held_by key h.labels).kept;
  out = messages key (at_direction h.labels.sent key.way);
  back = messages key (at_direction h.labels.sent (other_direction key.way));
  begins = begins_of key h.logs.begins;
  checks = of_key key h.logs.checks;
  joins = of_key key h.logs.joins;
  reports = of_key key h.logs.reports;
  sender_time = at_role h.ticks (sender key.way);
  receiver_time = at_role h.ticks (taker key.way);
}

-- what an end gives is an event of the lane of its key, where so many sessions began before
unfoldable pub given_events : Key → ℕ → Role → Given → List LaneEvent
given_events key place role (Answers id reception bytes) =
    piece (same_key key (taken_key role id)) lane.Answer
given_events key place role (Goes id session bytes) =
    piece (same_key key (sent_key role id)) lane.Send
given_events key place role (Opens id session form bytes) =
    piece (same_key key (sent_key role id)) (lane.Begin place session.number form.bits)
given_events key place role (Carries form) = []
given_events key place role NoFrame = []

-- a tick of an end is one of the key's sender or of its receiver
abbrev pub ticks_one : Bool → LaneEvent
ticks_one true = lane.SenderTick
ticks_one false = lane.ReceiverTick

abbrev pub tick_event : Key → Role → LaneEvent
tick_event key role = ticks_one (same_way (sent_direction role) key.way)

unfoldable pub events_of : Key → ℕ → Happening → List LaneEvent
events_of key place Nothing = []
events_of key place (Waits role packet accepted) = []
events_of key place (Gives role given) = given_events key place role given
events_of key place (Arrives direction down frame) = []
events_of key place (Fragment own m) = piece (same_key key own) (lane.Fragment m)
events_of key place (Answer own m) = piece (same_key key own) (lane.Ack m)
events_of key place (Ticks target.Device) = tick_event key Device ∷ []
events_of key place (Ticks target.Gateway) = tick_event key Gateway ∷ []
events_of key place (Ticks target.Both) = tick_event key Device ∷ tick_event key Gateway ∷ []
events_of key place (GivesUp role id) = piece (same_key key (sent_key role id)) lane.Abort

-- none, one, or for a tick of both ends two
abbrev pub lane_events : Key → History → Event → List LaneEvent
lane_events key h event = events_of key (length h.logs.begins) (happening h event)

-- the events of the lane along events of the world, each with its time
abbrev pub lane_run : Key → History → List Event → List (ℕ × LaneEvent)
lane_run key h [] = []
lane_run key h (event ∷ events) =
    timed h.place (lane_events key h event) ++ lane_run key (next h event) events

-- the world's step is the lane's steps, and each is possible where it comes
pub record IsStepped (params : EndParams) (key : Key) (h : History) (event : Event) : Type 0 where
  pub same : lane_of params key (next h event) ≡ lane_steps h.place (lane_of params key h)
      (lane_events key h event)
  pub possible : Along Possible h.place (lane_of params key h) (lane_events key h event)

-- so it is in every world that events lead to, for each key
abbrev pub StepsOfAWorld : Type 0
StepsOfAWorld =
    (params : EndParams) (events : List Event) → Fits params events →
    (key : Key) (event : Event) → IsStepped params key (run events (start params)) event
