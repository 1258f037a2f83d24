-- A world with what came to pass in it: the logs and labels are computed from it and from the
-- events.
use Rattle.std.specs.Prelude.{ℕ, ◌+◌, Bool, List, [], ◌∷◌, ◌++◌, length, drop, Option, Some, None}
use Rattle.std.specs.Prelude.{option_map, unwrap_or, Result, Ok, Err}
use Rattle.schc_bits.specs.Bits.{octets}
use Rattle.schc_ids.specs.Ends.{sent_direction, other_direction}
use Rattle.schc_ids.specs.PerDirection.{PerDirection, at_direction, put_direction}
use Rattle.schc_ids.specs.PerRole.{PerRole, at_role, put_role}
use Rattle.schc_ids.specs.declared.ends.Direction.{Direction}
use Rattle.schc_ids.specs.declared.ends.EndParams.{EndParams}
use Rattle.schc_ids.specs.declared.ends.Role.{Role}
use Rattle.schc_ids.specs.declared.ends.Role.TheVariants.{Device, Gateway}
use Rattle.schc_ids.specs.declared.faults.WireFault.{WireFault}
use Rattle.schc_ids.specs.declared.fragments.Side.TheVariants as side
use Rattle.schc_ids.specs.declared.notes.ReportKind.{ReportKind}
use Rattle.packer.specs.declared.packing.Packed.{Packed}
use Rattle.event_data.specs.Records.{FrameData}
use Rattle.event_data.specs.Events.{Event}
use Rattle.event_data.specs.declared.events.Target.TheVariants as target
use Rattle.frag_wire.specs.Layouts.{payload_in}
use Rattle.frag_wire.specs.Spells.{reading_in}
use Rattle.frag_wire.specs.declared.message.Message.{Message}
use Rattle.sessions.specs.Keys.{SessionKey, Entry, found}
use Rattle.sessions.specs.Receivers.{new_receiver, receiver_checked, receiver_previewed}
use Rattle.sessions.specs.Receivers.{receiver_taken}
use Rattle.sessions.specs.Reception.{Reception}
use Rattle.sessions.specs.Session.{Session}
use Rattle.sessions.specs.declared.receivers.Receiver.{Receiver}
use Rattle.lanes.specs.Lane.{Msg, Begun, Check, LaneReport}
use Rattle.lanes.specs.Step.{msg, told, kind_sent, heard_by, aborted_by, ticked_by, label_after}
use Rattle.lanes.specs.Step.{checked_label, kept_after, checks_of}
use Rattle.end_core.specs.Data.{EndData}
use Rattle.end_core.specs.End.{frame_of, take_step}
use Rattle.two_ends.specs.Happening.{Given, Answers, Goes, Opens, Carries, NoFrame, Happening}
use Rattle.two_ends.specs.Happening.{Waits, Gives, Arrives, Fragment, Answer, Ticks, GivesUp}
use Rattle.two_ends.specs.Happening.{own_key, happening_in}
use Rattle.two_ends.specs.Keys.{Key, Keyed, sent_key, taken_key, keyed, mode_of}
use Rattle.two_ends.specs.Labels as label
use Rattle.two_ends.specs.Labels.{Label, Mark, WholeFrame, MessageOf, marked_frame, Held, Labels}
use Rattle.two_ends.specs.Labels.{no_labels, held_by, hold, first_place}
use Rattle.two_ends.specs.Logs.{HandedDown, HandedUp, Began, Logs, no_logs, session_of, handed_down}
use Rattle.two_ends.specs.Logs.{up_entries}
use Rattle.two_ends.specs.World.{WorldData, beginning, end_of, sender, taker, step}

-- a world, the number of events so far, the ticks that passed at each end, the labels, and what
-- came to pass
pub record History : Type 0 where
  pub world : WorldData
  pub place : ℕ
  pub ticks : PerRole ℕ
  pub labels : Labels
  pub logs : Logs

-- the beginning, where nothing has come to pass
abbrev pub start : EndParams → History
start params =
    record {
      world = beginning params;
      place = 0;
      ticks =
          record { device = 0; gateway = 0 };
      labels = no_labels;
      logs = no_logs;
    }

abbrev pub happening : History → Event → Happening
happening h event = happening_in h.world h.labels event

-- A key's sender and receiver.

unfoldable pub sender_at : WorldData → Key → Option Session
sender_at w key = found key.id (end_of w (sender key.way)).sessions.senders

-- one of the key's mode that keeps nothing, where the end has none
abbrev pub new_reception : Key → Reception
new_reception key = record { receiver = new_receiver (mode_of key); left = None }

unfoldable pub reception_at : WorldData → Key → Reception
reception_at w key =
    unwrap_or (found key.id (end_of w (taker key.way)).sessions.receivers) (new_reception key)

-- Packets that are handed down, and those that wait.

unfoldable pub downs_after : History → Happening → List HandedDown
downs_after h (Waits role packet accepted) =
    h.logs.downs ++ handed_down h.place (sent_direction role) packet accepted ∷ []
downs_after h happening = h.logs.downs

-- a packet that goes whole, or in a session, waits no longer
abbrev pub one_less : PerRole (List ℕ) → Role → PerRole (List ℕ)
one_less queued role = put_role queued role (drop 1 (at_role queued role))

unfoldable pub queued_given : PerRole (List ℕ) → Role → Given → PerRole (List ℕ)
queued_given queued role (Opens id session form bytes) = one_less queued role
queued_given queued role (Carries form) = one_less queued role
queued_given queued role given = queued

unfoldable pub queued_after : History → Happening → PerRole (List ℕ)
queued_after h (Waits role packet accepted) =
    put_role h.labels.queued role (at_role h.labels.queued role ++ length h.logs.downs ∷ [])
queued_after h (Gives role given) = queued_given h.labels.queued role given
queued_after h happening = h.labels.queued

-- Frames that are given, and sessions that begin.

-- an answer belongs to the session of what its receiver took last, a message to that of its key
-- that began last
unfoldable pub marks_given : History → Role → Given → List Mark
marks_given h role (Answers id reception bytes) =
    let key : Key = taken_key role id in
    MessageOf key (msg (held_by key h.labels).last (at_role h.ticks role) bytes) ∷ []
marks_given h role (Goes id session bytes) =
    let key : Key = sent_key role id in
    MessageOf key (msg (session_of key h.logs.begins) (at_role h.ticks role) bytes) ∷ []
marks_given h role (Opens id session form bytes) =
    MessageOf (sent_key role id)
    (msg (Some (length h.logs.begins)) (at_role h.ticks role) bytes) ∷ []
marks_given h role (Carries form) =
    WholeFrame (first_place (at_role h.labels.queued role)) (frame_of form) ∷ []
marks_given h role NoFrame = []

unfoldable pub sent_after : History → Happening → PerDirection (List Mark)
sent_after h (Gives role given) =
    let direction : Direction = sent_direction role in
    put_direction h.labels.sent direction
    (at_direction h.labels.sent direction ++ marks_given h role given)
sent_after h happening = h.labels.sent

abbrev pub begun_at : History → Session → Packed → Begun
begun_at h session form =
    record {
      time = h.place;
      place = length h.logs.begins;
      number = session.number;
      bits =
          form.bits;
    }

unfoldable pub begins_given : History → Role → Given → List Began
begins_given h role (Opens id session form bytes) =
    record {
      key = sent_key role id;
      it = begun_at h session form;
      down =
          first_place (at_role h.labels.queued role);
    } ∷ []
begins_given h role given = []

unfoldable pub begins_after : History → Happening → List Began
begins_after h (Gives role given) = h.logs.begins ++ begins_given h role given
begins_after h happening = h.logs.begins

-- Fragments that arrive.

-- what a fragment adds: what the receiver keeps of sessions, the check that is made, the check that
-- passed, and the session of its All-1
pub record Came : Type 0 where
  pub held : Held
  pub checks : List Check
  pub joins : List Check
  pub session : Option ℕ

unfoldable pub came_as : ℕ → Option ℕ → Held → Receiver → Message → List Bool → Came
came_as time label held receiver message payload =
    let session : Option ℕ = checked_label message label held.kept in
    let made : Option (List Bool) = receiver_checked message payload receiver in
    record {
      held = record {
        last = label_after (receiver_taken message payload receiver).1 label held.last;
        kept = kept_after made session held.kept;
      };
      checks = checks_of time session made;
      joins = checks_of time session (receiver_previewed message payload receiver);
      session = session;
    }

-- nothing, where the bytes are no message
unfoldable pub came_read : ℕ → Held → Receiver → Msg → Result Message WireFault → Came
came_read time held receiver m (Err fault) =
    record { held = held; checks = []; joins = []; session = None }
came_read time held receiver m (Ok message) =
    came_as time m.label held receiver message (payload_in message (octets m.bytes))

abbrev pub came : History → Key → Msg → Came
came h key m =
    came_read h.place (held_by key h.labels) (reception_at h.world key).receiver m
    (reading_in (mode_of key) side.Fragments m.bytes)

unfoldable pub held_after : History → Happening → PerDirection (List (Entry Held))
held_after h (Fragment key m) = hold key (came h key m).held h.labels.held
held_after h happening = h.labels.held

unfoldable pub checks_after : History → Happening → List (Keyed Check)
checks_after h (Fragment key m) = h.logs.checks ++ keyed key (came h key m).checks
checks_after h happening = h.logs.checks

unfoldable pub joins_after : History → Happening → List (Keyed Check)
joins_after h (Fragment key m) = h.logs.joins ++ keyed key (came h key m).joins
joins_after h happening = h.logs.joins

-- Packets that are handed up.

-- what the end says to a frame that arrives in this direction
abbrev pub handed : History → Direction → FrameData → Option Label → List HandedUp
handed h direction frame label =
    up_entries h.place direction (take_step (end_of h.world (taker direction)) frame).1.up label

unfoldable pub ups_after : History → Happening → List HandedUp
ups_after h (Arrives direction place frame) =
    h.logs.ups ++ handed h direction frame (Some (label.Whole place))
ups_after h (Fragment key m) =
    h.logs.ups ++ handed h key.way (marked_frame (MessageOf key m))
    (option_map label.Session (came h key m).session)
ups_after h (Answer key m) =
    h.logs.ups ++ handed h (other_direction key.way) (marked_frame (MessageOf key m)) None
ups_after h happening = h.logs.ups

-- Sessions that end.

-- this came of the session of the key that began last
abbrev pub ended : History → Key → Option ReportKind → List (Keyed LaneReport)
ended h key kind = keyed key (told h.place (session_of key h.logs.begins) kind)

unfoldable pub reports_given : History → Role → Given → List (Keyed LaneReport)
reports_given h role (Goes id session bytes) = ended h (sent_key role id) (kind_sent session)
reports_given h role (Opens id session form bytes) =
    keyed (sent_key role id) (told h.place (Some (length h.logs.begins)) (kind_sent session))
reports_given h role given = []

unfoldable pub reports_heard : History → Key → Msg → List (Keyed LaneReport)
reports_heard h key m =
    ended h key
    (heard_by (end_of h.world (sender key.way)).params.ticks (sender_at h.world key)
    (reading_in (mode_of key) side.Answers m.bytes)).1

unfoldable pub reports_ticked : History → Role → List (Keyed LaneReport)
reports_ticked h role =
    let end : EndData = end_of h.world role in
    let key : Key = sent_key role (own_key end) in
    ended h key (ticked_by end.params.ticks (sender_at h.world key)).1

unfoldable pub reports_given_up : History → Role → SessionKey → List (Keyed LaneReport)
reports_given_up h role id =
    let key : Key = sent_key role id in
    ended h key (aborted_by (end_of h.world role).params.ticks (sender_at h.world key)).1

unfoldable pub reports_after : History → Happening → List (Keyed LaneReport)
reports_after h (Gives role given) = h.logs.reports ++ reports_given h role given
reports_after h (Answer key m) = h.logs.reports ++ reports_heard h key m
reports_after h (Ticks target.Device) = h.logs.reports ++ reports_ticked h Device
reports_after h (Ticks target.Gateway) = h.logs.reports ++ reports_ticked h Gateway
reports_after h (Ticks target.Both) =
    (h.logs.reports ++ reports_ticked h Device) ++ reports_ticked h Gateway
reports_after h (GivesUp role id) = h.logs.reports ++ reports_given_up h role id
reports_after h happening = h.logs.reports

-- Time.

unfoldable pub ticks_after : History → Happening → PerRole ℕ
ticks_after h (Ticks target.Device) = put_role h.ticks Device (h.ticks.device + 1)
ticks_after h (Ticks target.Gateway) = put_role h.ticks Gateway (h.ticks.gateway + 1)
ticks_after h (Ticks target.Both) =
    record { device = h.ticks.device + 1; gateway = h.ticks.gateway + 1 }
ticks_after h happening = h.ticks

-- the history after something happened that left this world
unfoldable pub after : History → WorldData → Happening → History
after h world happening = record {
  world = world;
  place = h.place + 1;
  ticks = ticks_after h happening;
  labels = record {
    queued = queued_after h happening;
    sent = sent_after h happening;
    held = held_after h happening;
  };
  logs = record {
    downs = downs_after h happening;
    ups = ups_after h happening;
    begins = begins_after h happening;
    checks = checks_after h happening;
    joins = joins_after h happening;
    reports = reports_after h happening;
  };
}

-- the history after the event
unfoldable pub next : History → Event → History
next h event = after h (step h.world event).0 (happening h event)

-- the history after all the events, in their order
abbrev pub run : List Event → History → History
run [] h = h
run (event ∷ events) h = run events (next h event)
