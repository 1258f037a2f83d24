-- What the logs gain by an event is what its line tells: neither more nor less.
use Rattle.std.specs.Prelude.{ℕ, ◌≡◌, List, [], ◌∷◌, ◌++◌, map, Option, Some, None, Result, Ok}
use Rattle.std.specs.Prelude.{slice_get}
use Rattle.schc_ids.specs.Ends.{sent_direction}
use Rattle.schc_ids.specs.declared.ends.Direction.{Direction}
use Rattle.schc_ids.specs.declared.ends.EndParams.{EndParams}
use Rattle.schc_ids.specs.declared.ends.Role.{Role}
use Rattle.schc_ids.specs.declared.ends.Role.TheVariants.{Device, Gateway}
use Rattle.schc_ids.specs.declared.notes.Report.{Report}
use Rattle.event_data.specs.Events.{Event, Down, Slot, Deliver, Tick, Abort}
use Rattle.event_data.specs.declared.outcomes.EmitKind.{EmitKind}
use Rattle.event_data.specs.declared.outcomes.EmitKind.TheVariants as kind
use Rattle.event_data.specs.declared.outcomes.Emitted.{Emitted}
use Rattle.event_data.specs.declared.outcomes.Line.{Line}
use Rattle.event_data.specs.declared.outcomes.Line.TheVariants as line
use Rattle.event_data.specs.declared.outcomes.StepFault.{StepFault}
use Rattle.lanes.specs.Lane.{LaneReport}
use Rattle.two_ends.specs.Clean.{outcome}
use Rattle.two_ends.specs.Fits.{Fits}
use Rattle.two_ends.specs.History.{History, start, next, run}
use Rattle.two_ends.specs.Keys.{Keyed}
use Rattle.two_ends.specs.Logs.{HandedDown, HandedUp, Began, handed_down, up_entries}
use Rattle.two_ends.specs.World.{taker}

-- the packet that was handed down by the event of this place, where its line says that it was taken
abbrev pub told_downs : ℕ → Event → Result Line StepFault → List HandedDown
told_downs place (Down role packet) (Ok (line.Hand accepted)) =
    handed_down place (sent_direction role) packet accepted ∷ []
told_downs place event said = []

-- the packet that was handed up, where its line tells one. A label isn't told
abbrev pub told_ups : ℕ → Event → Result Line StepFault → List HandedUp
told_ups place (Deliver direction number) (Ok (line.Deliver taken)) =
    up_entries place direction taken.up None
told_ups place event said = []

abbrev pub without_label : HandedUp → HandedUp
without_label up = record up { label = None }

-- a session that began, as far as a line tells it: by which event, in which direction its fragments
-- go and by which port, and its number
pub record Opening : Type 0 where
  pub place : ℕ
  pub direction : Direction
  pub port : ℕ
  pub number : ℕ

abbrev pub opening_of : Began → Opening
opening_of began = record {
  place = began.it.time;
  direction = began.key.way;
  port = began.key.id.port;
  number = began.it.number;
}

-- a frame with which a session begins
abbrev pub opened : ℕ → Role → Emitted → EmitKind → List Opening
opened place role emitted (kind.Begins number) = record {
  place = place;
  direction = sent_direction role;
  port = emitted.frame.port;
  number = number;
} ∷ []
opened place role emitted other = []

abbrev pub told_begins : ℕ → Event → Result Line StepFault → List Opening
told_begins place (Slot role) (Ok (line.Slot (Some emission))) =
    opened place role emission.emitted emission.emitted.kind
told_begins place event said = []

-- a report that a line has, and the end whose session it is
pub record Said : Type 0 where
  pub role : Role
  pub report : Report

abbrev pub said_at : Role → Option Report → List Said
said_at role None = []
said_at role (Some report) = record { role = role; report = report } ∷ []

abbrev pub told_reports : Event → Result Line StepFault → List Said
told_reports (Slot role) (Ok (line.Slot (Some emission))) = said_at role emission.emitted.report
told_reports (Deliver direction number) (Ok (line.Deliver taken)) =
    said_at (taker direction) taken.report
told_reports (Tick target) (Ok (line.Tick device gateway)) =
    said_at Device device ++ said_at Gateway gateway
told_reports (Abort role) (Ok (line.Abort report)) = said_at role report
told_reports event said = []

-- the report of the log is this one of the line of the event of this place: of a session that this
-- end began, at its place in the log, with the number that the line has, and of how it ended
pub record IsReportOf (place : ℕ) (begins : List Began) (report : Keyed LaneReport) (said : Said) :
    Type 0 where
  pub now : report.it.time ≡ place
  pub from_there : report.key.way ≡ sent_direction said.role
  pub began : Began
  pub its_key : began.key ≡ report.key
  pub its_session : report.it.session ≡ Some began.it.place
  pub stands : slice_get begins began.it.place ≡ Some began
  pub its_number : began.it.number ≡ said.report.session
  pub its_kind : report.it.kind ≡ said.report.kind

-- the reports are those of the line, in their order
abbrev pub AreReportsOf : ℕ → List Began → List (Keyed LaneReport) → List Said → Type 0
AreReportsOf place begins [] [] = Unit {0}
AreReportsOf place begins [] (said ∷ more) = ⊥
AreReportsOf place begins (report ∷ reports) [] = ⊥
AreReportsOf place begins (report ∷ reports) (said ∷ more) =
    IsReportOf place begins report said × AreReportsOf place begins reports more

-- by the event the logs gain what its line tells: the packet that was handed down, the one that was
-- handed up, the session that began, and the reports
pub record IsTold (h : History) (event : Event) : Type 0 where
  pub downs :
      (next h event).logs.downs ≡ h.logs.downs ++ told_downs h.place event
      (outcome h.world event)
  pub new_ups : List HandedUp
  pub ups : (next h event).logs.ups ≡ h.logs.ups ++ new_ups
  pub ups_told : map without_label new_ups ≡ told_ups h.place event (outcome h.world event)
  pub new_begins : List Began
  pub begins : (next h event).logs.begins ≡ h.logs.begins ++ new_begins
  pub begins_told : map opening_of new_begins ≡ told_begins h.place event (outcome h.world event)
  pub new_reports : List (Keyed LaneReport)
  pub reports : (next h event).logs.reports ≡ h.logs.reports ++ new_reports
  pub reports_told :
      AreReportsOf h.place (next h event).logs.begins new_reports
      (told_reports event (outcome h.world event))

-- so it is for each event, in every world that events lead to
abbrev pub LogsTell : Type 0
LogsTell =
    (params : EndParams) (events : List Event) → Fits params events →
    (event : Event) → IsTold (run events (start params)) event
