-- Runs in which sessions don't meet what is left of earlier ones, runs in which a check tells right
-- from wrong, and what a report of delivery says then.
use Rattle.std.specs.Prelude.{◌≡◌, ◌<◌, Bool, List, Some}
use Rattle.std.specs.List.{AllByRecursion}
use Rattle.schc_ids.specs.declared.ends.EndParams.{EndParams}
use Rattle.schc_ids.specs.declared.notes.ReportKind.TheVariants.{Delivered}
use Rattle.rcs.specs.Division.{rcs_of}
use Rattle.tiles_bitmap.specs.Places.{Among}
use Rattle.event_data.specs.Events.{Event}
use Rattle.lanes.specs.Fresh.{AreFresh}
use Rattle.lanes.specs.Lane.{Check, LaneReport, padded_of}
use Rattle.two_ends.specs.History.{History, start}
use Rattle.two_ends.specs.Keys.{Key, Keyed, lane_params}
use Rattle.two_ends.specs.Lanes.{lane_run}
use Rattle.two_ends.specs.Logs.{Began}

-- RFC 8724, section 8.2.3: the SCHC packet of a session, with the padding that the RCS is made over
abbrev pub padded_session : EndParams → Began → List Bool
padded_session params began = padded_of (lane_params params began.key) began.it.bits

-- no assembly over which a check was made has the RCS of the session of the All-1 without being
-- that session's padded packet
abbrev pub IsHonest : EndParams → History → Type 0
IsHonest params h =
    (check : Keyed Check) (began : Began) → Among check h.logs.checks → Among began h.logs.begins →
    check.key ≡ began.key → check.it.session ≡ Some began.it.place →
    rcs_of check.it.assembly ≡ rcs_of (padded_session params began)
    → check.it.assembly ≡ padded_session params began

-- for each key: a fragment or an ACK is delivered only while no later session of the key has begun,
-- and where a session begins, the receiver of its key is empty, so that no answer is due
abbrev pub IsFresh : EndParams → List Event → Type 0
IsFresh params events = (key : Key)
    → AreFresh (lane_params params key) (lane_run key (start params) events)

-- an earlier check of the session passed, over its padded packet
pub record IsArrived (params : EndParams) (h : History) (report : Keyed LaneReport) : Type 0 where
  pub began : Began
  pub there : Among began h.logs.begins
  pub same_key : began.key ≡ report.key
  pub of_session : report.it.session ≡ Some began.it.place
  pub join : Keyed Check
  pub joined : Among join h.logs.joins
  pub its_key : join.key ≡ report.key
  pub its_session : join.it.session ≡ report.it.session
  pub same_bits : join.it.assembly ≡ padded_session params began
  pub earlier : join.it.time < report.it.time

-- each session that was reported delivered was put together before, and as it was
abbrev pub IsEarned : EndParams → History → Type 0
IsEarned params h =
    AllByRecursion (λ report. report.it.kind ≡ Delivered → IsArrived params h report) h.logs.reports
