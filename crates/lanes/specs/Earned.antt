-- What a report of delivery says.
use Rattle.std.specs.Prelude.{ℕ, ◌≡◌, ◌<◌, List, Option, Some}
use Rattle.schc_ids.specs.declared.notes.ReportKind.TheVariants.{Delivered}
use Rattle.tiles_bitmap.specs.Places.{Among}
use Rattle.lanes.specs.Lane.{Begun, Check, LaneReport, Lane, padded_of}

-- a check of this session passed before this time
pub record IsJoinedBefore (joins : List Check) (label : Option ℕ) (time : ℕ) : Type 0 where
  pub join : Check
  pub there : Among join joins
  pub of_it : join.session ≡ label
  pub earlier : join.time < time

-- where it is one of delivery, a check of its session passed earlier
abbrev pub IsEarned : List Check → LaneReport → Type 0
IsEarned joins report = report.kind ≡ Delivered → IsJoinedBefore joins report.session report.time

-- and the assembly was the session's padded packet
pub record IsArrived (l : Lane) (report : LaneReport) : Type 0 where
  pub begun : Begun
  pub began : Among begun l.begins
  pub of_session : report.session ≡ Some begun.place
  pub join : Check
  pub joined : Among join l.joins
  pub same_session : join.session ≡ report.session
  pub same_bits : join.assembly ≡ padded_of l.params begun.bits
  pub earlier : join.time < report.time
