-- What holds of every run of a lane.
use Rattle.std.specs.Prelude.{ℕ, ◌≡◌, ◌<◌, List, Some, Ok}
use Rattle.std.specs.List.{AllByRecursion}
use Rattle.schc_ids.specs.declared.fragments.Side.TheVariants as side
use Rattle.schc_ids.specs.declared.notes.ReportKind.TheVariants.{Delivered}
use Rattle.frag_wire.specs.Spells.{reading_in}
use Rattle.frag_wire.specs.declared.message.Message.TheVariants as form
use Rattle.rcs.specs.Division.{rcs_of}
use Rattle.tiles_bitmap.specs.Places.{Among}
use Rattle.lanes.specs.Earned.{IsEarned, IsArrived}
use Rattle.lanes.specs.Events.{LaneEvent}
use Rattle.lanes.specs.Fresh.{AreFresh}
use Rattle.lanes.specs.Held.{HoldsOf}
use Rattle.lanes.specs.Honest.{IsRcsOf, IsHonest}
use Rattle.lanes.specs.Lane.{Begun, Check, Lane, LaneParams, AreLaneParams, Msg, last_item}
use Rattle.lanes.specs.Lane.{padded_of}
use Rattle.lanes.specs.Runs.{ArePossible, lane_after}
use Rattle.lanes.specs.Waiting.{IsWaitingWell}

-- where the bytes are an All-1, its RCS is that of its session
abbrev pub IsRightMsg : LaneParams → List Begun → Msg → Type 0
IsRightMsg params begins m =
    (w rcs from : ℕ)
    → reading_in params.frag.mode side.Fragments m.bytes ≡ Ok (form.All1 w rcs from) →
    IsRcsOf params begins m.label rcs

-- the check that passed is one of those made; its session had begun earlier, and the assembly has
-- its RCS
pub record IsRightJoin (params : LaneParams) (begins : List Begun) (checks : List Check)
    (join : Check) : Type 0 where
  pub made : Among join checks
  pub session : IsRcsOf params begins join.session (rcs_of join.assembly)
  pub earlier : session.begun.time < join.time

-- each All-1 carries the RCS of its session, and so does each assembly that passed a check
pub record IsChecked (l : Lane) : Type 0 where
  pub sent : AllByRecursion (IsRightMsg l.params l.begins) l.out
  pub joined : AllByRecursion (IsRightJoin l.params l.begins l.checks) l.joins

abbrev pub Checked : Type 0
Checked =
    (params : LaneParams) (events : List (ℕ × LaneEvent)) → AreLaneParams params
    → ArePossible params events →
    IsChecked (lane_after params events)

-- the assembly is the padded packet of its session, which had begun earlier
pub record IsPadded (l : Lane) (join : Check) : Type 0 where
  pub begun : Begun
  pub there : Among begun l.begins
  pub labelled : join.session ≡ Some begun.place
  pub same_bits : join.assembly ≡ padded_of l.params begun.bits
  pub earlier : begun.time < join.time

abbrev pub JoinsPadded : Type 0
JoinsPadded =
    (params : LaneParams) (events : List (ℕ × LaneEvent)) → AreLaneParams params
    → ArePossible params events →
    IsHonest (lane_after params events)
    → AllByRecursion (IsPadded (lane_after params events)) (lane_after params events).joins

-- in a fresh run each session that is reported delivered was joined earlier
abbrev pub Earned : Type 0
Earned =
    (params : LaneParams) (events : List (ℕ × LaneEvent)) → ArePossible params events
    → AreFresh params events →
    AllByRecursion (IsEarned (lane_after params events).joins) (lane_after params events).reports

-- and where no wrong assembly has a session's RCS, what was joined is its padded packet
abbrev pub Arrived : Type 0
Arrived =
    (params : LaneParams) (events : List (ℕ × LaneEvent)) → AreLaneParams params
    → ArePossible params events →
    AreFresh params events → IsHonest (lane_after params events) →
    AllByRecursion (λ report. report.kind ≡ Delivered → IsArrived (lane_after params events) report)
    (lane_after params events).reports

-- a sender that waits for an answer has nothing to send, and has made one request to eight
abbrev pub WaitsWell : Type 0
WaitsWell =
    (params : LaneParams) (events : List (ℕ × LaneEvent)) → AreLaneParams params
    → ArePossible params events →
    IsWaitingWell (lane_after params events).sender

-- in a fresh run the tiles that a receiver of ACK-on-Error holds while it gathers are tiles of the
-- session that began last
abbrev pub HoldsTiles : Type 0
HoldsTiles =
    (params : LaneParams) (events : List (ℕ × LaneEvent)) → AreLaneParams params
    → ArePossible params events →
    AreFresh params events →
    HoldsOf params (last_item (lane_after params events).begins)
    (lane_after params events).reception.receiver
