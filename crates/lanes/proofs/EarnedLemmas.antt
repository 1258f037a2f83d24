-- What holds of every fresh run of what was reported delivered.
use Rattle.std.specs.Prelude.{ℕ, ◌≡◌, List, [], None}
use Rattle.std.proofs.Common.{refl, sym, ◌∙◌}
use Rattle.std.specs.List.{AllByRecursion}
use Rattle.schc_ids.specs.declared.fragments.FragMode.{FragMode}
use Rattle.schc_ids.specs.declared.fragments.FragMode.TheVariants as mode
use Rattle.schc_ids.specs.declared.notes.ReportKind.TheVariants.{Delivered}
use Rattle.schc_ids.specs.declared.phases.ReceiverPhase.{ReceiverPhase}
use Rattle.schc_ids.specs.declared.phases.ReceiverPhase.TheVariants.{Empty}
use Rattle.aoe_receiver.specs.State as aoe
use Rattle.sessions.specs.Receivers.{new_receiver, receiver_mode, receiver_phase}
use Rattle.lanes.specs.Earned.{IsEarned, IsArrived}
use Rattle.lanes.specs.Events.{LaneEvent, Possible}
use Rattle.lanes.specs.Fresh.{IsFresh, AreFresh}
use Rattle.lanes.specs.Honest.{IsHonest}
use Rattle.lanes.specs.Lane.{LaneParams, LaneReport, Lane, new_lane}
use Rattle.lanes.specs.Laws.{IsRightJoin, Earned, Arrived}
use Rattle.lanes.specs.Runs.{ArePossible, lane_after}
use Rattle.lanes.proofs.CheckedLemmas.{run-checked}
use Rattle.lanes.proofs.EarnedKept.{IsLastLabel, PhaseIs, ReceiverKeeps, BackKeeps, ReportsKeep}
use Rattle.lanes.proofs.EarnedKept.{receiver-step, back-step, reports-step}
use Rattle.lanes.proofs.JoinsKept.{kept-begins}
use Rattle.lanes.proofs.ListLemmas.{all-weaken, all-among}
use Rattle.lanes.proofs.RunLemmas.{IsKept, run-keeps, along-both}

-- the receiver keeps what is of the last session; an ACK with a C of 1, and a report of delivery,
-- is of one that was joined
pub record EarnedKeeps (l : Lane) : Type 0 where
  pub receiver : ReceiverKeeps l
  pub back : BackKeeps l
  pub reports : ReportsKeep l

-- after a fresh and possible event, too, ACKs with a C of 1 and deliveries are of joined sessions
pub earned-step : IsKept (λ time l event. Possible time l event × IsFresh time l event) EarnedKeeps
earned-step time l event p k =
    record {
      receiver = receiver-step time l event p.1 k.receiver;
      back = back-step time l event k.receiver k.back;
      reports = reports-step time l event p.0 p.1 k.back k.reports;
    }

new-mode : (m : FragMode) → receiver_mode (new_receiver m) ≡ m
unfolding new_receiver
new-mode mode.NoAck = refl
new-mode mode.AckAlways = refl
new-mode mode.AckOnError = refl

-- a new receiver is empty, in each mode
pub new-phase : (P : ReceiverPhase → Type 0) (m : FragMode) → P Empty
    → P (receiver_phase (new_receiver m))
unfolding new_receiver receiver_phase aoe.receiver_phase aoe.empty_receiver
new-phase P mode.NoAck k = k
new-phase P mode.AckAlways k = k
new-phase P mode.AckOnError k = k

-- on a lane on which no session has begun this holds of the receiver, the answers and the reports
pub earned-begins : (params : LaneParams) → EarnedKeeps (new_lane params)
unfolding new_lane
earned-begins params =
    record {
      receiver =
          record {
            mode_is = new-mode params.frag.mode;
            phase_is = new-phase (PhaseIs [] [] None) params.frag.mode tt;
            kept_is = kept-begins (IsLastLabel [] None) params.frag.mode;
          };
      back = tt;
      reports = tt;
    }

pub run-earned : (params : LaneParams) (events : List (ℕ × LaneEvent)) → ArePossible params events
    → AreFresh params events → EarnedKeeps (lane_after params events)
run-earned params events possible fresh =
    run-keeps (λ time l event. Possible time l event × IsFresh time l event) EarnedKeeps earned-step
    events (new_lane params)
    (along-both Possible IsFresh events (new_lane params) possible fresh) (earned-begins params)

-- in a fresh run each session that is reported delivered was joined earlier
pub earned : Earned
earned params events possible fresh = (run-earned params events possible fresh).reports

arrives : (l : Lane) (report : LaneReport) → IsHonest l
    → AllByRecursion (IsRightJoin l.params l.begins l.checks) l.joins → IsEarned l.joins report
    → report.kind ≡ Delivered → IsArrived l report
arrives l report honest joins earned e =
    let k = earned e in
    let right = all-among (IsRightJoin l.params l.begins l.checks) l.joins k.join k.there joins in
    record {
      begun = right.session.begun;
      began = right.session.there;
      of_session = sym k.of_it ∙ right.session.labelled;
      join = k.join;
      joined = k.there;
      same_session = k.of_it;
      same_bits =
          honest k.join right.session.begun right.made right.session.there right.session.labelled
          right.session.same;
      earlier = k.earlier;
    }

-- in a fresh run where no wrong assembly has a session's RCS, what was joined earlier is the padded
-- packet of the session that is reported delivered
pub arrived : Arrived
arrived params events are possible fresh honest =
    let l : Lane = lane_after params events in
    all-weaken (IsEarned l.joins) (λ report. report.kind ≡ Delivered → IsArrived l report) l.reports
    (λ report earned. arrives l report honest (run-checked params events are possible).joins earned)
    (run-earned params events possible fresh).reports
