-- What holds of every run of what was sent and joined.
use Rattle.std.specs.Prelude.{ℕ, List, []}
use Rattle.lanes.specs.Events.{LaneEvent, Possible}
use Rattle.lanes.specs.Honest.{IsRcsOf, IsHonest}
use Rattle.lanes.specs.Lane.{LaneParams, AreLaneParams, Check, Lane, new_lane}
use Rattle.lanes.specs.Laws.{IsRightJoin, Checked, IsPadded, JoinsPadded}
use Rattle.lanes.specs.Runs.{ArePossible, lane_after}
use Rattle.lanes.proofs.ListLemmas.{all-weaken}
use Rattle.lanes.proofs.RunLemmas.{IsKept, run-keeps}
use Rattle.lanes.proofs.SenderKept.{SenderKeeps, sender-step}
use Rattle.lanes.proofs.OutKept.{OutKeeps, out-step}
use Rattle.lanes.proofs.JoinsKept.{KeptKeeps, JoinsKeep, kept-begins, kept-step, joins-step}

-- the sender is that of the last session; each All-1 that was sent or is kept, and each assembly
-- that passed a check, has the RCS of its session
pub record CheckedKeeps (l : Lane) : Type 0 where
  pub sender : SenderKeeps l
  pub out : OutKeeps l
  pub kept : KeptKeeps l
  pub joins : JoinsKeep l

-- after a possible event, too, the sender is that of the last session, and each RCS its session's
pub checked-step : IsKept Possible CheckedKeeps
checked-step time l event p k =
    record {
      sender = sender-step time l event p k.sender;
      out = out-step time l event p k.sender k.out;
      kept = kept-step time l event p k.out k.kept;
      joins = joins-step time l event p k.out k.kept k.joins;
    }

-- a lane on which no session has begun has all that, where its parameters are a mode's and in range
pub checked-begins : (params : LaneParams) → AreLaneParams params → CheckedKeeps (new_lane params)
unfolding new_lane
checked-begins params are =
    record {
      sender = (are, tt);
      out = tt;
      kept =
          kept-begins (IsRcsOf params [] _) params.frag.mode;
      joins = tt;
    }

-- after a possible run the sender is that of the last session, and each RCS is its session's
pub run-checked : (params : LaneParams) (events : List (ℕ × LaneEvent)) → AreLaneParams params
    → ArePossible params events → CheckedKeeps (lane_after params events)
run-checked params events are possible =
    run-keeps Possible CheckedKeeps checked-step events (new_lane params) possible
    (checked-begins params are)

-- after a possible run each All-1 that was sent carries the RCS of its session, and each assembly
-- that passed a check has it
pub checked : Checked
checked params events are possible =
    let k = run-checked params events are possible in record { sent = k.out; joined = k.joins }

pub padded-join : (l : Lane) (join : Check) → IsHonest l
    → IsRightJoin l.params l.begins l.checks join → IsPadded l join
padded-join l join honest k =
    record {
      begun = k.session.begun;
      there = k.session.there;
      labelled = k.session.labelled;
      same_bits =
          honest join k.session.begun k.made k.session.there k.session.labelled k.session.same;
      earlier = k.earlier;
    }

-- where no wrong assembly has its session's RCS, each that passed a check is the padded packet of
-- its session, which had begun earlier
pub joins-padded : JoinsPadded
joins-padded params events are possible honest =
    let l : Lane = lane_after params events in
    all-weaken (IsRightJoin l.params l.begins l.checks) (IsPadded l) l.joins
    (λ join. padded-join l join honest) (run-checked params events are possible).joins
