-- What holds of every fresh run of the tiles that a receiver holds.
use Rattle.std.specs.Prelude.{◌≡◌}
use Rattle.std.proofs.Common.{refl, subst, ◌∙◌}
use Rattle.schc_ids.specs.declared.phases.ReceiverPhase.TheVariants as phase
use Rattle.lanes.specs.Events.{Possible}
use Rattle.lanes.specs.Fresh.{IsFresh}
use Rattle.lanes.specs.Held.{HoldsOf}
use Rattle.lanes.specs.Lane.{LaneParams, AreLaneParams, Lane, last_item, new_lane}
use Rattle.lanes.specs.Laws.{HoldsTiles}
use Rattle.lanes.specs.Runs.{lane_after}
use Rattle.lanes.proofs.CheckedLemmas.{CheckedKeeps, checked-step, checked-begins}
use Rattle.lanes.proofs.EarnedLemmas.{EarnedKeeps, earned-step, earned-begins, new-phase}
use Rattle.lanes.proofs.HeldKept.{BeginsKeep, begins-step, RunsKeep, runs-step, HeldKeeps}
use Rattle.lanes.proofs.HeldKept.{held-step}
use Rattle.lanes.proofs.ParamsKept.{params-step}
use Rattle.lanes.proofs.RunLemmas.{IsKept, run-keeps, along-both}

pub record TilesKeep (params : LaneParams) (l : Lane) : Type 0 where
  pub params_are : l.params ≡ params
  pub checked : CheckedKeeps l
  pub earned : EarnedKeeps l
  pub begins : BeginsKeep l
  pub runs : RunsKeep l
  pub held : HeldKeeps l

pub tiles-step : (params : LaneParams)
    → IsKept (λ time l event. Possible time l event × IsFresh time l event) (TilesKeep params)
tiles-step params time l event p k =
    record {
      params_are = params-step time l event ∙ k.params_are;
      checked = checked-step time l event p.0 k.checked;
      earned = earned-step time l event p k.earned;
      begins = begins-step time l event p.0 k.begins;
      runs = runs-step time l event p.0 k.checked.sender k.runs;
      held = held-step time l event p.0 p.1 k.checked.sender.0 k.begins k.earned.receiver k.runs
          k.held;
    }

new-params : (params : LaneParams) → (new_lane params).params ≡ params
unfolding new_lane
new-params params = refl

new-begins : (params : LaneParams) → BeginsKeep (new_lane params)
unfolding new_lane
new-begins params = (tt, tt)

new-runs : (params : LaneParams) → RunsKeep (new_lane params)
unfolding new_lane
new-runs params = tt

new-held : (params : LaneParams) → HeldKeeps (new_lane params)
unfolding new_lane
new-held params = new-phase (λ at. at ≡ phase.Empty) params.frag.mode refl

pub tiles-begin : (params : LaneParams) → AreLaneParams params → TilesKeep params (new_lane params)
tiles-begin params are =
    record {
      params_are = new-params params;
      checked = checked-begins params are;
      earned = earned-begins params;
      begins = new-begins params;
      runs = new-runs params;
      held = new-held params;
    }

-- in a fresh run the tiles that a receiver of ACK-on-Error holds while it gathers are tiles of the
-- session that began last, each at the place with its number
pub holds-tiles : HoldsTiles
holds-tiles params events are possible fresh =
    let l : Lane = lane_after params events in
    let k : TilesKeep params l =
    run-keeps (λ time l event. Possible time l event × IsFresh time l event) (TilesKeep params)
    (tiles-step params) events (new_lane params)
    (along-both Possible IsFresh events (new_lane params) possible fresh) (tiles-begin params are)
    in
    subst (λ (p : LaneParams). HoldsOf p (last_item l.begins) l.reception.receiver) k.params_are
    k.held
