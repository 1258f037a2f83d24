-- What a step keeps, a run keeps.
use Rattle.std.proofs.Common.{◌≡◌, ℕ, List, [], ◌∷◌, ◌++◌, refl}
use Rattle.lanes.specs.Events.{LaneEvent}
use Rattle.lanes.specs.Lane.{Lane}
use Rattle.lanes.specs.Runs.{lane_run, lane_steps, timed, Along, AlongRun}
use Rattle.lanes.specs.Step.{lane_step}

-- where the event is so, the step keeps this
abbrev pub IsKept : (ℕ → Lane → LaneEvent → Type 0) → (Lane → Type 0) → Type 0
IsKept Q P = (time : ℕ) (l : Lane) (event : LaneEvent) → Q time l event → P l
    → P (lane_step time l event)

-- what each event that is so keeps, a run of such events keeps
pub run-keeps : (Q : ℕ → Lane → LaneEvent → Type 0) (P : Lane → Type 0) → IsKept Q P
    → (events : List (ℕ × LaneEvent)) (l : Lane) → AlongRun Q l events → P l → P (lane_run l events)
run-keeps Q P kept [] l along p = p
run-keeps Q P kept (event ∷ events) l along p =
    run-keeps Q P kept events (lane_step event.0 l event.1) along.1
    (kept event.0 l event.1 along.0 p)

-- where the events of a run are each the one and each the other, each is both
pub along-both : (Q R : ℕ → Lane → LaneEvent → Type 0) (events : List (ℕ × LaneEvent)) (l : Lane)
    → AlongRun Q l events → AlongRun R l events
    → AlongRun (λ time l event. Q time l event × R time l event) l events
along-both Q R [] l q r = tt
along-both Q R (event ∷ events) l q r =
    ((q.0, r.0), along-both Q R events (lane_step event.0 l event.1) q.1 r.1)

-- one run and then another
pub run-append : (events more : List (ℕ × LaneEvent)) (l : Lane)
    → lane_run l (events ++ more) ≡ lane_run (lane_run l events) more
run-append [] more l = refl
run-append (event ∷ events) more l = run-append events more (lane_step event.0 l event.1)

-- where the events of a run, and of another one after it, are so, those of both together are
pub along-append : (Q : ℕ → Lane → LaneEvent → Type 0) (events more : List (ℕ × LaneEvent))
    (l : Lane) → AlongRun Q l events → AlongRun Q (lane_run l events) more
    → AlongRun Q l (events ++ more)
along-append Q [] more l q r = r
along-append Q (event ∷ events) more l q r =
    (q.0, along-append Q events more (lane_step event.0 l event.1) q.1 r)

-- events of one time
pub run-timed : (time : ℕ) (events : List LaneEvent) (l : Lane)
    → lane_run l (timed time events) ≡ lane_steps time l events
run-timed time [] l = refl
run-timed time (event ∷ events) l = run-timed time events (lane_step time l event)

pub along-timed : (Q : ℕ → Lane → LaneEvent → Type 0) (time : ℕ) (events : List LaneEvent)
    (l : Lane) → Along Q time l events → AlongRun Q l (timed time events)
along-timed Q time [] l q = tt
along-timed Q time (event ∷ events) l q =
    (q.0, along-timed Q time events (lane_step time l event) q.1)
